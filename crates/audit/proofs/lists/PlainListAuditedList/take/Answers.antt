use Rattle.std.proofs.Common.{◌∙◌, ap, sym, subst, ℕ, List, [], ◌∷◌, reverse, Option}
use Rattle.std.specs.List.{list_any}
use Rattle.std.proofs.lemmas.List.{reverse-append}
use Rattle.aid_filings.specs.declared.filing.Filing.{Filing}
use Rattle.office_history.specs.Answer.{answer_of, is_admit}
use Rattle.office_history.specs.Past.{same_key}
use Rattle.audit.specs.Lists.{IsTaken}
use Rattle.audit.proofs.Taken.{admitted_taken, any_used, none_used, refused_bad}
use Rattle.audit.proofs.lists.PlainListAuditedList.take.Goals as goal

pub returns-then-is_some : goal.returns-then-is_some
returns-then-is_some c =
    let f = c.args.filing in
    let fs = c.args.self.now.filings.items in
    let judged = c.new.ensures ∙ ap (λ (l : List Filing). reverse l) c.deref.ensures.value in
    let admitted = sym (ap (λ (past : List Filing). is_admit (answer_of past f)) judged) ∙ sym c.rule_on.ensures.admitted ∙ sym c.is_some.ensures ∙ c.if-is_some.true in
    admitted_taken (reverse fs) _ f c.requires.legal admitted (ap (λ (l : List Filing). reverse l) c.in_ok-push.ensures.items ∙ reverse-append fs (f ∷ []))

pub returns : goal.returns
returns c =
    let f = c.args.filing in
    let fs = c.args.self.now.filings.items in
    let judged = c.new.ensures ∙ ap (λ (l : List Filing). reverse l) c.deref.ensures.value in
    let refused = sym (ap (λ (past : List Filing). is_admit (answer_of past f)) judged) ∙ sym c.rule_on.ensures.admitted ∙ sym c.is_some.ensures ∙ c.if-is_some.false in
    let there = ap (list_any (λ (g : Filing). same_key f.key g.key)) (sym c.deref-2.ensures.value) ∙ sym c.is_used.ensures in
    subst (λ (o : Option ℕ). IsTaken (reverse fs) f (reverse fs) o) (sym c.why_bad.ensures)
    (refused_bad (reverse fs) (reverse fs) f c.is_used.result refused (λ is. any_used fs f (there ∙ is)) (λ not. none_used fs f (there ∙ not)))
