use Rattle.std.proofs.Common.{rules, ◌≡◌, ◌∷◌, ◌+◌, false, List, ap, is_some, subst, sym, ◌∙◌, reverse, take, take_all}
use Rattle.aid_filings.specs.declared.filing.Filing.{Filing}
use Rattle.office_history.specs.Past.{pell_payment_in}
use Rattle.office_history.proofs.Slices.{one_more}
use Rattle.office_plain.proofs.NoPell.{MarksTerms, terms_more, terms_stay}
use Rattle.office_plain.proofs.plain.PlainHistory.pell_terms.Goals as goal
use Rattle.office_plain.proofs.plain.PlainHistory.pell_terms.Goals.{in-Some, in_default}

pub loop-filing-preserved : goal.loop-filing-preserved
loop-filing-preserved c =
    let h = c.self.inside.filings.now in
    let i = c.loop-filing.filing-index in
    let f = c.filing-item.result in
    let past = reverse (take i h) in
    let student = c.args.student in
    let next : f ∷ past ≡ reverse (take (i + 1) h) = sym (one_more h i f c.loop-filing-test.true c.filing-item.is) in
    subst (λ (l : List Filing). MarksTerms l student c.match-pell_in.terms) next
    (elim c.match-pell_in.branch [
      | in-Some w ↦
          subst (MarksTerms (f ∷ past) student) (sym w.terms-is)
          (terms_more past f w.in-Some.payment.now student w.mark.result c.loop-filing.terms c.loop-filing.invariant (search rules) w.mark.ensures.value)
      | in_default w ↦
          let none : pell_payment_in student f.what ≡ false = sym c.pell_in.ensures.some ∙ ap is_some w.in_default.is in
          subst (MarksTerms (f ∷ past) student) (sym w.terms-is) (terms_stay past f student c.loop-filing.terms c.loop-filing.invariant none)
    ])

pub returns : goal.returns
returns c =
    let whole : reverse (take c.loop-filing.filing-index c.self.inside.filings.now) ≡ c.args.self.now = ap (λ (l : List Filing). reverse l) (take_all _ _ c.loop-filing-test.false) ∙ c.self.view_is in
    subst (λ (l : List Filing). MarksTerms l c.args.student c.loop-filing.terms) whole c.loop-filing.invariant
