use Rattle.std.proofs.Common.{◌≡◌, List, subst, sym, ap, ◌∙◌, true}
use Rattle.aid_filings.specs.declared.filing.Filing.{Filing}
use Rattle.aid_filings.specs.declared.reply.Response.TheVariants.{Admit}
use Rattle.office_history.specs.Answer.{answer_of, is_admit, outcome_of}
use Rattle.office_history.proofs.Admitted.{admitted_is, admitted_legal}
use Rattle.office_index.specs.Register.{Register}
use Rattle.office_index.proofs.office.Office.admit_with.Goals as goal

pub admit-requires-clause-legal : goal.admit-requires-clause-legal
admit-requires-clause-legal c =
    let view : c.self.inside.indexed.history ≡ c.args.self.now.history = ap (λ (r : Register). r.history) c.self.view_is in
    let admitted : is_admit (answer_of c.args.self.now.history c.args.filing) ≡ true = ap is_admit c.requires.admitted in
    admitted_legal c.self.inside.indexed.history c.args.filing c.front-filings.ensures.legal
    (subst (λ (h : List Filing). is_admit (answer_of h c.args.filing) ≡ true) (sym view) admitted)

pub admit-requires-clause-outcome : goal.admit-requires-clause-outcome
admit-requires-clause-outcome c =
    let past = c.args.self.now.history in
    let view : c.self.inside.indexed.history ≡ past = ap (λ (r : Register). r.history) c.self.view_is in
    let same : Admit c.args.outcome ≡ Admit (outcome_of past c.args.filing) =
    sym c.requires.admitted ∙ admitted_is past c.args.filing (ap is_admit c.requires.admitted) in
    let is : c.args.outcome ≡ outcome_of past c.args.filing = cc in
    is ∙ ap (λ (h : List Filing). outcome_of h c.args.filing) (sym view)
