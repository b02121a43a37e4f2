use Rattle.std.proofs.Common.{rules, ap, ◌∙◌, w32, FitsSigned}
use Rattle.std.proofs.lemmas.Int.{to_z-of_z}
use Rattle.law_pell.specs.Award.{decision}
use Rattle.office_history.specs.Award.{scheduled_of}
use Rattle.office_history.proofs.Greatest.{award_at_most}
use Rattle.office_history.proofs.decided.award.Goals as goal

pub returns-clause-value : goal.returns-clause-value
unfolding scheduled_of
returns-clause-value c =
    let fits : FitsSigned w32 c.index.result.index = search rules in
    ap (λ d. d.scheduled) c.decide.ensures.value
    ∙ ap (λ i. (decision c.args.book.now c.args.application.now i).scheduled) (to_z-of_z w32 c.index.result.index fits)
    ∙ ap (λ i. (decision c.args.book.now c.args.application.now i).scheduled) c.index.ensures.index

pub returns-clause-at_most : goal.returns-clause-at_most
returns-clause-at_most c = award_at_most c.args.book.now.pell c.decide.result.scheduled c.decide.ensures.award
