use Rattle.std.proofs.Common.{rules, ap, ◌∙◌, w32, FitsSigned}
use Rattle.std.proofs.lemmas.Int.{to_z-of_z}
use Rattle.law_pell.specs.Award.{decision}
use Rattle.office_history.proofs.decided.decision.Goals as goal

pub returns : goal.returns
returns c =
    let fits : FitsSigned w32 c.index.result.index = search rules in
    c.decide.ensures.value
    ∙ ap (decision c.args.book.now c.args.application.now) (to_z-of_z w32 c.index.result.index fits)
    ∙ ap (decision c.args.book.now c.args.application.now) c.index.ensures.index
