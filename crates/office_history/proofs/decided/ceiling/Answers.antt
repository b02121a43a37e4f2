use Rattle.std.proofs.Common.{rules, ap, ◌∙◌, w32, FitsSigned}
use Rattle.std.proofs.lemmas.Int.{to_z-of_z}
use Rattle.law_pell.specs.Award.{ceiling_at}
use Rattle.office_history.specs.Award.{ceiling_by}
use Rattle.office_history.proofs.decided.ceiling.Goals as goal

pub returns : goal.returns
unfolding ceiling_by
returns c =
    let fits : FitsSigned w32 c.index.result.index = search rules in
    c.ceiling_for.ensures.value
    ∙ ap (ceiling_at c.args.book.now c.args.application.now) (to_z-of_z w32 c.index.result.index fits)
    ∙ ap (ceiling_at c.args.book.now c.args.application.now) c.index.ensures.index
