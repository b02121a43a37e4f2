use Rattle.std.proofs.Common.{◌++◌, ◌∙◌}
use Rattle.std.proofs.lemmas.Result.{on_ok_weaker}
use Rattle.office_export.specs.Lines.{standing_line}
use Rattle.sheet_review.proofs.reviewed.put_standing.Goals as goal

pub returns : goal.returns
returns c =
    on_ok_weaker c.put_standing_line.result
    (λ e. e ∙ (λ i. c.in_ok-put_heading.ensures i ++ standing_line c.args.student c.args.year (c.standing.ensures.value i)))
    c.put_standing_line.ensures
