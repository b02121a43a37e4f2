use Rattle.std.proofs.Common.{List, ap, reverse, ℕ, ◌++◌, ◌∙◌}
use Rattle.std.specs.List.{concat}
use Rattle.std.proofs.lemmas.Result.{on_ok_weaker}
use Rattle.sheet_review.specs.ReviewSheet.{application_lines}
use Rattle.sheet_review.proofs.reviewed.put_applications.Goals as goal

pub returns : goal.returns
returns c =
    let rows = application_lines c.args.student c.args.year c.args.office.now.history (reverse c.args.stamps.now) in
    on_ok_weaker c.put_application_lines.result (λ e. e ∙ ap (λ (text : List ℕ). text ++ concat rows) c.in_ok-put_heading.ensures) c.put_application_lines.ensures
