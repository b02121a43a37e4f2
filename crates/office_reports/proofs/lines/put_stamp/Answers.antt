use Rattle.std.proofs.Common.{[], ◌∷◌, decimal}
use Rattle.std.proofs.lemmas.Result.{on_ok_weaker}
use Rattle.law_terms.specs.Days.{day_text}
use Rattle.office_export.proofs.Written.{written}
use Rattle.office_reports.proofs.lines.put_stamp.Goals as goal

pub returns : goal.returns
returns c =
    on_ok_weaker c.put_clerk.result
    (λ last. written c.args.out.now.items (decimal c.args.position) (day_text c.args.stamp.now.day ∷ c.args.stamp.now.clerk ∷ []) _
    (_, c.in_ok-put_position.ensures, (_, c.in_ok-put_day_column.ensures, last)))
    c.put_clerk.ensures
