use Rattle.std.proofs.Common.{[], ◌∷◌, decimal}
use Rattle.std.proofs.lemmas.Result.{on_ok_weaker}
use Rattle.format_filings.specs.Replies.{outcome_text}
use Rattle.law_terms.specs.Days.{day_text}
use Rattle.office_export.proofs.Written.{written}
use Rattle.format_filings.specs.WrittenRows.{row_text}
use Rattle.office_sheets.specs.Lists.{clerk_text}
use Rattle.office_sheets.proofs.lists.put_list_line.Goals as goal

pub returns : goal.returns
returns c =
    on_ok_weaker c.put_outcome.result
    (λ last. written c.args.out.now.items (decimal c.args.position) (day_text c.args.stamp.now.day ∷ clerk_text c.args.stamp.now.clerk ∷ row_text c.args.filing.now ∷ outcome_text c.args.outcome.now ∷ []) _
    (_, c.in_ok-put_position.ensures, (_, c.in_ok-put_day_column.ensures, (_, c.in_ok-put_clerk.ensures, (_, c.in_ok-put_row_column.ensures, last)))))
    c.put_outcome.ensures
