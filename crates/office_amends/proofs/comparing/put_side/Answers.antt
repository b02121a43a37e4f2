use Rattle.std.proofs.Common.{[], ◌∷◌, decimal}
use Rattle.std.proofs.lemmas.Result.{on_ok_weaker}
use Rattle.format_filings.specs.WrittenRows.{row_text}
use Rattle.law_terms.specs.Days.{day_text}
use Rattle.office_export.proofs.Written.{written}
use Rattle.office_sheets.specs.Lists.{clerk_text}
use Rattle.office_amends.proofs.comparing.put_side.Goals as goal

pub returns : goal.returns
returns c =
    on_ok_weaker c.put_whole_row.result
    (λ last. written c.args.out.now.items c.args.side.now (decimal c.args.position ∷ day_text c.args.stamp.now.day ∷ clerk_text c.args.stamp.now.clerk ∷ row_text c.args.filing.now ∷ []) _
    (_, rw c.as_bytes.ensures.value at c.in_ok-put_bytes.ensures, (_, rw c.from.ensures at c.in_ok-put_number.ensures, (_, c.in_ok-put_day_column.ensures, (_, rw (c.clerk_or_hyphen.ensures, c.as_bytes-2.ensures.value) at c.in_ok-put_bytes-2.ensures, last)))))
    c.put_whole_row.ensures
