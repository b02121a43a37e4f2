use Rattle.std.proofs.Common.{[], ◌∷◌, codes, decimal}
use Rattle.std.proofs.lemmas.Result.{on_ok_weaker}
use Rattle.format_filings.specs.WrittenRows.{row_text}
use Rattle.office_export.proofs.Written.{written}
use Rattle.office_amends.proofs.lines.put_again.Goals as goal

pub returns : goal.returns
returns c =
    let at = rw c.from.ensures at c.put_number-2.ensures in
    on_ok_weaker c.put_number-2.result
    (λ last. written c.args.out.now.items (decimal c.args.position) (row_text c.args.filing.now ∷ codes "again" ∷ decimal c.args.at ∷ []) _
    (_, c.in_ok-put_number.ensures, (_, c.in_ok-put_whole_row.ensures, (_, c.in_ok-put_bytes.ensures, last))))
    at
