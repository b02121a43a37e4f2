use Rattle.std.proofs.Common.{[], ◌∷◌, codes, decimal}
use Rattle.std.proofs.lemmas.Result.{on_ok_weaker}
use Rattle.format_filings.specs.WrittenRows.{row_text}
use Rattle.office_export.proofs.Written.{written}
use Rattle.office_amends.proofs.lines.put_replaced.Goals as goal

pub returns : goal.returns
returns c =
    on_ok_weaker c.put_whole_row-2.result
    (λ last. written c.args.out.now.items (decimal c.args.position) (row_text c.args.old.now ∷ codes "replaced" ∷ row_text c.args.new.now ∷ []) _
    (_, c.in_ok-put_number.ensures, (_, c.in_ok-put_whole_row.ensures, (_, c.in_ok-put_bytes.ensures, last))))
    c.put_whole_row-2.ensures
