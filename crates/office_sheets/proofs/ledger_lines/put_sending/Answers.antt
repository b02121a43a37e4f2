use Rattle.std.proofs.Common.{[], ◌∷◌, decimal}
use Rattle.std.proofs.lemmas.Result.{on_ok_weaker}
use Rattle.aid_types.specs.Cents.{cents_text}
use Rattle.aid_types.specs.Words.{program_text}
use Rattle.law_terms.specs.Days.{day_text}
use Rattle.office_reports.specs.Columns.{left}
use Rattle.office_export.proofs.Written.{written}
use Rattle.office_sheets.proofs.ledger_lines.put_sending.Goals as goal

pub returns : goal.returns
returns c =
    let s = c.args.sent.now in
    let program = rw (c.as_bytes.ensures.value, c.program_name.ensures) at c.in_ok-put_left.ensures in
    on_ok_weaker c.put_number.result
    (λ last. written c.args.out.now.items (left 5 (program_text s.program)) (cents_text s.cents ∷ day_text s.day ∷ decimal s.reference ∷ []) _
    (_, program, (_, c.in_ok-put_dollars.ensures, (_, c.in_ok-put_day_column.ensures, last))))
    c.put_number.ensures
