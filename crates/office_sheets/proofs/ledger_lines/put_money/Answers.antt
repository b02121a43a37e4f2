use Rattle.std.proofs.Common.{[], ◌∷◌, decimal}
use Rattle.std.proofs.lemmas.Result.{on_ok_weaker}
use Rattle.aid_types.specs.Cents.{cents_text}
use Rattle.aid_types.specs.Words.{program_text}
use Rattle.office_reports.specs.Columns.{left, right}
use Rattle.office_export.proofs.Written.{written}
use Rattle.office_sheets.specs.LedgerLines.{moved_text}
use Rattle.office_sheets.proofs.ledger_lines.put_money.Goals as goal

pub returns : goal.returns
returns c =
    let m = c.args.moved.now in
    let program = rw (c.as_bytes.ensures.value, c.program_name.ensures) at c.in_ok-put_left.ensures in
    let used = rw c.from.ensures at c.put_number.ensures in
    on_ok_weaker c.put_number.result
    (λ last. written c.args.out.now.items (left 5 (program_text m.program)) (right 12 (moved_text m.movement m.cents) ∷ right 12 (cents_text c.args.net) ∷ right 7 (decimal c.args.used) ∷ []) _
    (_, program, (_, c.in_ok-put_moved.ensures, (_, c.in_ok-put_amount.ensures, last))))
    used
