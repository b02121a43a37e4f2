use Rattle.std.proofs.Common.{◌≡◌, ◌+◌, reverse, take}
use Rattle.office_sheets.specs.Ledgers.{ledger_rows}
use Rattle.office_sheets.proofs.ledger.ledger_rows.Given as goal

abbrev pub invariant-loop-index : goal.invariant-loop-index
invariant-loop-index l = record {
  history : l.past.history ≡ reverse (take l.index l.filings);
  room : l.past.spare + l.index ≡ l.front;
  rows : l.rows.items ≡ ledger_rows l.student (reverse (take l.index l.filings)) (reverse (take l.index l.stamps));
}
