use Rattle.std.proofs.Common.{◌≡◌, ◌+◌, reverse, take}
use Rattle.office_sheets.specs.Payments.{payment_rows}
use Rattle.office_sheets.specs.TermSums.{term_sums}
use Rattle.office_sheets.proofs.term_payments.payment_rows.Given as goal

abbrev pub invariant-loop-index : goal.invariant-loop-index
invariant-loop-index l = record {
  history : l.past.history ≡ reverse (take l.index l.filings);
  room : l.past.spare + l.index ≡ l.front;
  sums : l.sums ≡ term_sums l.past.history l.asked.school l.asked.year l.asked.term;
  rows : l.rows.items ≡ payment_rows l.asked.school l.asked.year l.asked.term (reverse (take l.index l.filings)) (reverse (take l.index l.stamps));
}
