use Rattle.std.proofs.Common.{◌≡◌, ◌+◌, reverse, take}
use Rattle.office_sheets.proofs.front.front_of.Given as goal

abbrev pub invariant-loop-index : goal.invariant-loop-index
invariant-loop-index l = record {
  history : l.made.history ≡ reverse (take l.index l.filings);
  room : l.made.spare + l.index ≡ l.front;
}
