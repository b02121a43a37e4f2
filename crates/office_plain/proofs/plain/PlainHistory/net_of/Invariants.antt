use Rattle.std.proofs.Common.{◌≡◌, ℕ, IfSome, None, get_or, reverse, take}
use Rattle.office_history.specs.Net.{paid, taken}
use Rattle.office_history.specs.Past.{is_extra, the_term}
use Rattle.office_plain.specs.CellTests.{test_of}
use Rattle.office_plain.proofs.plain.PlainHistory.net_of.Given as goal

abbrev pub invariant-loop-index : goal.invariant-loop-index
invariant-loop-index l = record {
  asked : (i : ℕ) → IfSome (get_or l.asked i None) (λ a. a.1 ≡ is_extra (the_term l.self a.0.school a.0.year a.0.term));
  paid : l.paid ≡ paid (reverse (take l.index l.filings)) (test_of l.self l.cells);
  taken : l.taken ≡ taken (reverse (take l.index l.filings)) (test_of l.self l.cells);
}
