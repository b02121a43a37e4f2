use Rattle.std.proofs.Common.{◌≡◌, reverse, take}
use Rattle.aid_types.specs.Programs.{six}
use Rattle.office_history.specs.Net.{in_year, paid, taken}
use Rattle.office_plain.proofs.plain.PlainHistory.nets.Given as goal

abbrev pub invariant-loop-index : goal.invariant-loop-index
invariant-loop-index l = record {
  paid : l.paid ≡ six (λ p. paid (reverse (take l.index l.filings)) (in_year l.student l.year p));
  taken : l.taken ≡ six (λ p. taken (reverse (take l.index l.filings)) (in_year l.student l.year p));
}
