use Rattle.std.proofs.Common.{◌≡◌, reverse, take}
use Rattle.office_history.specs.Past.{cost}
use Rattle.office_plain.proofs.plain.PlainHistory.cost.Given as goal

abbrev pub invariant-loop-filing : goal.invariant-loop-filing
invariant-loop-filing l = l.last ≡ cost (reverse (take l.filing-index l.filings)) l.school l.student l.year
