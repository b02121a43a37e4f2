use Rattle.std.proofs.Common.{◌≡◌, reverse, take}
use Rattle.sheet_returns.specs.Sendings.{sendings}
use Rattle.sheet_returns.proofs.sendings.sendings.Given as goal

abbrev pub invariant-loop-filing : goal.invariant-loop-filing
invariant-loop-filing l = l.list.items ≡ reverse (sendings l.school l.year (reverse (take l.filing-index l.filings)))
