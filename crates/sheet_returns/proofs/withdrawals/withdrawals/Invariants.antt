use Rattle.std.proofs.Common.{◌≡◌, reverse, take}
use Rattle.sheet_returns.specs.Withdrawals.{withdrawals}
use Rattle.sheet_returns.proofs.withdrawals.withdrawals.Given as goal

abbrev pub invariant-loop-index : goal.invariant-loop-index
invariant-loop-index l = l.list.items ≡ reverse (withdrawals l.school (reverse (take l.index l.filings)))
