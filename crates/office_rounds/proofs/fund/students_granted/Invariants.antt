use Rattle.std.proofs.Common.{◌≤◌, length, reverse, take}
use Rattle.office_rounds.proofs.Grants.{HasPaid}
use Rattle.office_rounds.proofs.fund.students_granted.Given as goal

abbrev pub invariant-loop-filing : goal.invariant-loop-filing
invariant-loop-filing l = HasPaid (reverse (take l.filing-index l.filings)) l.request l.students.items × (length l.students.items ≤ l.filing-index)
