use Rattle.std.proofs.Common.{reverse, take}
use Rattle.office_plain.proofs.NoPell.{MarksYears}
use Rattle.office_plain.proofs.plain.PlainHistory.pell_years.Given as goal

abbrev pub invariant-loop-filing : goal.invariant-loop-filing
invariant-loop-filing l = MarksYears (reverse (take l.filing-index l.filings)) l.student l.years
