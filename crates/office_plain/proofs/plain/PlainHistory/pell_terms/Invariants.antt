use Rattle.std.proofs.Common.{reverse, take}
use Rattle.office_plain.proofs.NoPell.{MarksTerms}
use Rattle.office_plain.proofs.plain.PlainHistory.pell_terms.Given as goal

abbrev pub invariant-loop-filing : goal.invariant-loop-filing
invariant-loop-filing l = MarksTerms (reverse (take l.filing-index l.filings)) l.student l.terms
