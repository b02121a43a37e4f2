use Rattle.std.proofs.Common.{reverse}
use Rattle.office_updates.proofs.EnrollmentsWalk.{IsOverWalk}
use Rattle.office_updates.proofs.enrollments.term_over.Given as goal

abbrev pub invariant-loop-at : goal.invariant-loop-at
invariant-loop-at g l =
    IsOverWalk (reverse l.filings) l.fn.award l.fn.student l.fn.year l.at l.first l.steps l.fn.steps

abbrev pub decreases-loop-at : goal.decreases-loop-at
decreases-loop-at g l = l.at
