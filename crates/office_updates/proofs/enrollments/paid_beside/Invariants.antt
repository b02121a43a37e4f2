use Rattle.std.proofs.Common.{reverse}
use Rattle.office_updates.proofs.EnrollmentsWalk.{IsBesideWalk}
use Rattle.office_updates.proofs.enrollments.paid_beside.Given as goal

abbrev pub invariant-loop-at : goal.invariant-loop-at
invariant-loop-at g l =
    IsBesideWalk (reverse l.filings) l.fn.school l.fn.student l.term l.at l.least l.steps l.fn.steps

abbrev pub decreases-loop-at : goal.decreases-loop-at
decreases-loop-at g l = l.at
