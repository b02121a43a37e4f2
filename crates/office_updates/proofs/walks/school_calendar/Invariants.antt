use Rattle.std.proofs.Common.{reverse}
use Rattle.office_updates.proofs.LinksTerms.{IsCalendarWalk}
use Rattle.office_updates.proofs.walks.school_calendar.Given as goal

abbrev pub invariant-loop-at : goal.invariant-loop-at
invariant-loop-at g l =
    IsCalendarWalk (reverse l.filings) l.fn.school l.calendar l.at l.row l.steps l.fn.steps

abbrev pub decreases-loop-at : goal.decreases-loop-at
decreases-loop-at g l = l.at
