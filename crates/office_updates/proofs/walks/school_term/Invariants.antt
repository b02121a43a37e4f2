use Rattle.std.proofs.Common.{None, reverse}
use Rattle.office_updates.proofs.LinksTerms.{IsTermWalk}
use Rattle.office_updates.proofs.walks.school_term.Given as goal

abbrev pub invariant-loop-at : goal.invariant-loop-at
invariant-loop-at g l =
    IsTermWalk (reverse l.filings) l.fn.school l.year l.number l.at (record { at = 0; term = None }) l.steps l.fn.steps

abbrev pub decreases-loop-at : goal.decreases-loop-at
decreases-loop-at g l = l.at
