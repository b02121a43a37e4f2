use Rattle.std.proofs.Common.{◌≡◌}
use Rattle.log_lock.proofs.turns.TicketLock.tell.Given as goal

abbrev pub invariant-loop : goal.invariant-loop
invariant-loop g l =
    record {
      same : g.T.LockedState.snapshot l.state ≡ g.T.LockedState.snapshot l.fn.state;
      room : g.T.LockedState.room l.state ≡ g.T.LockedState.room l.fn.state;
      reaches : (start : _) → g.T.LockedState.reached start l.fn.state → g.T.LockedState.reached start l.state;
    }
