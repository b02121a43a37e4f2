use Rattle.log_lock.specs.Turning.{faults_in, wants_in}
use Rattle.log_lock.proofs.turns.TicketLock.submit_in_turn.Given as goal

abbrev pub ghosts-end : goal.ghosts-end
ghosts-end g a = record { faults = faults_in (g.T.LockedState.says a.reply.now); wants = wants_in (g.T.LockedState.wants a.reply.now) }
