use Rattle.std.proofs.Common.{rules, ◌∙◌}
use Rattle.log_lock.specs.Turning.{faults_in, wants_in}
use Rattle.log_lock.proofs.Steps as steps
use Rattle.log_lock.proofs.turns.TicketLock.end.Goals as goal

pub fetch_add-number-requires : goal.fetch_add-number-requires
fetch_add-number-requires g c = (
  search rules,
  search rules,
  λ s kept long. rw (c.requires.picked.0, c.requires.picked.1) (steps.ends_me g.T.LockedState.snapshot g.T.LockedState.reached g.T.LockedState.room c.self.inside.table.shared.key c.args.seat.now.id (faults_in (g.T.LockedState.says c.args.reply.now)) (wants_in (g.T.LockedState.wants c.args.reply.now)) c.args.seat.now.me c.requires.done.0 c.requires.done.1 c.requires.done.2 s kept (long ∙ c.self.invariant.1)),
)
