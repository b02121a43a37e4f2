use Rattle.std.proofs.Common.{rules, ◌∙◌}
use Rattle.log_lock.proofs.Steps as steps
use Rattle.log_lock.proofs.turns.TicketLock.learn.Goals as goal

pub load-requires : goal.load-requires
load-requires g c = (
  search rules,
  search rules,
  λ s kept long. steps.learns g.T.LockedState.snapshot g.T.LockedState.reached g.T.LockedState.room c.self.inside.table.shared.key c.args.seat.now.id c.args.seat.now.me c.requires.idle s kept (long ∙ c.self.invariant.1),
)
