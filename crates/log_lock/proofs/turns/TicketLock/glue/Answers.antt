use Rattle.std.proofs.Common.{rules}
use Rattle.log_lock.proofs.Steps as steps
use Rattle.log_lock.proofs.turns.TicketLock.glue.Goals as goal

pub join_seat-requires : goal.join_seat-requires
join_seat-requires g c = (
  search rules,
  search rules,
  c.requires.idle.1.1,
  search rules,
  steps.joins g.T.LockedState.snapshot g.T.LockedState.reached g.T.LockedState.room c.self.inside.table.shared.key c.args.seat.now.id c.args.other.id c.args.seat.now.me c.args.other.me c.requires.idle.0 c.requires.idle.1,
)
