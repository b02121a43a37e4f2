use Rattle.std.proofs.Common.{rules, ◌<◌, sym, subst}
use Rattle.log_lock.proofs.Steps as steps
use Rattle.log_lock.proofs.turns.TicketLock.cut.Goals as goal

pub split_seat-requires : goal.split_seat-requires
split_seat-requires g c = (
  search rules,
  search rules,
  steps.splits g.T.LockedState.snapshot g.T.LockedState.reached g.T.LockedState.room c.self.inside.table.shared.key c.args.seat.now.id g.N.Sharing.share c.args.seat.now.me c.requires.idle (subst (λ n. n < c.args.seat.now.me.0.allowance) (sym c.requires.picked) c.requires.share),
)
