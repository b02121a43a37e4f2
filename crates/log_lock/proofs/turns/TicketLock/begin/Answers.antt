use Rattle.std.proofs.Common.{rules, ◌∙◌}
use Rattle.log_lock.proofs.Steps as steps
use Rattle.log_lock.proofs.turns.TicketLock.begin.Goals as goal

pub load-requires : goal.load-requires
load-requires g c =
    let (x, is, decided, there) = c.requires.first in (
      search rules,
      search rules,
      λ s kept long. steps.brings g.T.LockedState.snapshot g.T.LockedState.reached g.T.LockedState.room c.self.inside.table.shared.key c.args.seat.now.id c.args.seat.now.me x c.self.invariant.2 (search rules) decided there s kept (long ∙ c.self.invariant.1),
    )
