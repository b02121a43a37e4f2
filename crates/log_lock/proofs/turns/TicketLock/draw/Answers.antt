use Rattle.std.proofs.Common.{rules, ◌∙◌}
use Rattle.log_lock.proofs.Steps as steps
use Rattle.log_lock.proofs.turns.TicketLock.draw.Goals as goal

pub fetch_add-requires : goal.fetch_add-requires
fetch_add-requires g c = (
  search rules,
  search rules,
  λ s kept long. steps.draws g.T.LockedState.snapshot g.T.LockedState.reached g.T.LockedState.room c.self.inside.table.shared.key c.args.seat.now.id c.args.seat.now.me c.requires.idle c.requires.share s kept (long ∙ c.self.invariant.1),
)
