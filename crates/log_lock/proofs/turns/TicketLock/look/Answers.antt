use Rattle.std.proofs.Common.{rules, ◌∙◌}
use Rattle.log_lock.proofs.Steps as steps
use Rattle.log_lock.proofs.turns.TicketLock.look.Goals as goal

pub load-requires : goal.load-requires
load-requires g c = (
  search rules,
  search rules,
  λ s kept long. steps.looks_me g.T.LockedState.snapshot g.T.LockedState.reached g.T.LockedState.room c.self.inside.table.shared.key c.args.seat.now.id c.args.seat.now.me c.args.number c.requires.waiting s kept (long ∙ c.self.invariant.1),
)

pub returns-clause-served : goal.returns-clause-served
returns-clause-served g c = steps.look_tells g.T.LockedState.snapshot g.T.LockedState.reached g.T.LockedState.room c.args.seat.now.me c.load.new.seat.me c.load.result c.args.number c.requires.waiting c.load.ensures.2
