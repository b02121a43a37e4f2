use Rattle.log_lock.proofs.Steps as steps
use Rattle.log_lock.proofs.turns.TicketLock.new.Goals as goal

pub vacant-requires : goal.vacant-requires
vacant-requires g c = steps.opens g.T.LockedState.snapshot g.T.LockedState.reached g.T.LockedState.room c.args.handles c.requires.handles.0 c.requires.handles.1
