use Rattle.log_desks.proofs.Turning.{replies}
use Rattle.log_desks.proofs.row.turn_row.Goals as goal

pub returns-clause-replies : goal.returns-clause-replies
returns-clause-replies g c =
    replies g.row.L-Error.Denot g.R.StateMachine.semantics g.R.SingleEntryMachine.own g.R.SingleEntryMachine.adds g.met.R.SingleEntryMachine.own_added g.met.R.SingleEntryMachine.adds_added
    c.args.by c.args.operation c.args.handle.now c.submit-reply.new.handle c.submit-reply.result c.submit-reply.ensures.turned
