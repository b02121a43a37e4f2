use Rattle.log_stamps.specs.Rows.{semantics_under, own_under}
use Rattle.web_workers.proofs.Connections.{next_served}
use Rattle.web_workers.proofs.serving.serve_next.Goals as goal

pub returns-clause-served : goal.returns-clause-served
returns-clause-served g c =
    let tells = g.P.Connection.Connection.tells in
    let faults = g.P.Connection.Connection.faults in
    let link = c.in-Ok.link in
    let link' = c.serve_desk-handle.new.link in
    next_served (semantics_under c.args.stamp g.R.StateMachine.semantics) (own_under c.args.stamp g.R.SingleEntryMachine.own) g.T.MachineApi.scheme c.args.by c.args.handle c.serve_desk-handle.result.0 (g.P.Acceptor.tells c.args.port.now) (g.P.Acceptor.tells c.next.new.self) (g.P.Acceptor.tells c.done.new.self)
    (tells link) (tells link') (faults link) (faults link') c.serve_desk-handle.result.1
    c.next.ensures.honest c.in-Ok.ensures.handed c.in-Ok.ensures.unused
    c.serve_desk-handle.ensures.exchange c.serve_desk-handle.ensures.reached c.serve_desk-handle.ensures.cause c.serve_desk-handle.ensures.unmoved c.done.ensures.honest c.done.ensures.taken
