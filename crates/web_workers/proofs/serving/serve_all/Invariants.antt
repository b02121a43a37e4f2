use Rattle.std.proofs.Common.{◌≡◌, ◌≤◌, ◌-◌}
use Rattle.log_stamps.specs.Rows.{semantics_under, own_under}
use Rattle.web_workers.specs.Sessions.{Served}
use Rattle.web_workers.proofs.serving.serve_all.Given as goal

abbrev pub invariant-loop-served : goal.invariant-loop-served
invariant-loop-served g l = record {
  served : Served (semantics_under l.stamp g.R.StateMachine.semantics) (own_under l.stamp g.R.SingleEntryMachine.own) g.T.MachineApi.scheme l.number l.fn.handle l.handle (g.P.Acceptor.tells l.fn.port) (g.P.Acceptor.tells l.port) l.served l.starved;
  most : l.served ≤ l.sessions;
  later : g.P.Acceptor.faults l.fn.port ≤ g.P.Acceptor.faults l.port;
  still : g.P.Acceptor.faults l.port ≡ g.P.Acceptor.faults l.fn.port;
  lock : l.handle.lock ≡ l.fn.handle.lock;
  share : l.handle.allowance ≡ l.fn.handle.allowance;
  opening : l.handle.opening ≡ l.fn.handle.opening;
}

abbrev pub decreases-loop-served : goal.decreases-loop-served
decreases-loop-served g l = l.sessions - l.served
