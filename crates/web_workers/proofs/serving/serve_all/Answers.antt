use Rattle.std.proofs.Common.{rules, arith, refl, ◌∙◌}
use Rattle.log_stamps.specs.Rows.{semantics_under, own_under}
use Rattle.web_workers.proofs.Connections.{at_none, at_some, served_none, served_next, served_failed}
use Rattle.web_workers.proofs.serving.serve_all.Goals as goal

pub loop-served-init : goal.loop-served-init
loop-served-init g c = record {
  served = served_none (semantics_under c.args.stamp.now g.R.StateMachine.semantics) (own_under c.args.stamp.now g.R.SingleEntryMachine.own) g.T.MachineApi.scheme c.args.number c.args.handle (g.P.Acceptor.tells c.args.port.now);
  most = omega arith;
  later = omega arith;
  still = refl;
  lock = search rules;
  share = search rules;
  opening = search rules;
}

pub returns-in_default-clause-served : goal.returns-in_default-clause-served
returns-in_default-clause-served g c =
    served_failed (semantics_under c.args.stamp.now g.R.StateMachine.semantics) (own_under c.args.stamp.now g.R.SingleEntryMachine.own) g.T.MachineApi.scheme c.args.number c.args.handle c.loop-served.handle (g.P.Acceptor.tells c.args.port.now) (g.P.Acceptor.tells c.loop-served.port) c.loop-served.served c.loop-served.starved c.loop-served.invariant.served
    c.serve_next-back.result.0 (g.P.Acceptor.tells c.serve_next-back.new.port) (at_none _ c.serve_next-back.result.1 c.in_default.is c.serve_next-back.ensures.failed)

pub loop-served-preserved : goal.loop-served-preserved
loop-served-preserved g c = record {
  served = served_next (semantics_under c.args.stamp.now g.R.StateMachine.semantics) (own_under c.args.stamp.now g.R.SingleEntryMachine.own) g.T.MachineApi.scheme c.args.number c.args.handle c.loop-served.handle (g.P.Acceptor.tells c.args.port.now) (g.P.Acceptor.tells c.loop-served.port) c.loop-served.served c.loop-served.starved c.loop-served.invariant.served
      c.serve_next-back.result.0 (g.P.Acceptor.tells c.serve_next-back.new.port) c.in-Some.end c.is_starved-starved.result c.is_starved-starved.ensures (at_some _ c.serve_next-back.result.1 c.in-Some.end c.in-Some.is c.serve_next-back.ensures.served);
  most = search rules;
  later = search rules;
  still = at_some _ c.serve_next-back.result.1 c.in-Some.end c.in-Some.is c.serve_next-back.ensures.unmoved ∙ c.loop-served.invariant.still;
  lock = search rules;
  share = search rules;
  opening = search rules;
}

pub returns-clause-stopped : goal.returns-clause-stopped
returns-clause-stopped g c = ((let t = c.loop-served-test.false in let most = c.loop-served.invariant.most in omega (arith, t, most)), c.loop-served.invariant.still)
