use Rattle.std.proofs.Common.{arith, refl}
use Rattle.web_session.specs.Asks.{Answers, IsAsked}
use Rattle.web_session.proofs.Reached.{reach_none}
use Rattle.web_session.proofs.Steps.{near_none}
use Rattle.web_session.proofs.session.serve.Goals as goal

pub returns-in_default-clause-exchange : goal.returns-in_default-clause-exchange
returns-in_default-clause-exchange g c honest = near_none (Answers g.F.Api.scheme g.C.Handler.asked g.C.Handler.faults) _ _ _ _ _ _ _ refl refl (omega arith)

pub returns-in_default-clause-reached : goal.returns-in_default-clause-reached
returns-in_default-clause-reached g c = reach_none (IsAsked g.C.Handler.asked g.C.Handler.faults g.F.Api.scheme.status) c.args.clerk.now
