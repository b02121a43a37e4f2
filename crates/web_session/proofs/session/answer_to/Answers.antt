use Rattle.web_session.specs.Asks.{IsAsked}
use Rattle.web_session.proofs.Reached.{reach_none}
use Rattle.web_session.proofs.session.answer_to.Goals as goal

pub returns-in-Err-clause-reached : goal.returns-in-Err-clause-reached
returns-in-Err-clause-reached g c = reach_none (IsAsked g.C.Handler.asked g.C.Handler.faults g.F.Api.scheme.status) c.args.clerk.now
