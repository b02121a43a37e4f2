use Rattle.web_session.specs.Asks.{Answers}
use Rattle.web_session.proofs.Brought.{front_begins}
use Rattle.web_session.proofs.laws.front_begins.Goals as goal

pub returns : goal.returns
returns g c = front_begins (Answers g.F.Api.scheme g.C.Handler.asked g.C.Handler.faults)
