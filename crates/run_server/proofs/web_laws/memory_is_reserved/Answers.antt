use Rattle.run_server.proofs.WebAnswers.{reserved}
use Rattle.run_server.proofs.web_laws.memory_is_reserved.Goals as goal

pub returns : goal.returns
returns g c sessions stamp old new before after out out' status ran = reserved g.D.Disk g.K.Sink g.P.Acceptor.tells g.P.Acceptor.faults sessions stamp old new before after out out' status ran
