use Rattle.run_server.proofs.WebAnswers.{created}
use Rattle.run_server.proofs.web_laws.created_stand.Goals as goal

pub returns : goal.returns
returns g c sessions stamp old new before after out out' status ran = created g.D.Disk g.K.Sink g.P.Acceptor.tells g.P.Acceptor.faults sessions stamp old new before after out out' status ran
