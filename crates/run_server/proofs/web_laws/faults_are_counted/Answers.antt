use Rattle.run_server.proofs.WebAnswers.{counted}
use Rattle.run_server.proofs.web_laws.faults_are_counted.Goals as goal

pub returns : goal.returns
returns g c sessions stamp old new before after out out' status ran = counted g.D.Disk g.K.Sink g.P.Acceptor.tells g.P.Acceptor.faults sessions stamp old new before after out out' status ran
