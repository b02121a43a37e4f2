use Rattle.run_server.proofs.WebCauses.{all, complete, ports_still, socket, usage}
use Rattle.run_server.proofs.web_laws.web_causes.Goals as goal

pub returns-clause-usage : goal.returns-clause-usage
returns-clause-usage g c sessions stamp old new before after out out' status ran = usage g.D.Disk g.K.Sink g.P.Acceptor.tells g.P.Acceptor.faults sessions stamp old new before after out out' status ran

pub returns-clause-socket : goal.returns-clause-socket
returns-clause-socket g c sessions stamp old new before after out out' status ran = socket g.D.Disk g.K.Sink g.P.Acceptor.tells g.P.Acceptor.faults sessions stamp old new before after out out' status ran

pub returns-clause-all : goal.returns-clause-all
returns-clause-all g c sessions stamp old new before after out out' status ran = all g.D.Disk g.K.Sink g.P.Acceptor.tells g.P.Acceptor.faults sessions stamp old new before after out out' status ran

pub returns-clause-still : goal.returns-clause-still
returns-clause-still g c sessions stamp old new before after out out' status ran = ports_still g.D.Disk g.K.Sink g.P.Acceptor.tells g.P.Acceptor.faults sessions stamp old new before after out out' status ran

pub returns-clause-complete : goal.returns-clause-complete
returns-clause-complete g c sessions stamp old new before after out out' status ran = complete g.D.Disk g.K.Sink g.P.Acceptor.tells g.P.Acceptor.faults sessions stamp old new before after out out' status ran
