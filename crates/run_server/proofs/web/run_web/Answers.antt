use Rattle.log_stamps.specs.Entries.{entries}
use Rattle.office_history.proofs.LegalWithin.{legal_within}
use Rattle.run_claims.proofs.Office.{one_history, to_kept}
use Rattle.run_server.proofs.InFewWords.{disk_stays_honest, ran_ports}
use Rattle.run_server.proofs.WebCauses.{all}
use Rattle.run_server.proofs.web.run_web.Goals as goal

pub returns-clause-headline : goal.returns-clause-headline
returns-clause-headline g c past honest sincere images =
    let laws = (g.met.D.Disk g.world.𝓛 g.world.𝓜 g.world.𝓡 ((λ s x. x), (λ x. x), (λ x. x), λ x. x)) in
    ran_ports g.D.Disk g.K.Sink g.P.Acceptor.tells g.P.Acceptor.faults laws.only_now laws.counts_now laws.reads_as_image c.args.sessions c.args.stamp c.args.disk c.serve.result.1 c.args.ports.now.items c.serve.new.ports.items c.args.out.now c.serve.new.out c.serve.result.0 past honest sincere images
    (all g.D.Disk g.K.Sink g.P.Acceptor.tells g.P.Acceptor.faults c.args.sessions c.args.stamp c.args.disk c.serve.result.1 c.args.ports.now.items c.serve.new.ports.items c.args.out.now c.serve.new.out c.serve.result.0 c.serve.ensures) c.serve.ensures

pub returns-clause-within : goal.returns-clause-within
returns-clause-within g c file history is = legal_within (entries history) (to_kept file history is).legal

pub returns-clause-one : goal.returns-clause-one
returns-clause-one g c file history other first second = one_history file history other first second

pub returns-clause-disk_honest : goal.returns-clause-disk_honest
returns-clause-disk_honest g c = disk_stays_honest g.D.Disk g.K.Sink g.P.Acceptor.tells g.P.Acceptor.faults c.args.sessions c.args.stamp c.args.disk c.serve.result.1 c.args.ports.now.items c.serve.new.ports.items c.args.out.now c.serve.new.out c.serve.result.0 c.serve.ensures

pub returns-clause-ran : goal.returns-clause-ran
returns-clause-ran g c = c.serve.ensures
