use Rattle.run_office.proofs.AtOnce.{ran_at_once}
use Rattle.run_office.proofs.desks.run_desks.Goals as goal

pub returns-clause-headline : goal.returns-clause-headline
returns-clause-headline g c past honest sources writes images =
    let laws = (g.met.D.Disk g.world.𝓛 g.world.𝓜 g.world.𝓡 ((λ s x. x), (λ x. x), (λ x. x), λ x. x)) in
    ran_at_once g.D.Disk g.S.Source g.K.Sink laws.only_now laws.reads_as_image c.args.disk c.run_desks_on.result.1 c.args.desks.now c.run_desks_on.new.inputs c.args.out.now c.run_desks_on.new.out c.run_desks_on.result.0 past honest sources writes images c.run_desks_on.ensures.ran

pub returns-clause-ran : goal.returns-clause-ran
returns-clause-ran g c = c.run_desks_on.ensures.ran

pub returns-clause-complete : goal.returns-clause-complete
returns-clause-complete g c = c.run_desks_on.ensures.complete
