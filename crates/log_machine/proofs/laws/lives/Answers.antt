use Rattle.log_machine.proofs.Fates as proof
use Rattle.log_machine.proofs.laws.lives.Goals as goal

pub returns : goal.returns
returns g c before fates file life = proof.kept g.D.Disk g.R.StateMachine.scheme g.R.StateMachine.semantics g.met.R.StateMachine.alone before file fates life
