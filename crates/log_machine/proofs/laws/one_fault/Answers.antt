use Rattle.log_machine.proofs.OneFault as proof
use Rattle.log_machine.proofs.laws.one_fault.Goals as goal

pub returns : goal.returns
returns g c file place other one two = proof.one_fault g.R.StateMachine.scheme g.met.R.StateMachine.alone g.met.R.StateMachine.legal_past file place other one two
