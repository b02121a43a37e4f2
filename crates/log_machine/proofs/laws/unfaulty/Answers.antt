use Rattle.log_machine.proofs.NoFault as proof
use Rattle.log_machine.proofs.laws.unfaulty.Goals as goal

pub returns : goal.returns
returns g c file history place recovers faulty = proof.unfaulty g.R.StateMachine.scheme g.met.R.StateMachine.alone g.met.R.StateMachine.legal_past file history place recovers faulty
