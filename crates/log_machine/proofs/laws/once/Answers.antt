use Rattle.log_machine.proofs.Histories.{recovers_once}
use Rattle.log_machine.proofs.laws.once.Goals as goal

pub returns : goal.returns
returns g c file one other stands also = recovers_once g.R.StateMachine.scheme g.met.R.StateMachine.alone file one other stands also
