use Rattle.log_session.proofs.Fronts.{runs_split}
use Rattle.log_session.proofs.laws.answered_stands.Goals as goal

pub returns : goal.returns
returns g c front rest past old new honest each runs = runs_split g.D.Disk g.R.StateMachine.scheme g.R.StateMachine.semantics g.met.D.Disk.only_now front rest past old new honest each runs
