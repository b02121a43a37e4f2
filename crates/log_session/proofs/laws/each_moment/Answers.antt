use Rattle.log_session.proofs.Fronts.{moments_of_runs}
use Rattle.log_session.proofs.laws.each_moment.Goals as goal

pub returns : goal.returns
returns g c rows past old new honest each runs = moments_of_runs g.D.Disk g.R.StateMachine.scheme g.R.StateMachine.semantics g.met.D.Disk.only_now rows past old new honest each runs
