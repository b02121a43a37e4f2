use Rattle.log_desk_runs.proofs.DesksDone.{counted}
use Rattle.log_desk_runs.proofs.laws.faults_are_counted.Goals as goal

pub returns : goal.returns
returns g c opening closed before after filed = counted g.R.StateMachine.semantics g.R.SingleEntryMachine.own g.C.EntryCopies.copied g.L.Rows.texts g.L.Rows.left opening closed before after filed
