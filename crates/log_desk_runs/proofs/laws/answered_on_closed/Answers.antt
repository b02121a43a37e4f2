use Rattle.log_desk_runs.proofs.Named.{answered_in_closed}
use Rattle.log_desk_runs.proofs.laws.answered_on_closed.Goals as goal

pub returns : goal.returns
returns g c opening closed before after filed k d lt i a less = answered_in_closed g.R.StateMachine.semantics g.R.SingleEntryMachine.own g.C.EntryCopies.copied g.L.Rows.texts g.L.Rows.left opening closed before after filed k d lt i a less
