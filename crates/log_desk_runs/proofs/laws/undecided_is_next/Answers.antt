use Rattle.log_desk_runs.proofs.Named.{undecided_next}
use Rattle.log_desk_runs.proofs.laws.undecided_is_next.Goals as goal

pub returns : goal.returns
returns g c opening closed before after filed k d position lt is = undecided_next g.R.StateMachine.semantics g.R.SingleEntryMachine.own g.C.EntryCopies.copied g.L.Rows.texts g.L.Rows.left opening closed before after filed k d position lt is
