use Rattle.log_desk_runs.proofs.Named.{added_named}
use Rattle.log_desk_runs.proofs.laws.added_are_named.Goals as goal

pub returns : goal.returns
returns g c opening closed before after filed entry has = added_named g.R.StateMachine.semantics g.R.SingleEntryMachine.own g.C.EntryCopies.copied g.L.Rows.texts g.L.Rows.left opening closed before after filed entry has
