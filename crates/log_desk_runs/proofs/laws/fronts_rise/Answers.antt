use Rattle.log_desk_runs.proofs.Named.{fronts_rising}
use Rattle.log_desk_runs.proofs.laws.fronts_rise.Goals as goal

pub returns : goal.returns
returns g c opening before after own i j a le lt = fronts_rising g.R.StateMachine.semantics g.R.SingleEntryMachine.own g.C.EntryCopies.copied g.L.Rows.texts g.L.Rows.left opening before after own i j a le lt
