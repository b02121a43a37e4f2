use Rattle.log_desk_runs.proofs.DeskCauses.{failed, many, still, usage}
use Rattle.log_desk_runs.proofs.laws.desk_causes.Goals as goal

pub returns-clause-usage : goal.returns-clause-usage
returns-clause-usage g c old new inputs inputs' out out' status ran = usage g.R.StateMachine.scheme g.R.StateMachine.semantics g.R.SingleEntryMachine.own g.C.EntryCopies.copied g.C.EntryMatch.same g.I.Rows.Rows.texts g.I.Rows.Rows.left g.I.Rows.Rows.rows_of g.I.DeskSource.reads g.D.Disk g.K.Sink old new inputs inputs' out out' status ran

pub returns-clause-many : goal.returns-clause-many
returns-clause-many g c old new inputs inputs' out out' status ran = many g.R.StateMachine.scheme g.R.StateMachine.semantics g.R.SingleEntryMachine.own g.C.EntryCopies.copied g.C.EntryMatch.same g.I.Rows.Rows.texts g.I.Rows.Rows.left g.I.Rows.Rows.rows_of g.I.DeskSource.reads g.D.Disk g.K.Sink old new inputs inputs' out out' status ran

pub returns-clause-source : goal.returns-clause-source
returns-clause-source g c old new inputs inputs' out out' status ran = failed g.R.StateMachine.scheme g.R.StateMachine.semantics g.R.SingleEntryMachine.own g.C.EntryCopies.copied g.C.EntryMatch.same g.I.Rows.Rows.texts g.I.Rows.Rows.left g.I.Rows.Rows.rows_of g.I.DeskSource.reads g.D.Disk g.K.Sink old new inputs inputs' out out' status ran

pub returns-clause-still : goal.returns-clause-still
returns-clause-still g c old new inputs inputs' out out' status ran = still g.R.StateMachine.scheme g.R.StateMachine.semantics g.R.SingleEntryMachine.own g.C.EntryCopies.copied g.C.EntryMatch.same g.I.Rows.Rows.texts g.I.Rows.Rows.left g.I.Rows.Rows.rows_of g.I.DeskSource.reads g.D.Disk g.K.Sink old new inputs inputs' out out' status ran
