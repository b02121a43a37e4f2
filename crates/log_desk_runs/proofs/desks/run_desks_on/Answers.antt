use Rattle.std.proofs.Common.{rules, refl, sym, subst}
use Rattle.log_runs.specs.Ends.{EndsWith}
use Rattle.log_runs.specs.Statuses.{fault_line, status_of}
use Rattle.log_runs.specs.declared.stop.RunStop.TheVariants.{File}
use Rattle.log_desk_runs.specs.RanDesksOn.{AreNew, FilesAll, read, unasked, unread}
use Rattle.log_desk_runs.proofs.DesksDone.{desks_done, desks_honest, desks_moved}
use Rattle.log_desk_runs.proofs.Filers.{new_desks}
use Rattle.log_desk_runs.proofs.desks.run_desks_on.Goals as goal

pub returns-then-not-can_file-clause-ran : goal.returns-then-not-can_file-clause-ran
returns-then-not-can_file-clause-ran g c = unasked c.end_with.result (search rules) refl refl c.end_with.ensures

pub returns-in-Ok-clause-ran : goal.returns-in-Ok-clause-ran
returns-in-Ok-clause-ran g c = read c.in-Ok.crew.items c.file_read.result.0 (c.can_file.ensures.yes c.if-not-can_file.false) c.in-Ok.ensures.desks
    (subst (λ before. FilesAll g.R.StateMachine.scheme g.R.StateMachine.semantics g.R.SingleEntryMachine.own g.C.EntryCopies.copied g.C.EntryMatch.same g.I.Rows.Rows.texts g.I.Rows.Rows.left g.D.Disk g.K.Sink c.args.disk c.file_read.result.1 before c.args.out.now c.file_read.new.out c.file_read.result.0) c.deref_mut.ensures.value c.file_read.ensures)

pub file_read-requires-after_bounds : goal.file_read-requires-after_bounds
file_read-requires-after_bounds g c = λ κs bounds.
    subst AreNew (sym c.deref_mut.ensures.value) (new_desks g.I.Rows.Rows.left g.I.Rows.Rows.rows_of g.I.DeskSource.reads c.args.inputs.now c.read_desks.new.inputs c.in-Ok.crew.items (c.can_file.ensures.yes c.if-not-can_file.false).most c.in-Ok.ensures.desks)

pub returns-in-Err-clause-ran : goal.returns-in-Err-clause-ran
returns-in-Err-clause-ran g c =
    unread c.in-Err.unread c.end_with-in-Err.result (c.can_file.ensures.yes c.if-not-can_file.false) c.in-Err.ensures.unread refl
    (subst (λ s. EndsWith g.K.Sink (fault_line (File s)) (status_of (File s)) c.args.out.now c.end_with-in-Err.new.out c.end_with-in-Err.result) c.into.ensures c.end_with-in-Err.ensures)

pub returns-then-not-can_file-clause-complete : goal.returns-then-not-can_file-clause-complete
returns-then-not-can_file-clause-complete g c can none sink_still disk_still =
    desks_done g.R.StateMachine.scheme g.R.StateMachine.semantics g.R.SingleEntryMachine.own g.C.EntryCopies.copied g.C.EntryMatch.same g.I.Rows.Rows.texts g.I.Rows.Rows.left g.I.Rows.Rows.rows_of g.I.DeskSource.reads g.D.Disk g.K.Sink c.args.disk c.args.disk c.args.inputs.now c.args.inputs.now c.args.out.now c.end_with.new.out can none sink_still disk_still c.end_with.result (returns-then-not-can_file-clause-ran g c)

pub returns-in-Ok-clause-complete : goal.returns-in-Ok-clause-complete
returns-in-Ok-clause-complete g c can none sink_still disk_still =
    desks_done g.R.StateMachine.scheme g.R.StateMachine.semantics g.R.SingleEntryMachine.own g.C.EntryCopies.copied g.C.EntryMatch.same g.I.Rows.Rows.texts g.I.Rows.Rows.left g.I.Rows.Rows.rows_of g.I.DeskSource.reads g.D.Disk g.K.Sink c.args.disk c.file_read.result.1 c.args.inputs.now c.read_desks.new.inputs c.args.out.now c.file_read.new.out can none sink_still disk_still c.file_read.result.0 (returns-in-Ok-clause-ran g c)

pub returns-in-Err-clause-complete : goal.returns-in-Err-clause-complete
returns-in-Err-clause-complete g c can none sink_still disk_still =
    desks_done g.R.StateMachine.scheme g.R.StateMachine.semantics g.R.SingleEntryMachine.own g.C.EntryCopies.copied g.C.EntryMatch.same g.I.Rows.Rows.texts g.I.Rows.Rows.left g.I.Rows.Rows.rows_of g.I.DeskSource.reads g.D.Disk g.K.Sink c.args.disk c.args.disk c.args.inputs.now c.read_desks.new.inputs c.args.out.now c.end_with-in-Err.new.out can none sink_still disk_still c.end_with-in-Err.result (returns-in-Err-clause-ran g c)

pub returns-in-Ok-clause-disk_honest : goal.returns-in-Ok-clause-disk_honest
returns-in-Ok-clause-disk_honest g c =
    desks_honest g.R.StateMachine.scheme g.R.StateMachine.semantics g.R.SingleEntryMachine.own g.C.EntryCopies.copied g.C.EntryMatch.same g.I.Rows.Rows.texts g.I.Rows.Rows.left g.I.Rows.Rows.rows_of g.I.DeskSource.reads g.D.Disk g.K.Sink c.args.disk c.file_read.result.1 c.args.inputs.now c.read_desks.new.inputs c.args.out.now c.file_read.new.out c.file_read.result.0 (returns-in-Ok-clause-ran g c)

pub returns-then-not-can_file-clause-disk : goal.returns-then-not-can_file-clause-disk
returns-then-not-can_file-clause-disk g c =
    desks_moved g.R.StateMachine.scheme g.R.StateMachine.semantics g.R.SingleEntryMachine.own g.C.EntryCopies.copied g.C.EntryMatch.same g.I.Rows.Rows.texts g.I.Rows.Rows.left g.I.Rows.Rows.rows_of g.I.DeskSource.reads g.D.Disk g.K.Sink c.args.disk c.args.disk c.args.inputs.now c.args.inputs.now c.args.out.now c.end_with.new.out c.end_with.result (returns-then-not-can_file-clause-ran g c)

pub returns-in-Ok-clause-disk : goal.returns-in-Ok-clause-disk
returns-in-Ok-clause-disk g c =
    desks_moved g.R.StateMachine.scheme g.R.StateMachine.semantics g.R.SingleEntryMachine.own g.C.EntryCopies.copied g.C.EntryMatch.same g.I.Rows.Rows.texts g.I.Rows.Rows.left g.I.Rows.Rows.rows_of g.I.DeskSource.reads g.D.Disk g.K.Sink c.args.disk c.file_read.result.1 c.args.inputs.now c.read_desks.new.inputs c.args.out.now c.file_read.new.out c.file_read.result.0 (returns-in-Ok-clause-ran g c)

pub returns-in-Err-clause-disk : goal.returns-in-Err-clause-disk
returns-in-Err-clause-disk g c =
    desks_moved g.R.StateMachine.scheme g.R.StateMachine.semantics g.R.SingleEntryMachine.own g.C.EntryCopies.copied g.C.EntryMatch.same g.I.Rows.Rows.texts g.I.Rows.Rows.left g.I.Rows.Rows.rows_of g.I.DeskSource.reads g.D.Disk g.K.Sink c.args.disk c.args.disk c.args.inputs.now c.read_desks.new.inputs c.args.out.now c.end_with-in-Err.new.out c.end_with-in-Err.result (returns-in-Err-clause-ran g c)
