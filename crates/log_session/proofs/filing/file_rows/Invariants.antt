use Rattle.std.proofs.Common.{◌≡◌, List, None, length}
use Rattle.log_session.proofs.Filed.{HasFiled, IsReadAhead, rows_ahead}
use Rattle.log_session.proofs.filing.file_rows.Given as goal

abbrev pub invariant-loop-next : goal.invariant-loop-next
invariant-loop-next g l = record {
  left : List g.L.Rows.texts.Meaning;
  ahead : IsReadAhead g.L.Rows.texts.said l.next left (g.L.Rows.left l.rows);
  filed : HasFiled g.D.Disk g.R.StateMachine.scheme g.R.StateMachine.semantics g.L.Rows.texts (g.L.Rows.left l.fn.rows) left l.fn.kept.history l.kept.history l.fn.kept.disk l.kept.disk
      (record { honest = g.K.Sink.honest l.fn.out; before = g.K.Sink.text l.fn.out; after = g.K.Sink.text l.out }) l.number;
  decided : l.kept.pending ≡ None;
  disk_unmoved : g.D.Disk.faults l.kept.disk ≡ g.D.Disk.faults l.fn.kept.disk;
  sink_unmoved : g.K.Sink.faults l.out ≡ g.K.Sink.faults l.fn.out;
  disk_honest : (g.D.Disk.tells l.kept.disk).honest ≡ (g.D.Disk.tells l.fn.kept.disk).honest;
  sink_honest : g.K.Sink.honest l.out ≡ g.K.Sink.honest l.fn.out;
}

abbrev pub decreases-loop-next : goal.decreases-loop-next
decreases-loop-next g l = rows_ahead l.next (length (g.L.Rows.left l.rows))
