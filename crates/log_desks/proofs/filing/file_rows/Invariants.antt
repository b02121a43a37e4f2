use Rattle.std.proofs.Common.{◌≡◌, List, length}
use Rattle.log_desks.proofs.Ahead.{IsReadAhead, rows_ahead}
use Rattle.log_desks.proofs.Rowing.{FilesOn}
use Rattle.log_desks.proofs.filing.file_rows.Given as goal

abbrev pub invariant-loop-next : goal.invariant-loop-next
invariant-loop-next g l = record {
  left : List g.L.Rows.texts.Meaning;
  ahead : IsReadAhead g.L.Rows.texts.said l.next left (g.L.Rows.left l.rows);
  files : FilesOn g.R.StateMachine.semantics g.R.SingleEntryMachine.own g.C.EntryCopies.copied g.L.Rows.texts l.desk l.prefix (g.L.Rows.left l.fn.rows) left l.text.items l.count l.handle;
  lock : l.handle.lock ≡ l.fn.handle.lock;
  share : l.handle.allowance ≡ l.fn.handle.allowance;
  opening : l.handle.opening ≡ l.fn.handle.opening;
}

abbrev pub decreases-loop-next : goal.decreases-loop-next
decreases-loop-next g l = rows_ahead l.next (length (g.L.Rows.left l.rows))
