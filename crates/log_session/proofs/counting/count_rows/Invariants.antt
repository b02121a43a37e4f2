use Rattle.std.proofs.Common.{◌≡◌, ◌≤◌, List, None, length}
use Rattle.log_session.proofs.Filed.{IsReadAhead, rows_ahead}
use Rattle.log_session.proofs.Behind.{HasCounted}
use Rattle.log_session.proofs.counting.count_rows.Given as goal

abbrev pub invariant-loop-next : goal.invariant-loop-next
invariant-loop-next g l = record {
  left : List g.L.Rows.texts.Meaning;
  ahead : IsReadAhead g.L.Rows.texts.said l.next left (g.L.Rows.left l.rows);
  has : HasCounted g.D.Disk g.R.StateMachine.scheme g.R.StateMachine.semantics g.L.Rows.texts g.T.Tally.counted (g.L.Rows.left l.fn.rows) left l.fn.kept.history l.kept.history l.fn.kept.disk l.kept.disk l.fn.tally l.tally;
  decided : l.kept.pending ≡ None;
  room : length left ≤ g.T.Tally.room l.tally;
  unmoved : g.D.Disk.faults l.kept.disk ≡ g.D.Disk.faults l.fn.kept.disk;
  honest : (g.D.Disk.tells l.kept.disk).honest ≡ (g.D.Disk.tells l.fn.kept.disk).honest;
}

abbrev pub decreases-loop-next : goal.decreases-loop-next
decreases-loop-next g l = rows_ahead l.next (length (g.L.Rows.left l.rows))
