use Rattle.std.proofs.Common.{◌≡◌, ◌<◌, ◌≤◌, ◌+◌, ◌^◌, length}
use Rattle.log_session.proofs.Looked.{HasLooked}
use Rattle.log_session.proofs.checking.look.Given as goal

abbrev pub invariant-loop-row : goal.invariant-loop-row
invariant-loop-row g l = record {
  looked : HasLooked g.F.Rows.Rows.texts g.F.RowFormat.fine_line (g.F.Rows.Rows.left l.fn.rows) (g.F.Rows.Rows.left l.rows)
      (record { honest = g.K.Sink.honest l.fn.out; before = g.K.Sink.text l.fn.out; after = g.K.Sink.text l.out }) l.tally;
  few : l.tally.rows + length (g.F.Rows.Rows.left l.rows) < 2 ^ 32;
  no_more : l.tally.errors ≤ l.tally.rows;
  unmoved : g.K.Sink.faults l.out ≡ g.K.Sink.faults l.fn.out;
  honest : g.K.Sink.honest l.out ≡ g.K.Sink.honest l.fn.out;
}

abbrev pub decreases-loop-row : goal.decreases-loop-row
decreases-loop-row g l = length (g.F.Rows.Rows.left l.rows)
