use Rattle.std.proofs.Common.{◌≡◌, ◌≤◌, ◌++◌, ◌-◌, IsTrue, length, take}
use Rattle.io_traits.proofs.whole.write_whole.Given as goal

abbrev pub invariant-loop-done : goal.invariant-loop-done
invariant-loop-done g l = record {
  within : l.done ≤ length l.bytes;
  honest : g.K.Sink.honest l.sink ≡ g.K.Sink.honest l.initial.sink;
  text : IsTrue (g.K.Sink.honest l.initial.sink) → g.K.Sink.text l.sink ≡ g.K.Sink.text l.initial.sink ++ take l.done l.bytes;
  unmoved : g.K.Sink.faults l.sink ≡ g.K.Sink.faults l.initial.sink;
}

abbrev pub decreases-loop-done : goal.decreases-loop-done
decreases-loop-done g l = length l.bytes - l.done
