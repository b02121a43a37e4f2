use Rattle.std.proofs.Common.{◌≡◌, ◌≤◌, ◌++◌, ◌-◌, ◌+◌, IsTrue, vec_len}
use Rattle.io_traits.proofs.whole.read_to_limit.Given as goal

abbrev pub invariant-loop-piece : goal.invariant-loop-piece
invariant-loop-piece g l = record {
  within : vec_len l.bytes ≤ l.limit + 1;
  honest : g.S.Source.honest l.source ≡ g.S.Source.honest l.initial.source;
  bytes : IsTrue (g.S.Source.honest l.initial.source) → g.S.Source.left l.initial.source ≡ l.bytes.items ++ g.S.Source.left l.source;
  unmoved : g.S.Source.faults l.source ≡ g.S.Source.faults l.initial.source;
}

abbrev pub decreases-loop-piece : goal.decreases-loop-piece
decreases-loop-piece g l = l.limit + 1 - vec_len l.bytes
