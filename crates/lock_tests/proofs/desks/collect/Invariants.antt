use Rattle.std.proofs.Common.{◌≡◌, ◌<◌, ◌≤◌, ◌+◌, ℕ, length, get_or}
use Rattle.lock_tests.specs.Desks.{HasHandle}
use Rattle.lock_tests.specs.declared.desks.Desk.{Desk}
use Rattle.lock_tests.proofs.desks.collect.Given as goal

abbrev pub invariant-loop-i : goal.invariant-loop-i
invariant-loop-i g l = record {
  lock : l.handle.lock ≡ l.turns.id;
  share : l.handle.allowance ≡ l.fn.rest.allowance + l.i;
  ahead : (k : ℕ) (d : Desk) → l.i ≤ k → k < length l.desks → HasHandle l.turns.id (get_or l.desks k d);
  desks : length l.desks ≡ length l.fn.desks;
}
