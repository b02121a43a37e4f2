use Rattle.std.proofs.Common.{◌≡◌}
use Rattle.log_tests.proofs.waits.take_steps.Given as goal

abbrev pub invariant-loop-step : goal.invariant-loop-step
invariant-loop-step g l = record {
  lock : l.handle.lock ≡ l.fn.handle.lock;
  share : l.handle.allowance ≡ l.fn.handle.allowance;
}
