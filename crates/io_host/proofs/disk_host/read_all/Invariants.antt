use Rattle.std.proofs.Common.{length, ◌-◌, ◌≤◌}
use Rattle.io_host.proofs.disk_host.read_all.Given as goal

abbrev pub invariant-loop-done : goal.invariant-loop-done
invariant-loop-done l = l.done ≤ length l.initial.buf

abbrev pub decreases-loop-done : goal.decreases-loop-done
decreases-loop-done l = length l.initial.buf - l.done
