use Rattle.std.proofs.Common.{◌≡◌, ◌+◌, ◌≤◌, ◌++◌, length, reverse, vec_capacity}
use Rattle.web_workers.specs.Workers.{ports_of}
use Rattle.run_server.proofs.workers.give_back.Given as goal

-- the ports that are back, and before those of the workers that are left, the last first
abbrev pub invariant-loop-worker : goal.invariant-loop-worker
invariant-loop-worker g l = record {
  moved : l.fn.ports.items ++ ports_of l.fn.workers.items ≡ l.ports.items ++ ports_of (reverse l.rest.items);
  room : length l.ports.items + length l.rest.items ≤ vec_capacity l.ports;
}

abbrev pub decreases-loop-worker : goal.decreases-loop-worker
decreases-loop-worker g l = length l.rest.items
