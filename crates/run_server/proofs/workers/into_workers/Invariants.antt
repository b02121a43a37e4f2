use Rattle.std.proofs.Common.{◌≡◌, ◌+◌, ◌≤◌, ◌++◌, length, map, reverse, vec_capacity}
use Rattle.web_workers.specs.Workers.{worker_of}
use Rattle.run_server.proofs.workers.into_workers.Given as goal

-- the ports that are left, and behind them those of the workers, the last first
abbrev pub invariant-loop-port : goal.invariant-loop-port
invariant-loop-port g l = record {
  moved : map worker_of l.initial.ports.items ≡ map worker_of l.ports.items ++ reverse l.workers.items;
  room : length l.workers.items + length l.ports.items ≤ vec_capacity l.workers;
  kept : vec_capacity l.ports ≡ vec_capacity l.initial.ports;
}

abbrev pub decreases-loop-port : goal.decreases-loop-port
decreases-loop-port g l = length l.ports.items
