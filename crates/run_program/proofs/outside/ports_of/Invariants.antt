use Rattle.std.proofs.Common.{◌≡◌, length}
use Rattle.run_program.proofs.outside.ports_of.Given as goal

-- a port for each worker so far
abbrev pub invariant-loop : goal.invariant-loop
invariant-loop g l = length l.ports.items ≡ l.counter
