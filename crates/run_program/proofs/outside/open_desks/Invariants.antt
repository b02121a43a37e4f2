use Rattle.std.proofs.Common.{◌≡◌, length}
use Rattle.run_program.proofs.outside.open_desks.Given as goal

-- an input for each file so far
abbrev pub invariant-loop-path : goal.invariant-loop-path
invariant-loop-path l = length l.desks.items ≡ l.path-index
