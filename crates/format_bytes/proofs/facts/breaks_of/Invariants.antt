use Rattle.std.proofs.Common.{length}
use Rattle.format_bytes.proofs.Breaks.{AreRead}
use Rattle.format_bytes.proofs.facts.breaks_of.Given as goal

abbrev pub invariant-loop-rest : goal.invariant-loop-rest
invariant-loop-rest l = AreRead l.days l.breaks l.rest

abbrev pub decreases-loop-rest : goal.decreases-loop-rest
decreases-loop-rest l = length l.rest
