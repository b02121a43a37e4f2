use Rattle.std.proofs.Common.{◌≡◌, length}
use Rattle.web_session.specs.Heads.{from_start}
use Rattle.web_session.proofs.head.count_lines.Given as goal

abbrev pub invariant-loop-rest : goal.invariant-loop-rest
invariant-loop-rest l = from_start l.rest ≡ from_start l.block

abbrev pub decreases-loop-rest : goal.decreases-loop-rest
decreases-loop-rest l = length l.rest
