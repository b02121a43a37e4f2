use Rattle.std.proofs.Common.{◌≡◌, length}
use Rattle.web_session.specs.Ends.{has_begun}
use Rattle.web_session.proofs.session.has_begun.Given as goal

abbrev pub invariant-loop-rest : goal.invariant-loop-rest
invariant-loop-rest l = has_begun l.rest ≡ has_begun l.bytes

abbrev pub decreases-loop-rest : goal.decreases-loop-rest
decreases-loop-rest l = length l.rest
