use Rattle.std.proofs.Common.{◌≡◌}
use Rattle.web_session.specs.Calls.{behind}
use Rattle.web_session.proofs.call.piece.Given as goal

abbrev pub invariant-loop-left : goal.invariant-loop-left
invariant-loop-left l = behind l.left l.rest ≡ behind l.slashes l.target

abbrev pub decreases-loop-left : goal.decreases-loop-left
decreases-loop-left l = l.left
