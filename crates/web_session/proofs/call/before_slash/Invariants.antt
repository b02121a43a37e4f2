use Rattle.std.proofs.Common.{◌≡◌, ◌≤◌, ◌-◌, ◌++◌, length, take, drop}
use Rattle.web_session.specs.Calls.{before_slash}
use Rattle.web_session.proofs.call.before_slash.Given as goal

abbrev pub invariant-loop-count : goal.invariant-loop-count
invariant-loop-count l = record { within : l.count ≤ length l.text; before : before_slash l.text ≡ take l.count l.text ++ before_slash (drop l.count l.text) }

abbrev pub decreases-loop-count : goal.decreases-loop-count
decreases-loop-count l = length l.text - l.count
