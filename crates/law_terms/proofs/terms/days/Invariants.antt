use Rattle.std.proofs.Common.{◌≡◌, ◌-◌, take}
use Rattle.law_terms.specs.Terms.{counted}
use Rattle.law_terms.proofs.terms.days.Given as goal

abbrev pub invariant-loop-from : goal.invariant-loop-from
invariant-loop-from l = l.count ≡ counted (take l.from-index l.from-items) l.first (l.end - l.first)
