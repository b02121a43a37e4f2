use Rattle.std.proofs.Common.{◌≡◌, drop}
use Rattle.aid_types.specs.RuleLines.{first_broken}
use Rattle.aid_types.proofs.line.first_broken.Given as goal

abbrev pub invariant-loop-line : goal.invariant-loop-line
invariant-loop-line l = first_broken (drop l.line-index l.lines) ≡ first_broken l.fn.lines
