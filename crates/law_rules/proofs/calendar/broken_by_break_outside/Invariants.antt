use Rattle.std.proofs.Common.{◌≡◌, ◌+◌, drop}
use Rattle.aid_types.specs.RuleLines.{first_broken}
use Rattle.law_rules.specs.Rules.{breaks_inside, rule_23}
use Rattle.law_rules.proofs.calendar.broken_by_break_outside.Given as goal

abbrev pub invariant-loop-first : goal.invariant-loop-first
invariant-loop-first l =
    (l.number ≡ l.first-index + 1) × (l.breaks ≡ l.term.breaks)
    × (first_broken (breaks_inside l.term l.number (drop l.first-index l.breaks)) ≡ first_broken (rule_23 l.term))
