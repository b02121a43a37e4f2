use Rattle.std.proofs.Common.{◌≡◌, drop}
use Rattle.aid_types.specs.RuleLines.{first_broken}
use Rattle.law_rules.specs.Rules.{breaks_in_order}
use Rattle.law_rules.proofs.calendar.broken_by_break_order.Given as goal

abbrev pub invariant-loop-first : goal.invariant-loop-first
invariant-loop-first l = first_broken (breaks_in_order l.before (drop l.first-index l.breaks)) ≡ first_broken (breaks_in_order l.fn.after l.breaks)
