-- The greatest Pell payment that breaks no rule.
use Rattle.std.specs.Prelude.{ℕ, zero, suc, ◌*◌, Bool, List, is_none, if◌then◌else◌}
use Rattle.aid_types.specs.declared.line.RuleLine.{RuleLine}
use Rattle.aid_types.specs.RuleLines.{first_broken}

-- whether so many whole dollars of Pell break no rule of a payment of so many cents
abbrev pub is_payable : (ℕ → List RuleLine) → ℕ → Bool
is_payable rules dollars = is_none (first_broken (rules (100 * dollars)))

-- the greatest number up to a bound that passes, and 0 where none does
abbrev pub greatest : (ℕ → Bool) → ℕ → ℕ
greatest p zero = 0
greatest p (suc n) = if p (suc n) then suc n else greatest p n

-- the greatest payable amount in cents among all whole dollars that a filing may hold, and 0 where none is payable
unfoldable pub greatest_payment : (ℕ → List RuleLine) → ℕ
greatest_payment rules = 100 * greatest (is_payable rules) 999999
