-- How many binary digits a number has: 0 has none.
use Rattle.std.specs.Prelude.{ℕ, zero, suc, ◌/◌}

abbrev pub digits_within : ℕ → ℕ → ℕ
digits_within zero n = 0
digits_within (suc fuel) zero = 0
digits_within (suc fuel) (suc n) = suc (digits_within fuel (suc n / 2))

unfoldable pub digits_of : ℕ → ℕ
digits_of n = digits_within n n
