-- The tests of signed numbers.
use Rattle.std.proofs.Common.{◌≡◌, Bool, true, false, T, ℤ, ◌<ℤ◌, ◌≤ℤ◌, int_lt, int_le, refl}

true_from_T : (b : Bool) → T b → b ≡ true
true_from_T true t = refl
true_from_T false t = absurd t

pub int_le-true : (a b : ℤ) → a ≤ℤ b → int_le a b ≡ true
int_le-true a b h = true_from_T (int_le a b) h.le

pub int_lt-true : (a b : ℤ) → a <ℤ b → int_lt a b ≡ true
int_lt-true a b h = true_from_T (int_lt a b) h.lt
