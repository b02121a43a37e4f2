-- What the machine's sums and differences of amounts are.
use Rattle.std.proofs.Common.{◌≡◌, ℕ, ◌+◌, ◌≤◌, ℤ, ◌+ℤ◌, ◌-ℤ◌, FitsSigned, to_z, of_z, w64, unsigned_abs, arith, lit≤, ◌∙◌}
use Rattle.std.proofs.lemmas.Int.{ints}
use Rattle.std.specs.Int.{w32}
use Rattle.aid_types.specs.Ranges.{IsAmount, IsSumOf}

-- a number of the code is this sum of at most n amounts
pub record IsHeld (n : ℕ) (code sum : ℤ) : Type 0 where
  pub is : code ≡ sum
  pub most : IsSumOf n sum

-- an answer of a function
pub answer : (n : ℕ) (r z : ℤ) → IsSumOf n r → n ≤ 1000 → r ≡ z → IsHeld n (to_z w64 (of_z w64 r)) z
answer n r z h k e =
    let r_is : to_z w64 (of_z w64 r) ≡ r = omega (arith, ints) in
    record { is = r_is ∙ e; most = rw e at h }

pub amount : (a : ℤ) → IsAmount a → IsHeld 1 (to_z w64 (of_z w64 a)) a
amount a h = record { is = omega (arith, ints); most = omega (arith, ints) }

pub plus : {m n : ℕ} {x y a b : ℤ} → IsHeld m x a → IsHeld n y b → m + n ≤ 1000 → IsHeld (m + n) (to_z w64 (of_z w64 (x +ℤ y))) (a +ℤ b)
plus h k l = record { is = omega (arith, ints); most = omega (arith, ints) }

pub minus : {m n : ℕ} {x y a b : ℤ} → IsHeld m x a → IsHeld n y b → m + n ≤ 1000 → IsHeld (m + n) (to_z w64 (of_z w64 (x -ℤ y))) (a -ℤ b)
minus h k l = record { is = omega (arith, ints); most = omega (arith, ints) }

pub minus_fits : {m n : ℕ} {x y a b : ℤ} → IsHeld m x a → IsHeld n y b → m + n ≤ 1000 → FitsSigned w64 (x -ℤ y)
minus_fits h k l = omega (arith, ints)

-- what is no greater than a sum of at most n amounts is one
pub no_greater : {n : ℕ} {x a : ℤ} (r : ℤ) → IsHeld n x a → unsigned_abs r ≤ unsigned_abs x → IsSumOf n r
no_greater r h k = let most = rw h.is at k in omega arith

-- three amounts that the code adds in 32 bits
abbrev pub in_32 : ℤ → ℤ
in_32 z = to_z w32 (of_z w32 z)

pub three : (r a b d : ℤ) → IsAmount a → IsAmount b → IsAmount d → r ≡ in_32 (in_32 (in_32 a +ℤ in_32 b) +ℤ in_32 d) → IsHeld 3 (to_z w64 (of_z w64 r)) (a +ℤ b +ℤ d)
three r a b d ha hb hd e =
    let sum : r ≡ a +ℤ b +ℤ d = omega (arith, ints) in
    answer 3 r _ (omega (arith, ints)) (lit≤ tt) sum
