-- What the code computes over the numbers before.
use Rattle.std.proofs.Common.{◌≡◌, ◌*◌, ◌≤◌, ◌^◌, ℤ, ◌+ℤ◌, ◌-ℤ◌, ◌*ℤ◌, unsigned_abs, FitsSigned, to_z, of_z, w64, arith, lit<}
use Rattle.std.specs.Int.{w128}
use Rattle.std.proofs.lemmas.Nat.{mul-le}
use Rattle.std.proofs.lemmas.Int.{ints, to_z-of_z, fits_signed_mul, unsigned_abs-mul}
use Rattle.format_table.specs.Limits.{IsNarrow}

-- a narrow number in 64 bits, and widened
pub narrow : (z : ℤ) → IsNarrow z → to_z w64 (of_z w64 z) ≡ z
narrow z h = omega (arith, ints)

pub widened : (z : ℤ) → IsNarrow z → to_z w128 (of_z w128 (to_z w64 (of_z w64 z))) ≡ z
widened z h = omega (arith, ints)

-- the difference of two, so widened
pub difference : (a b : ℤ) → IsNarrow a → IsNarrow b → to_z w128 (of_z w128 (to_z w128 (of_z w128 (to_z w64 (of_z w64 a))) -ℤ to_z w128 (of_z w128 (to_z w64 (of_z w64 b))))) ≡ a -ℤ b
difference a b ha hb = omega (arith, ints)

-- the product of a difference and a narrow number
pub product_small : (a r : ℤ) → unsigned_abs a ≤ 2 * 10 ^ 12 → IsNarrow r → unsigned_abs (a *ℤ r) ≤ 10 ^ 30
product_small a r ha hr =
    let most : unsigned_abs a * unsigned_abs r ≤ (2 * 10 ^ 12) * 10 ^ 12 = mul-le (unsigned_abs a) (unsigned_abs r) (2 * 10 ^ 12) (10 ^ 12) ha hr in
    omega (arith, unsigned_abs-mul a r)

-- twice the greatest is the most of a difference
pub difference_small : (a b : ℤ) → IsNarrow a → IsNarrow b → unsigned_abs (a -ℤ b) ≤ 2 * 10 ^ 12
difference_small a b ha hb = omega (arith, ints)

pub small : (a : ℤ) → IsNarrow a → unsigned_abs a ≤ 2 * 10 ^ 12
small a ha = omega arith

pub product_fits : (a r : ℤ) → unsigned_abs a ≤ 2 * 10 ^ 12 → IsNarrow r → FitsSigned w128 (a *ℤ r)
product_fits a r ha hr = fits_signed_mul w128 a r (2 * 10 ^ 12) (10 ^ 12) ha hr (lit< tt)

-- the product that the code makes of two narrow numbers, and that of a difference and one
pub product_of : (a r : ℤ) → IsNarrow a → IsNarrow r → to_z w128 (of_z w128 (to_z w128 (of_z w128 (to_z w64 (of_z w64 a))) *ℤ to_z w128 (of_z w128 (to_z w64 (of_z w64 r))))) ≡ a *ℤ r
product_of a r ha hr = rw (widened a ha, widened r hr) (to_z-of_z w128 (a *ℤ r) (product_fits a r (small a ha) hr))

pub over_product : (begins over rate : ℤ) → IsNarrow begins → IsNarrow over → IsNarrow rate
    → to_z w128 (of_z w128 (to_z w128 (of_z w128 (to_z w128 (of_z w128 (to_z w64 (of_z w64 begins))) -ℤ to_z w128 (of_z w128 (to_z w64 (of_z w64 over))))) *ℤ to_z w128 (of_z w128 (to_z w64 (of_z w64 rate)))))
    ≡ (begins -ℤ over) *ℤ rate
over_product begins over rate hb ho hr =
    rw (difference begins over hb ho, widened rate hr) (to_z-of_z w128 ((begins -ℤ over) *ℤ rate) (product_fits (begins -ℤ over) rate (difference_small begins over hb ho) hr))

pub sum_fits : (base q : ℤ) → IsNarrow base → unsigned_abs q ≤ 10 ^ 30 → FitsSigned w128 (to_z w128 (of_z w128 (to_z w64 (of_z w64 base))) +ℤ to_z w128 (of_z w128 q))
sum_fits base q hb hq = omega (arith, ints)

pub sum_is : (base q : ℤ) → IsNarrow base → unsigned_abs q ≤ 10 ^ 30 → to_z w128 (of_z w128 (to_z w128 (of_z w128 (to_z w64 (of_z w64 base))) +ℤ to_z w128 (of_z w128 q))) ≡ base +ℤ q
sum_is base q hb hq = omega (arith, ints)
