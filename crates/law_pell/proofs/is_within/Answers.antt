use Rattle.std.proofs.Common.{◌≡◌, ℤ, pos, ◌*ℤ◌, ◌^◌, FitsSigned, to_z, of_z, w64, unsigned_abs, arith, ◌∙◌, refl}
use Rattle.std.specs.Int.{w128}
use Rattle.std.proofs.lemmas.Int.{ints, to_z-of_z, unsigned_abs-mul}
use Rattle.std.proofs.lemmas.Nat.{mul-le}
use Rattle.law_pell.proofs.is_within.Goals as goal

-- a number of 64 bits as one of 128
widened : (a r : ℤ) → FitsSigned w64 a → r ≡ to_z w64 (of_z w64 a) → to_z w128 (of_z w128 r) ≡ a
widened a r f e = let r_is : r ≡ a = e ∙ to_z-of_z w64 a f in rw r_is (omega (arith, ints))

-- the product of two of them
product_fits : (a b : ℤ) → FitsSigned w64 a → FitsSigned w64 b → FitsSigned w128 (a *ℤ b)
product_fits a b f g =
    let most = mul-le (unsigned_abs a) (unsigned_abs b) (2 ^ 63) (2 ^ 63) (omega (arith, ints)) (omega (arith, ints)) in
    let size = unsigned_abs-mul a b in
    omega (arith, ints)

pub overflow_mul-result : goal.overflow_mul-result
overflow_mul-result c = rw (widened c.args.income c.from.result c.ranges.income c.from.ensures) (omega (arith, ints, c.ranges.income))

pub overflow_mul-result-2 : goal.overflow_mul-result-2
overflow_mul-result-2 c =
    rw (widened c.args.percent c.from-2.result c.ranges.percent c.from-2.ensures, widened c.args.guideline c.from-3.result c.ranges.guideline c.from-3.ensures) (product_fits c.args.percent c.args.guideline c.ranges.percent c.ranges.guideline)

pub returns : goal.returns
returns c =
    let product = to_z-of_z w128 (c.args.percent *ℤ c.args.guideline) (product_fits c.args.percent c.args.guideline c.ranges.percent c.ranges.guideline) in
    let hundred : to_z w128 (of_z w128 (pos 100 *ℤ c.args.income)) ≡ pos 100 *ℤ c.args.income = omega (arith, ints, c.ranges.income) in
    rw (widened c.args.income c.from.result c.ranges.income c.from.ensures, widened c.args.percent c.from-2.result c.ranges.percent c.from-2.ensures, widened c.args.guideline c.from-3.result c.ranges.guideline c.from-3.ensures, product, hundred) refl
