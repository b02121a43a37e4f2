use Rattle.std.proofs.Common.{◌≡◌, ℕ, ◌<◌, ◌≤◌, pos, ◌<ℤ◌, unsigned_abs, ℤ, FitsSigned, to_z, of_z, arith, subst, sym}
use Rattle.std.specs.Int.{w128}
use Rattle.std.proofs.Math.Nat.{le-mul_of_pos_right}
use Rattle.std.proofs.lemmas.Int.{ints, to_z-of_z}
use Rattle.aid_types.specs.Nearest.{IsNearest, nearest as nearest_of, half_up}
use Rattle.aid_types.proofs.NearestLemmas.{nearest-from_negative, nearest-from_positive, half_up-le, IsNearest-nearest, nearest-le_whole}
use Rattle.aid_types.proofs.nearest.Goals as goal

whole : (n b : ℕ) → 0 < b → half_up n b ≤ n
whole n b h = half_up-le n b n h (le-mul_of_pos_right n h)

size_is : (a b : ℤ) (m k s : ℕ) → FitsSigned w128 a → FitsSigned w128 b → m ≡ unsigned_abs (to_z w128 (of_z w128 a)) → k ≡ unsigned_abs (to_z w128 (of_z w128 b)) → s ≡ half_up m k → s ≡ half_up (unsigned_abs a) (unsigned_abs b)
size_is a b m k s fa fb em ek es = let ea = to_z-of_z w128 a fa in let eb = to_z-of_z w128 b fb in cc

-- the answer, once its value is known
record Answer (a b r : ℤ) : Type 0 where
  value : r ≡ nearest_of a (unsigned_abs b)
  nearest : IsNearest a (unsigned_abs b) r
  no_greater : unsigned_abs r ≤ unsigned_abs a

answer : (a b r : ℤ) → pos 0 <ℤ b → r ≡ nearest_of a (unsigned_abs b) → Answer a b r
answer a b r h e = record {
  value = e;
  nearest = subst (IsNearest a (unsigned_abs b)) (sym e) (IsNearest-nearest a (unsigned_abs b) (omega (arith, ints)));
  no_greater = rw e (nearest-le_whole a (unsigned_abs b) (omega (arith, ints)));
}

pub overflow_cast-result : goal.overflow_cast-result
overflow_cast-result c =
    omega (arith, ints, whole c.unsigned_abs.result c.unsigned_abs-2.result (omega (arith, ints)))

pub overflow_cast-result-else-a-lt0 : goal.overflow_cast-result-else-a-lt0
overflow_cast-result-else-a-lt0 c =
    omega (arith, ints, whole c.unsigned_abs.result c.unsigned_abs-2.result (omega (arith, ints)))

pub overflow_sub-result : goal.overflow_sub-result
overflow_sub-result c =
    omega (arith, ints, whole c.unsigned_abs.result c.unsigned_abs-2.result (omega (arith, ints)))

pub returns-then-a-lt0 : goal.returns-then-a-lt0
returns-then-a-lt0 c =
    let le = whole c.unsigned_abs.result c.unsigned_abs-2.result (omega (arith, ints)) in
    let size = size_is c.args.a c.args.b c.unsigned_abs.result c.unsigned_abs-2.result c.half_up_quotient-size.result c.ranges.a c.ranges.b c.unsigned_abs.ensures.value c.unsigned_abs-2.ensures.value c.half_up_quotient-size.ensures.value in
    let x = answer c.args.a c.args.b _ c.requires.divisor (omega (arith, ints, nearest-from_negative c.args.a (unsigned_abs c.args.b) (omega (arith, ints)))) in
    record { value = x.value; nearest = x.nearest; no_greater = x.no_greater }

pub returns-else-a-lt0 : goal.returns-else-a-lt0
returns-else-a-lt0 c =
    let le = whole c.unsigned_abs.result c.unsigned_abs-2.result (omega (arith, ints)) in
    let size = size_is c.args.a c.args.b c.unsigned_abs.result c.unsigned_abs-2.result c.half_up_quotient-size.result c.ranges.a c.ranges.b c.unsigned_abs.ensures.value c.unsigned_abs-2.ensures.value c.half_up_quotient-size.ensures.value in
    let x = answer c.args.a c.args.b _ c.requires.divisor (omega (arith, ints, nearest-from_positive c.args.a (unsigned_abs c.args.b) (omega (arith, ints)))) in
    record { value = x.value; nearest = x.nearest; no_greater = x.no_greater }
