-- The division finds the nearest number, and there is one.
use Rattle.std.proofs.Common.{◌≡◌, ℕ, zero, suc, ◌+◌, ◌*◌, ◌<◌, ◌≤◌, ℤ, pos, negsuc, neg_ℤ, ◌*ℤ◌, ◌<ℤ◌, ◌≤ℤ◌, arith, refl, sym, ap}
use Rattle.std.specs.Prelude.{unsigned_abs}
use Rattle.std.proofs.Math.Nat.{mul-le-mul_left, lt_of_mul-lt-mul_right, le-mul_of_pos_right}
use Rattle.std.proofs.lemmas.Nat.{div-add-mod', mod_below, le-div}
use Rattle.std.proofs.lemmas.Int.{ints, unsigned_abs-mul}
use Rattle.aid_types.specs.Nearest.{IsNearest, IsWithinHalf, nearest, half_up, share}

-- twice the nearest number's multiple of b is no further than b from twice n
pub half_up-low : (n b : ℕ) → 0 < b → 2 * (half_up n b * b) ≤ 2 * n + b
unfolding half_up
half_up-low n b h = omega (arith, div-add-mod' (2 * n + b) (2 * b))

pub half_up-high : (n b : ℕ) → 0 < b → 2 * n < 2 * (half_up n b * b) + b
unfolding half_up
half_up-high n b h =
    let positive : 0 < 2 * b = omega arith in
    omega (arith, div-add-mod' (2 * n + b) (2 * b), mod_below (2 * n + b) (2 * b) positive)

-- a number whose multiple of b is no further than half of b above n is at most the nearest one
pub half_up-most : (n b m : ℕ) → 0 < b → 2 * (m * b) ≤ 2 * n + b → m ≤ half_up n b
unfolding half_up
half_up-most n b m h k =
    let positive : 0 < 2 * b = omega arith in
    le-div m (2 * n + b) (2 * b) positive (omega arith)

-- ---- the same, with signs
-- what is near a number that is not negative
near_pos : (n b : ℕ) → 0 < b → (r : ℤ) → IsWithinHalf (pos n) b r → unsigned_abs r ≤ half_up n b
near_pos n b h (pos m) k = half_up-most n b m h (omega (arith, ints))
near_pos n b h (negsuc m) k = absurd (omega (arith, ints))

pub IsNearest-pos : (n b : ℕ) → 0 < b → IsNearest (pos n) b (pos (half_up n b))
IsNearest-pos n b h = record {
  near = omega (arith, ints, half_up-low n b h, half_up-high n b h);
  away = near_pos n b h;
}

neg-*ℤ : (q : ℤ) (b : ℕ) → neg_ℤ q *ℤ pos b ≡ neg_ℤ (q *ℤ pos b)
neg-*ℤ (pos zero) b = omega (arith, ints)
neg-*ℤ (pos (suc m)) b = refl
neg-*ℤ (negsuc m) b = omega (arith, ints)

-- the rule is the same on both sides of 0
IsWithinHalf-neg : (a : ℤ) (b : ℕ) (q : ℤ) → IsWithinHalf a b q → IsWithinHalf (neg_ℤ a) b (neg_ℤ q)
IsWithinHalf-neg a b q k =
    let e : neg_ℤ q *ℤ pos b ≡ neg_ℤ (q *ℤ pos b) = neg-*ℤ q b in
    omega (arith, ints)

unsigned_abs-neg : (q : ℤ) → unsigned_abs (neg_ℤ q) ≡ unsigned_abs q
unsigned_abs-neg q = omega (arith, ints)

neg-neg : (q : ℤ) → neg_ℤ (neg_ℤ q) ≡ q
neg-neg q = omega (arith, ints)

IsNearest-neg : (n b : ℕ) (q : ℤ) → IsNearest (pos (suc n)) b q → IsNearest (negsuc n) b (neg_ℤ q)
IsNearest-neg n b q x = record {
  near = IsWithinHalf-neg (pos (suc n)) b q x.near;
  away = λ r k. omega (arith, x.away (neg_ℤ r) (IsWithinHalf-neg (negsuc n) b r k), unsigned_abs-neg q, unsigned_abs-neg r);
}

pub IsNearest-nearest : (a : ℤ) (b : ℕ) → 0 < b → IsNearest a b (nearest a b)
IsNearest-nearest (pos n) b h = IsNearest-pos n b h
IsNearest-nearest (negsuc n) b h = IsNearest-neg n b (pos (half_up (suc n) b)) (IsNearest-pos (suc n) b h)

opposite : (a : ℤ) (b m k : ℕ) → 0 < b → IsWithinHalf a b (pos m) → IsWithinHalf a b (negsuc k) → m ≡ suc k → ⊥
opposite (pos n) b m k h x y e = omega (arith, ints)
opposite (negsuc n) b m k h x y e = let f : m * b ≡ suc k * b = ap (λ i. i * b) e in omega (arith, ints)

-- two numbers of one size that are both near are one: on both sides of 0 they would be too far apart
same_near : (a : ℤ) (b : ℕ) (q r : ℤ) → 0 < b → IsWithinHalf a b q → IsWithinHalf a b r → unsigned_abs q ≡ unsigned_abs r → q ≡ r
same_near a b (pos m) (pos k) h x y e = ap pos e
same_near a b (negsuc m) (negsuc k) h x y e = omega (arith, ints)
same_near a b (pos m) (negsuc k) h x y e = absurd (opposite a b m k h x y e)
same_near a b (negsuc k) (pos m) h x y e = absurd (opposite a b m k h y x (sym e))

-- there is only one
pub IsNearest-unique : (a : ℤ) (b : ℕ) (q r : ℤ) → 0 < b → IsNearest a b q → IsNearest a b r → q ≡ r
IsNearest-unique a b q r h x y = same_near a b q r h x.near y.near (omega (arith, x.away r y.near, y.away q x.near))

-- what code that goes by the sign gives
pub nearest-from_negative : (a : ℤ) (b : ℕ) → a <ℤ pos 0 → nearest a b ≡ neg_ℤ (pos (half_up (unsigned_abs a) b))
nearest-from_negative (pos n) b h = absurd (omega (arith, ints))
nearest-from_negative (negsuc n) b h = refl

pub nearest-from_positive : (a : ℤ) (b : ℕ) → pos 0 ≤ℤ a → nearest a b ≡ pos (half_up (unsigned_abs a) b)
nearest-from_positive (pos n) b h = refl
nearest-from_positive (negsuc n) b h = absurd (omega (arith, ints))

pub half_up-le : (n b m : ℕ) → 0 < b → n ≤ m * b → half_up n b ≤ m
half_up-le n b m h k =
    let low = half_up-low n b h in
    let below : half_up n b * b < suc m * b = omega arith in
    let lt : half_up n b < suc m = lt_of_mul-lt-mul_right b below in
    omega arith

pub nearest-le : (a : ℤ) (b m : ℕ) → 0 < b → unsigned_abs a ≤ m * b → unsigned_abs (nearest a b) ≤ m
nearest-le (pos n) b m h k = half_up-le n b m h k
nearest-le (negsuc n) b m h k = omega (arith, half_up-le (suc n) b m h k, unsigned_abs-neg (pos (half_up (suc n) b)))

-- a number is no smaller than its nearest whole parts, and an amount than its shares
pub nearest-le_whole : (a : ℤ) (b : ℕ) → 0 < b → unsigned_abs (nearest a b) ≤ unsigned_abs a
nearest-le_whole a b h = nearest-le a b (unsigned_abs a) h (le-mul_of_pos_right (unsigned_abs a) h)

pub share-le : (a r : ℤ) → pos 0 ≤ℤ r → r ≤ℤ pos 10000 → unsigned_abs (share a r) ≤ unsigned_abs a
share-le a r low high =
    let h : unsigned_abs r ≤ 10000 = omega (arith, ints) in
    nearest-le (a *ℤ r) 10000 (unsigned_abs a) (omega arith)
    (omega (arith, unsigned_abs-mul a r, mul-le-mul_left (unsigned_abs a) h))

-- the nearest whole number of what isn't above 0 isn't either
nearest-not_above : (a : ℤ) (b : ℕ) → 0 < b → a ≤ℤ pos 0 → nearest a b ≤ℤ pos 0
nearest-not_above (pos n) b h k = let none = half_up-le n b 0 h (omega (arith, ints)) in omega (arith, ints)
nearest-not_above (negsuc n) b h k = omega (arith, ints)

-- nor is the share of an amount below 0
pub share-not_above : (a r : ℤ) → a <ℤ pos 0 → pos 0 ≤ℤ r → share a r ≤ℤ pos 0
share-not_above (pos n) r below low = absurd (omega (arith, ints))
share-not_above (negsuc n) (negsuc m) below low = absurd (omega (arith, ints))
share-not_above (negsuc n) (pos m) below low =
    let product : (negsuc n *ℤ pos m) ≤ℤ pos 0 = rw (neg-*ℤ (pos (suc n)) m) (omega (arith, ints)) in
    nearest-not_above (negsuc n *ℤ pos m) 10000 (omega arith) product
