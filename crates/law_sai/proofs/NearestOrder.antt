-- A greater number has no lesser nearest whole number, share or multiple of five.
use Rattle.std.proofs.Common.{ℕ, suc, ◌*◌, ◌<◌, ◌≤◌, ℤ, pos, negsuc, ◌*ℤ◌, ◌≤ℤ◌, arith}
use Rattle.std.proofs.lemmas.Int.{ints}
use Rattle.std.proofs.Math.Nat.{mul-le-mul_right}
use Rattle.aid_types.specs.Nearest.{half_up, nearest, share, to5}
use Rattle.aid_types.proofs.NearestLemmas.{half_up-low, half_up-most}

pub half_up-rises : (n m b : ℕ) → 0 < b → n ≤ m → half_up n b ≤ half_up m b
half_up-rises n m b h k = half_up-most m b (half_up n b) h (omega (arith, half_up-low n b h))

pub nearest-rises : (x y : ℤ) (b : ℕ) → 0 < b → x ≤ℤ y → nearest x b ≤ℤ nearest y b
nearest-rises (pos n) (pos m) b h k = let r = half_up-rises n m b h (omega (arith, ints)) in omega (arith, ints)
nearest-rises (negsuc n) (pos m) b h k = omega (arith, ints)
nearest-rises (negsuc n) (negsuc m) b h k = let r = half_up-rises (suc m) (suc n) b h (omega (arith, ints)) in omega (arith, ints)
nearest-rises (pos n) (negsuc m) b h k = absurd (omega (arith, ints))

-- a product with a number that is not negative
mul-rises : (x y r : ℤ) → pos 0 ≤ℤ r → x ≤ℤ y → (x *ℤ r) ≤ℤ (y *ℤ r)
mul-rises (pos n) (pos m) (pos r) h k = let p : n * r ≤ m * r = mul-le-mul_right r (omega (arith, ints)) in omega (arith, ints)
mul-rises (negsuc n) (pos m) (pos r) h k = omega (arith, ints)
mul-rises (negsuc n) (negsuc m) (pos r) h k = let p : suc m * r ≤ suc n * r = mul-le-mul_right r (omega (arith, ints)) in omega (arith, ints)
mul-rises (pos n) (negsuc m) (pos r) h k = absurd (omega (arith, ints))
mul-rises x y (negsuc r) h k = absurd (omega (arith, ints))

pub share-rises : (x y rate : ℤ) → pos 0 ≤ℤ rate → x ≤ℤ y → share x rate ≤ℤ share y rate
share-rises x y rate h k = nearest-rises (x *ℤ rate) (y *ℤ rate) 10000 (omega arith) (mul-rises x y rate h k)

pub to5-rises : (x y : ℤ) → x ≤ℤ y → to5 x ≤ℤ to5 y
to5-rises x y k = let r = nearest-rises x y 5 (omega arith) k in omega (arith, ints)
