-- Numbers that are brought into a range: one that is in it stays as it is.
use Rattle.std.proofs.Common.{◌≡◌, ℕ, ◌+◌, ◌-◌, ◌≤◌, ℤ, pos, negsuc, List, [], ◌∷◌, map, refl, ap, arith, rules}
use Rattle.std.specs.Prelude.{min, unsigned_abs}
use Rattle.std.proofs.lemmas.Int.{ints}
use Rattle.aid_types.specs.Ranges.{IsAmount, IsBetween, IsSignedAmount, EachIsCents}

-- from `low` on, so many numbers and one
abbrev pub brought : ℕ → ℕ → ℕ → ℕ
brought low room n = low + min room (n - low)

pub is_brought : (low room n : ℕ) → IsBetween low (low + room) (brought low room n)
is_brought low room n = (omega arith, omega arith)

pub brought_stays : (low room n : ℕ) → IsBetween low (low + room) n → brought low room n ≡ n
brought_stays low room n is = omega (arith, is)

-- up to a greatest number
pub is_capped : (most n : ℕ) → min most n ≤ most
is_capped most n = omega arith

pub capped_stays : (most n : ℕ) → n ≤ most → min most n ≡ n
capped_stays most n is = omega (arith, is)

-- an amount of a household
abbrev pub amount_of : ℤ → ℤ
amount_of z = pos (min 99999999 (unsigned_abs z))

pub is_amount_of : (z : ℤ) → IsAmount (amount_of z)
is_amount_of z = (omega (arith, ints), omega (arith, ints))

pub amount_stays : (z : ℤ) → IsAmount z → amount_of z ≡ z
amount_stays (pos n) is = ap pos (omega (arith, ints, is))
amount_stays (negsuc n) is = absurd (omega (arith, ints, is))

-- one that may be negative
abbrev pub signed_of : ℤ → ℤ
signed_of (pos n) = pos (min 99999999 n)
signed_of (negsuc n) = negsuc (min 99999998 n)

pub is_signed_of : (z : ℤ) → IsSignedAmount (signed_of z)
is_signed_of (pos n) = (omega (arith, ints), omega (arith, ints))
is_signed_of (negsuc n) = (omega (arith, ints), omega (arith, ints))

pub signed_stays : (z : ℤ) → IsSignedAmount z → signed_of z ≡ z
signed_stays (pos n) is = ap pos (omega (arith, ints, is))
signed_stays (negsuc n) is = ap negsuc (omega (arith, ints, is))

-- cents
abbrev pub cents_of : List ℤ → List ℕ
cents_of zs = map (λ z. min 99999999 (unsigned_abs z)) zs

pub are_cents : (zs : List ℤ) → EachIsCents (cents_of zs)
are_cents [] = search rules
are_cents (z ∷ zs) = let rest = are_cents zs in search rules

pub cents_stay : (ns : List ℕ) → EachIsCents ns → cents_of (map (λ n. pos n) ns) ≡ ns
cents_stay [] is = refl
cents_stay (n ∷ ns) is = let rest = cents_stay ns (search rules) in let first : min 99999999 n ≡ n = search rules in λ i. first i ∷ rest i
