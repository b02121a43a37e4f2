-- Numbers of a filing in their ranges, and the tests of fields that say so.
use Rattle.std.proofs.Common.{◌≡◌, ℕ, zero, suc, ◌≤◌, ℤ, pos, Bool, true, false, IsTrue, List, [], ◌∷◌, ◌++◌, arith}
use Rattle.std.specs.Prelude.{map, neg_ℤ}
use Rattle.std.specs.List.{All, list_all}
use Rattle.std.proofs.lemmas.Int.{ints}
use Rattle.std.proofs.lemmas.List.Elements.{All-cons}
use Rattle.aid_types.specs.Ranges.{IsBetween}
use Rattle.format_table.specs.Limits.{is_between}
use Rattle.format_bytes.specs.Numbers.{day_number}
use Rattle.format_bytes.proofs.Breaks.{IsDayNumber}
use Rattle.format_bytes.proofs.Ranges.{is_natural_within, is_within, within}
use Rattle.run_claims.specs.Written.{Number, IsInRange}
use Rattle.run_claims.specs.Written.Number.{whole, ranged, money, day, word}

-- ---- numbers in their ranges, one by one
abbrev pub AreInRange : List Number → Type 0
AreInRange [] = Unit {0}
AreInRange (n ∷ ns) = IsInRange n × AreInRange ns

pub each_in_range : (ns : List Number) → AreInRange ns → All IsInRange ns
each_in_range [] are = λ k d lt. absurd (omega (arith, lt))
each_in_range (n ∷ ns) are = All-cons IsInRange n ns are.0 (each_in_range ns are.1)

pub all_in_range : (ns : List Number) → All IsInRange ns → AreInRange ns
all_in_range [] all = tt
all_in_range (n ∷ ns) all = (all zero n (omega arith), all_in_range ns (λ k d lt. all (suc k) d (omega (arith, lt))))

-- numbers that are in range by their types
abbrev is_free : Number → Bool
is_free (whole w z) = true
is_free (ranged w low high n) = false
is_free (money cents) = true
is_free (day d) = false
is_free (word program) = true

pub free_in_range : (ns : List Number) → list_all is_free ns ≡ true → AreInRange ns
free_in_range [] free = tt
free_in_range (whole w z ∷ ns) free = (tt, free_in_range ns free)
free_in_range (ranged w low high n ∷ ns) free = absurd cc
free_in_range (money cents ∷ ns) free = (tt, free_in_range ns free)
free_in_range (day d ∷ ns) free = absurd cc
free_in_range (word program ∷ ns) free = (tt, free_in_range ns free)

pub whole_in_range : (w : ℕ) (zs : List ℤ) → AreInRange (map (whole w) zs)
whole_in_range w [] = tt
whole_in_range w (z ∷ zs) = (tt, whole_in_range w zs)

pub money_in_range : (ns : List ℕ) → AreInRange (map money ns)
money_in_range [] = tt
money_in_range (n ∷ ns) = (tt, money_in_range ns)

-- ---- the test of a field, and the range
pub natural : (low high n : ℕ) → IsTrue (is_between (pos low) (pos high) (pos n)) → IsBetween low high n
natural low high n fits = let r = within (pos low) (pos high) (pos n) fits in (grind (arith, ints), grind (arith, ints))

pub fits_natural : (low high n : ℕ) → IsBetween low high n → IsTrue (is_between (pos low) (pos high) (pos n))
fits_natural low high n is = is_natural_within low high n is.0 is.1

pub day_is : (d : ℕ) → IsDayNumber (day_number d) → d ≤ 2958463
day_is d fits = let r = within (neg_ℤ (pos 25567)) (pos 2932896) (day_number d) fits in omega (arith, ints)

pub day_fits : (d : ℕ) → d ≤ 2958463 → IsDayNumber (day_number d)
day_fits d le = is_within (neg_ℤ (pos 25567)) (pos 2932896) (day_number d) (omega (arith, ints)) (omega (arith, ints))

pub append_in_range : (ns ms : List Number) → AreInRange ns → AreInRange ms → AreInRange (ns ++ ms)
append_in_range [] ms first rest = rest
append_in_range (n ∷ ns) ms first rest = (first.0, append_in_range ns ms first.1 rest)
