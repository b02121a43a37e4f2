-- The fields of a row, one by one.
use Rattle.std.proofs.Common.{◌≡◌, ◌≢◌, ◌<◌, ℕ, zero, suc, List, [], ◌∷◌, drop, length, Some, None, Err, refl, sym, ap, arith}
use Rattle.std.specs.Prelude.{bytes_eq, codes, false}
use Rattle.csv.specs.Records.{field_at}
use Rattle.format_rows.specs.Numbers.{refused}
use Rattle.format_rows.specs.declared.error.Cause.TheVariants.{WrongCount}
use Rattle.office_amends.specs.Rows.{HasDigits, begins_with_digits}

-- a field that is there, and one that isn't
pub at_place : (texts : List (List ℕ)) (i : ℕ) (text : List ℕ) → Some text ≡ field_at texts i → drop i texts ≡ text ∷ drop (suc i) texts
unfolding field_at
at_place [] i text is = absurd (let bad : ⊥ = cc in bad)
at_place (t ∷ texts) zero text is = let same : text ≡ t = search is in ap (λ (u : List ℕ). u ∷ texts) (sym same)
at_place (t ∷ texts) (suc i) text is = at_place texts i text is

pub at_end : (texts : List (List ℕ)) (i : ℕ) → None ≡ field_at texts i → drop i texts ≡ []
unfolding field_at
at_end [] zero is = refl
at_end [] (suc i) is = refl
at_end (t ∷ texts) zero is = absurd (let bad : ⊥ = cc in bad)
at_end (t ∷ texts) (suc i) is = at_end texts i is

-- a field that is there stands before the end
pub before_end : (texts : List (List ℕ)) (i : ℕ) (text : List ℕ) → Some text ≡ field_at texts i → i < length texts
unfolding field_at
before_end [] i text is = absurd (let bad : ⊥ = cc in bad)
before_end (t ∷ texts) zero text is = omega arith
before_end (t ∷ texts) (suc i) text is = omega (arith, before_end texts i text is)

-- ---- digits
pub begins_some : (texts : List (List ℕ)) (word : List ℕ) → Some word ≡ field_at texts 0 → begins_with_digits texts ≡ bytes_eq word (codes "digits")
unfolding field_at
begins_some [] word is = absurd (let bad : ⊥ = cc in bad)
begins_some (t ∷ texts) word is = let same : word ≡ t = search is in ap (λ (u : List ℕ). bytes_eq u (codes "digits")) (sym same)

pub begins_none : (texts : List (List ℕ)) → None ≡ field_at texts 0 → begins_with_digits texts ≡ false
unfolding field_at
begins_none [] is = refl
begins_none (t ∷ texts) is = absurd (let bad : ⊥ = cc in bad)

pub other_count : (row : ℕ) (texts : List (List ℕ)) → length texts ≢ 2 → HasDigits row (drop 1 texts) (Err (refused row 0 WrongCount))
other_count row [] other = refl
other_count row (a ∷ []) other = refl
other_count row (a ∷ b ∷ []) other = absurd (other refl)
other_count row (a ∷ b ∷ c ∷ texts) other = refl

pub second : (texts : List (List ℕ)) (digits : List ℕ) → length texts ≡ 2 → Some digits ≡ field_at texts 1 → drop 1 texts ≡ digits ∷ []
unfolding field_at
second [] digits two is = absurd (omega (arith, two))
second (a ∷ []) digits two is = absurd (omega (arith, two))
second (a ∷ b ∷ []) digits two is = let same : digits ≡ b = search is in ap (λ (u : List ℕ). u ∷ []) (sym same)
second (a ∷ b ∷ c ∷ texts) digits two is = absurd (omega (arith, two))

pub no_second : (texts : List (List ℕ)) → length texts ≡ 2 → None ≡ field_at texts 1 → ⊥
unfolding field_at
no_second [] two is = omega (arith, two)
no_second (a ∷ []) two is = omega (arith, two)
no_second (a ∷ b ∷ texts) two is = let bad : ⊥ = cc in bad
