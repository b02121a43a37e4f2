-- The days of breaks, two and two.
use Rattle.std.proofs.Common.{◌≡◌, ℕ, zero, suc, ◌+◌, ◌<◌, ◌≤◌, ℤ, pos, neg_ℤ, List, [], ◌∷◌, ◌++◌, length, drop, refl, sym, ap, ◌∙◌, append_assoc, length-append, arith}
use Rattle.std.specs.Prelude.{IsTrue, flat_map, slice_index_or}
use Rattle.std.proofs.lemmas.List.{append-nil}
use Rattle.format_kinds.specs.Kinds.{first_and_last}
use Rattle.format_table.specs.Layout.{rows_again}
use Rattle.format_table.specs.Limits.{is_between}
use Rattle.format_bytes.specs.Numbers.{break_days, day_number}
use Rattle.format_bytes.specs.Parts.{FitSomewhere}

abbrev pub IsDayNumber : ℤ → Type 0
IsDayNumber z = IsTrue (is_between (neg_ℤ (pos 25567)) (pos 2932896) z)

-- breaks that were read, and so many more to come
pub record AreRead (days : List ℤ) (breaks : List (ℕ × ℕ)) (rest : List ℤ) : Type 0 where
  pub left : ℕ
  pub few : length breaks + left ≤ 8
  pub fit : FitSomewhere (rows_again left first_and_last) rest
  pub so_far : flat_map break_days breaks ++ rest ≡ days

pub flat_map-more : (breaks : List (ℕ × ℕ)) (b : ℕ × ℕ) → flat_map break_days (breaks ++ b ∷ []) ≡ flat_map break_days breaks ++ break_days b
flat_map-more [] b = refl
flat_map-more (x ∷ breaks) b = ap (λ (zs : List ℤ). break_days x ++ zs) (flat_map-more breaks b)

pub record NextIs (days : List ℤ) (breaks : List (ℕ × ℕ)) (rest : List ℤ) : Type 0 where
  pub first : IsDayNumber (slice_index_or rest 0 (pos 0))
  pub last : IsDayNumber (slice_index_or rest 1 (pos 0))
  pub room : length breaks < 8
  pub after : (x y : ℕ) → day_number x ≡ slice_index_or rest 0 (pos 0) → day_number y ≡ slice_index_or rest 1 (pos 0) → AreRead days (breaks ++ (x, y) ∷ []) (drop 2 rest)

next_by : (days : List ℤ) (breaks : List (ℕ × ℕ)) (left : ℕ) (a b : ℤ) (rest : List ℤ) → length breaks + left ≤ 8 → FitSomewhere (rows_again left first_and_last) (a ∷ b ∷ rest)
    → flat_map break_days breaks ++ (a ∷ b ∷ rest) ≡ days → NextIs days breaks (a ∷ b ∷ rest)
next_by days breaks zero a b rest few fit so_far = absurd fit.1
next_by days breaks (suc left) a b rest few fit so_far = record {
  first = fit.1.0;
  last = fit.1.1.0;
  room = omega arith;
  after = λ x y p q. record {
    left = left;
    few = omega (arith, length-append breaks ((x, y) ∷ []));
    fit = (b ∷ a ∷ fit.0, fit.1.1.1);
    so_far =
        ap (λ (zs : List ℤ). zs ++ rest) (flat_map-more breaks (x, y)) ∙ append_assoc (flat_map break_days breaks) (break_days (x, y)) rest
        ∙ ap (λ (zs : List ℤ). flat_map break_days breaks ++ zs) (λ i. p i ∷ q i ∷ rest) ∙ so_far;
  };
}

pub next : (days : List ℤ) (breaks : List (ℕ × ℕ)) (rest : List ℤ) → 2 ≤ length rest → AreRead days breaks rest → NextIs days breaks rest
next days breaks (a ∷ b ∷ rest) len h = next_by days breaks h.left a b rest h.few h.fit h.so_far
next days breaks rest len h = absurd (omega arith)

none_by : (left : ℕ) (rest : List ℤ) → FitSomewhere (rows_again left first_and_last) rest → length rest < 2 → rest ≡ []
none_by zero [] fit len = refl
none_by zero (z ∷ rest) fit len = absurd fit.1
none_by (suc left) (a ∷ b ∷ rest) fit len = absurd (omega arith)
none_by (suc left) (a ∷ []) fit len = absurd fit.1.1
none_by (suc left) [] fit len = absurd fit.1

pub all_read : (days : List ℤ) (breaks : List (ℕ × ℕ)) (rest : List ℤ) → length rest < 2 → AreRead days breaks rest → flat_map break_days breaks ≡ days
all_read days breaks rest len h =
    let none = none_by h.left rest h.fit len in
    sym (append-nil (flat_map break_days breaks)) ∙ ap (λ (zs : List ℤ). flat_map break_days breaks ++ zs) (sym none) ∙ h.so_far
