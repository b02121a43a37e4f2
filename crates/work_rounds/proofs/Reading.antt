-- The numbers of a row.
use Rattle.std.proofs.Common.{◌≡◌, ◌≢◌, ℕ, ◌<◌, ◌^◌, refl, sym, ap, ◌∙◌, subst, arith, ℤ, pos, negsuc, neg_ℤ, ◌≤ℤ◌, w32, w64, SFits, to_z, of_z, List, [], ◌∷◌, length, Option, Some, None, Result, Ok, Err}
use Rattle.std.specs.Prelude.{unsigned_abs}
use Rattle.std.specs.Result.{result_map_both}
use Rattle.std.proofs.lemmas.Int.{ints, to_z_pos, to_z-of_z}
use Rattle.std.proofs.Math.IntN.{nat_abs}
use Rattle.aid_types.specs.Ranges.{IsBetween, IsIndex, IsWithin}
use Rattle.aid_types.specs.Whole.{whole_between, whole_of}
use Rattle.aid_types.specs.declared.text.Malformed.{Malformed}
use Rattle.csv.specs.Records.{field_at}
use Rattle.format_rows.specs.Numbers.{refused, whole_spelled}
use Rattle.format_rows.proofs.WholeFields.{kept}
use Rattle.format_rows.specs.declared.error.Cause.TheVariants.{WrongCount}
use Rattle.format_rows.specs.declared.error.RowError.{RowError}
use Rattle.format_table.specs.Walk.{and_then}
use Rattle.work_rounds.specs.Rows.{round_row}
use Rattle.work_rounds.specs.Words.{round_in}
use Rattle.work_rounds.specs.declared.rows.RoundSaid.{RoundSaid}

-- a number that isn't negative stays between its bounds
pub natural_between : (low high : ℕ) (from to y : ℤ) → from ≡ pos low → to ≡ pos high → high < 2 ^ 63 → from ≤ℤ y → y ≤ℤ to → IsBetween low high (nat_abs (to_z w64 (of_z w64 y)))
natural_between low high from to (negsuc m) is are h above below = absurd (omega (arith, ints, is))
natural_between low high from to (pos m) is are h above below =
    let same : to_z w64 (of_z w64 (pos m)) ≡ pos m = to_z_pos w64 m (omega (arith, ints, are)) in
    subst (λ (z : ℤ). IsBetween low high (nat_abs z)) (sym same) (omega (arith, ints, is), omega (arith, ints, are))

-- the four numbers of a row, by the places of their texts
abbrev pub row_by_places : ℕ → List (List ℕ) → Result RoundSaid RowError
row_by_places row texts =
    and_then (whole_spelled row 1 (pos 1) (pos 999999999999) (field_at texts 0)) (λ number. and_then (whole_spelled row 2 (neg_ℤ (pos 1500)) (pos 999999) (field_at texts 1)) (λ index.
    and_then (whole_spelled row 3 (pos 0) (pos 999999) (field_at texts 2)) (λ dollars. and_then (whole_spelled row 4 (pos 1) (pos 100) (field_at texts 3)) (λ percent.
    Ok (record { student = unsigned_abs number; sai = index; need = unsigned_abs dollars; intensity = unsigned_abs percent })))))

pub row_of_four : (row : ℕ) (texts : List (List ℕ)) → length texts ≡ 4 → round_row row texts ≡ row_by_places row texts
unfolding field_at
row_of_four row [] four = absurd (omega arith)
row_of_four row (a ∷ []) four = absurd (omega arith)
row_of_four row (a ∷ b ∷ []) four = absurd (omega arith)
row_of_four row (a ∷ b ∷ c ∷ []) four = absurd (omega arith)
row_of_four row (a ∷ b ∷ c ∷ d ∷ []) four = refl
row_of_four row (a ∷ b ∷ c ∷ d ∷ e ∷ texts) four = absurd (omega arith)

-- numbers in these ranges are kept by casts
in_64 : (z : ℤ) → neg_ℤ (pos 1500) ≤ℤ z → z ≤ℤ pos 999999999999 → to_z w64 (of_z w64 z) ≡ z
in_64 z above below = let fits : SFits w64 z = omega (arith, ints) in kept z fits

in_32 : (z : ℤ) → IsIndex z → to_z w32 (of_z w32 (to_z w64 (of_z w64 z))) ≡ z
in_32 z index =
    let above = index.0 in
    let below = index.1 in
    let fits : SFits w32 z = omega (arith, ints) in
    ap (λ (y : ℤ). to_z w32 (of_z w32 y)) (in_64 z above (omega (arith, ints))) ∙ to_z-of_z w32 z fits

pub said_numbers : (student sai need intensity : ℤ) → IsWithin (pos 1) (pos 999999999999) student → IsIndex sai → IsWithin (pos 0) (pos 999999) need → IsWithin (pos 1) (pos 100) intensity
    → ◌≡◌ {A = RoundSaid} (record { student = nat_abs (to_z w64 (of_z w64 student)); sai = to_z w32 (of_z w32 (to_z w64 (of_z w64 sai))); need = nat_abs (to_z w64 (of_z w64 need)); intensity = nat_abs (to_z w64 (of_z w64 intensity)) })
    (record { student = unsigned_abs student; sai = sai; need = unsigned_abs need; intensity = unsigned_abs intensity })
said_numbers student sai need intensity (a, b) index (p, q) (x, y) =
    let one = in_64 student (omega (arith, ints)) b in
    let two = in_32 sai index in
    let three = in_64 need (omega (arith, ints)) (omega (arith, ints)) in
    let four = in_64 intensity (omega (arith, ints)) (omega (arith, ints)) in
    λ i. record { student = unsigned_abs (one i); sai = two i; need = unsigned_abs (three i); intensity = unsigned_abs (four i) }

pub row_of_others : (row : ℕ) (texts : List (List ℕ)) → length texts ≢ 4 → round_row row texts ≡ Err (refused row 0 WrongCount)
row_of_others row [] other = refl
row_of_others row (a ∷ []) other = refl
row_of_others row (a ∷ b ∷ []) other = refl
row_of_others row (a ∷ b ∷ c ∷ []) other = refl
row_of_others row (a ∷ b ∷ c ∷ d ∷ []) other = absurd (other refl)
row_of_others row (a ∷ b ∷ c ∷ d ∷ e ∷ texts) other = refl

-- ---- the words of a round
pub no_round : {Policy : Type 0} (policies : List (ℕ × Policy)) (words : List (List ℕ)) → length words ≢ 4 → round_in policies words ≡ None
no_round policies [] other = refl
no_round policies (a ∷ []) other = refl
no_round policies (a ∷ b ∷ []) other = refl
no_round policies (a ∷ b ∷ c ∷ []) other = refl
no_round policies (a ∷ b ∷ c ∷ d ∷ []) other = absurd (other refl)
no_round policies (a ∷ b ∷ c ∷ d ∷ e ∷ words) other = refl
