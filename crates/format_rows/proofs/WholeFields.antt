-- The whole numbers of fields.
use Rattle.std.proofs.Common.{◌≡◌, ℕ, ap, ◌∙◌, subst, arith, ℤ, ◌≤ℤ◌, w64, SFits, to_z, of_z, List, Option, Some, Result}
use Rattle.std.specs.Result.{result_map_both}
use Rattle.std.proofs.lemmas.Int.{ints, to_z-of_z}
use Rattle.aid_types.specs.Whole.{whole_between, whole_of}
use Rattle.aid_types.specs.declared.text.Malformed.{Malformed}
use Rattle.format_rows.specs.Numbers.{cause_of, refused, whole_spelled}

-- a number of 64 bits is kept by a cast, and so is one between two
pub kept : (z : ℤ) → SFits w64 z → to_z w64 (of_z w64 z) ≡ z
kept z fits = to_z-of_z w64 z fits

pub between : (low high y : ℤ) → SFits w64 low → SFits w64 high → to_z w64 (of_z w64 low) ≤ℤ y → y ≤ℤ to_z w64 (of_z w64 high) → (low ≤ℤ y) × (y ≤ℤ high)
between low high y least most above below = (subst (λ (z : ℤ). z ≤ℤ y) (kept low least) above, subst (λ (z : ℤ). y ≤ℤ z) (kept high most) below)

pub kept_between : (low high y : ℤ) → SFits w64 low → SFits w64 high → low ≤ℤ y → y ≤ℤ high → to_z w64 (of_z w64 y) ≡ y
kept_between low high y least most above below = let fits : SFits w64 y = omega (arith, ints) in kept y fits

-- what was read of the text that stands there
pub number_read : (row field : ℕ) (low high from to : ℤ) (o : Option (List ℕ)) (text : List ℕ) (read : Result ℤ Malformed) → from ≡ low → to ≡ high → Some text ≡ o → read ≡ whole_between from to (whole_of text)
    → result_map_both (λ z. z) (λ e. refused row field (cause_of e)) read ≡ whole_spelled row field low high o
number_read row field low high from to o text read first last at is =
    ap (λ (x : Result ℤ Malformed). result_map_both (λ z. z) (λ e. refused row field (cause_of e)) x) is
    ∙ ap (λ (p : Option (List ℕ)). whole_spelled row field from to p) at
    ∙ (λ i. whole_spelled row field (first i) (last i) o)
