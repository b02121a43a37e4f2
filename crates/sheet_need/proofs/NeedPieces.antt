-- Lines of a worksheet, piece by piece.
use Rattle.std.proofs.Common.{◌≡◌, ℕ, suc, ◌<◌, ◌^◌, ◌*◌, ◌/◌, ℤ, pos, negsuc, ◌*ℤ◌, ◌≤ℤ◌, int_le, FitsSigned, to_z, of_z, w32, w64, List, ◌∷◌, ◌++◌, sym, ap, ◌∙◌, append_assoc, arith}
use Rattle.std.specs.Prelude.{Result, Ok, Err, OnOk, cond, IsTrue, ◌↔◌}
use Rattle.std.specs.Fmt.{signed_decimal}
use Rattle.std.specs.Int.Signed.{mag}
use Rattle.std.specs.Result.{is_ok}
use Rattle.std.proofs.lemmas.Int.{ints, to_z-of_z}
use Rattle.std.proofs.lemmas.List.Concat.{flat_map-append}
use Rattle.aid_types.specs.Whole.{whole_text}
use Rattle.aid_types.proofs.SignedLemmas.{int_le-true}
use Rattle.aid_types.proofs.WholeLemmas.{decimal-natural_text}
use Rattle.aid_types.specs.Ranges.{IsAmount, IsSignedAmount}
use Rattle.law_pell.specs.Award.{is_within}
use Rattle.sheet_need.specs.NeedEntries.{amount, most_within, worked, worked_with}
use Rattle.sheet_need.specs.NeedLines.{entries_text, entry_text}
use Rattle.sheet_need.specs.declared.entry.Entry.{Entry}
use Rattle.sheet_need.specs.declared.entry.Label.{Label}
use Rattle.sheet_need.specs.declared.entry.Mark.{Mark}
use Rattle.sheet_need.specs.declared.entry.Part.{Part}

-- std's word for a number that may be negative
pub spelled : (z : ℤ) → mag z < 2 ^ 127 → signed_decimal z ≡ whole_text z
spelled (pos n) h = decimal-natural_text n (omega (arith, h))
spelled (negsuc n) h = ap (λ ds. 45 ∷ ds) (decimal-natural_text (suc n) (omega (arith, h)))

-- what is appended where there is memory
pub appended : {T E : Type 0} (r : Result T E) (new more old : List ℕ) → new ≡ cond (is_ok r) more old → OnOk r (new ≡ more)
appended (Ok x) new more old e = e
appended (Err x) new more old e = tt

-- two texts, one behind the other
pub chained : (old xs ys mid new : List ℕ) → mid ≡ old ++ xs → new ≡ mid ++ ys → new ≡ old ++ (xs ++ ys)
chained old xs ys mid new e f = f ∙ ap (λ t. t ++ ys) e ∙ append_assoc old xs ys

-- two parts of a section
pub joined : (xs ys : List Entry) (old mid new : List ℕ) → mid ≡ old ++ entries_text xs → new ≡ mid ++ entries_text ys → new ≡ old ++ entries_text (xs ++ ys)
unfolding entries_text
joined xs ys old mid new e f =
    chained old (entries_text xs) (entries_text ys) mid new e f ∙ ap (λ t. old ++ t) (sym (flat_map-append entry_text xs ys))

-- a part by what it is
pub pushed : (xs ys : List Entry) (old new : List ℕ) → xs ≡ ys → new ≡ old ++ entries_text xs → new ≡ old ++ entries_text ys
pushed xs ys old new e f = f ∙ ap (λ (es : List Entry). old ++ entries_text es) e

-- a line more
pub entries_are : (x y : Entry) (xs ys : List Entry) → x ≡ y → xs ≡ ys → x ∷ xs ≡ y ∷ ys
entries_are x y xs ys e f = ap (λ z. z ∷ xs) e ∙ ap (λ zs. y ∷ zs) f

-- an amount of the application, and a worked line, as the code has them
pub amount_is : (m : Mark) (k : Label) (z : ℤ) (e : Entry) → IsAmount z → e ≡ amount m k (to_z w32 (of_z w32 z)) → e ≡ amount m k z
amount_is m k z e h f = let held : to_z w32 (of_z w32 z) ≡ z = omega (arith, ints) in f ∙ ap (amount m k) held

pub signed_is : (m : Mark) (k : Label) (z : ℤ) (e : Entry) → IsSignedAmount z → e ≡ amount m k (to_z w32 (of_z w32 z)) → e ≡ amount m k z
signed_is m k z e h f = let held : to_z w32 (of_z w32 z) ≡ z = omega (arith, ints) in f ∙ ap (amount m k) held

pub worked_is : (m : Mark) (k : Label) (z : ℤ) (e : Entry) → FitsSigned w64 z → e ≡ worked m k (to_z w64 (of_z w64 z)) → e ≡ worked m k z
worked_is m k z e h f = f ∙ ap (worked m k) (to_z-of_z w64 z h)

pub worked_with_is : (m : Mark) (k : Label) (p : Part) (z : ℤ) (e : Entry) → FitsSigned w64 z → e ≡ worked_with m k p (to_z w64 (of_z w64 z)) → e ≡ worked_with m k p z
worked_with_is m k p z e h f = f ∙ ap (worked_with m k p) (to_z-of_z w64 z h)

-- the greatest whole income within a percent of a guideline
within_at : (k : ℕ) (income : ℤ) → IsTrue (int_le (pos 100 *ℤ income) (pos k)) ↔ (income ≤ℤ pos (k / 100))
within_at k income = (λ h. omega (arith, ints, h), λ h. int_le-true (pos 100 *ℤ income) (pos k) (omega (arith, ints, h)))

pub greatest_within : (percent guideline : ℤ) → pos 0 ≤ℤ percent → pos 0 ≤ℤ guideline
    → (income : ℤ) → IsTrue (is_within income percent guideline) ↔ (income ≤ℤ most_within percent guideline)
greatest_within (pos m) (pos n) g h income = within_at (m * n) income
greatest_within (pos m) (negsuc n) g h income = absurd (omega (arith, ints, h))
greatest_within (negsuc m) guideline g h income = absurd (omega (arith, ints, g))
