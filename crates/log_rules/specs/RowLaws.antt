-- What holds of filings that are spelled as rows of a table.
use Rattle.std.proofs.Common.{◌≡◌, ℕ, ◌≤◌, ℤ, refl, sym, ap, ◌∙◌, arith, true, ◌==◌, List, [], ◌∷◌, ◌++◌, length, Option, eqb-true, eq-eqb}
use Rattle.std.specs.Ordering.{int_eq}
use Rattle.std.proofs.lemmas.Bool.{and_parts, and_from}
use Rattle.std.proofs.lemmas.Bool.Decides.{Decides-int_eq}
use Rattle.std.proofs.lemmas.Cmp.{int_eq_equiv}
use Rattle.aid_types.specs.declared.number.Key.{Key}
use Rattle.aid_types.specs.declared.award.Refusal.{Refusal}
use Rattle.log_journal.specs.Stands.{IsPayload}
use Rattle.format_table.specs.Spelling.{row_bytes}
use Rattle.format_table.proofs.EntryLaws.{AreOne, is_alone}
use Rattle.format_table.proofs.RowLaws.{length-row_bytes}
use Rattle.format_table.specs.Parts.{Slot}
use Rattle.format_table.specs.Tables.{KindRow, is_sound_table}
use Rattle.log_rules.specs.Rows.{SpellsRows, ruling_by, same_numbers, same_row}
use Rattle.log_rules.specs.Ruling.{Ruling}

-- ---- the test of numbers tells the same numbers
numbers_are : (ys zs : List ℤ) → same_numbers ys zs ≡ true → ys ≡ zs
numbers_are [] [] h = refl
numbers_are [] (z ∷ zs) h = absurd (let bad : ⊥ = cc in bad)
numbers_are (y ∷ ys) [] h = absurd (let bad : ⊥ = cc in bad)
numbers_are (y ∷ ys) (z ∷ zs) h =
    let parts = and_parts (int_eq y z) (same_numbers ys zs) h in
    let first = (Decides-int_eq y z).0 parts.0 in
    let rest = numbers_are ys zs parts.1 in
    λ i. first i ∷ rest i

numbers_self : (zs : List ℤ) → same_numbers zs zs ≡ true
numbers_self [] = refl
numbers_self (z ∷ zs) = and_from (int_eq z z) (same_numbers zs zs) (int_eq_equiv.refl z) (numbers_self zs)

-- rules over a table spell its rows, where no two entries of a kind have the same numbers
pub rows_by : {Entry Outcome : Type 0} (key : List Slot) (kinds : List KindRow) (code_of : Entry → ℕ) (numbers_of : Entry → List ℤ) (key_of : Entry → Key)
    (breaks : List Entry → Entry → Option Refusal) (outcome : List Entry → Entry → Outcome) → AreOne code_of numbers_of
    → SpellsRows (ruling_by key kinds code_of numbers_of key_of breaks outcome) key kinds code_of numbers_of
rows_by {Entry} key kinds code_of numbers_of key_of breaks outcome one = record {
  spelled = λ e. refl;
  is_row = λ e is. is;
  is_entry = λ e is. is;
  same = same;
  same_self = λ e. and_from (code_of e == code_of e) (same_numbers (numbers_of e) (numbers_of e)) (eq-eqb (code_of e) (code_of e) refl) (numbers_self (numbers_of e));
} where
  same : (x y : Entry) → same_row code_of numbers_of x y ≡ true → x ≡ y
  same x y h =
      let parts = and_parts (code_of x == code_of y) (same_numbers (numbers_of x) (numbers_of y)) h in
      one x y (eqb-true (code_of x) (code_of y) parts.0) (numbers_are (numbers_of x) (numbers_of y) parts.1)

module _ {Entry Outcome : Type 0} (ruling : Ruling Entry Outcome) (key : List Slot) (kinds : List KindRow) (code_of : Entry → ℕ) (numbers_of : Entry → List ℤ) where
  -- a spelling may be kept
  pub keepable : SpellsRows ruling key kinds code_of numbers_of → is_sound_table key kinds ≡ true → (e : Entry) → ruling.IsEntry e → IsPayload (ruling.spelling e)
  keepable rows sound e is =
      let size : length (row_bytes key kinds (code_of e) (numbers_of e)) ≤ 8192 = length-row_bytes key kinds (code_of e) (numbers_of e) sound (rows.is_row e is) in
      let some : 1 ≤ length (row_bytes key kinds (code_of e) (numbers_of e)) = omega arith in
      let same : length (ruling.spelling e) ≡ length (row_bytes key kinds (code_of e) (numbers_of e)) = ap length (rows.spelled e) in
      record { some = omega (arith, same, some); fits = omega (arith, same, size) }

  -- it is that of one filing, and begins that of no other
  pub alone : SpellsRows ruling key kinds code_of numbers_of → is_sound_table key kinds ≡ true → AreOne code_of numbers_of
      → (e other : Entry) (rest : List ℕ) → ruling.IsEntry e → ruling.IsEntry other → ruling.spelling e ++ rest ≡ ruling.spelling other → e ≡ other
  alone rows sound one e other rest is also begins =
      (is_alone key kinds code_of numbers_of sound one e other rest (rows.is_row e is) (rows.is_row other also)
      (ap (λ (bytes : List ℕ). bytes ++ rest) (sym (rows.spelled e)) ∙ begins ∙ rows.spelled other)).same
