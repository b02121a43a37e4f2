-- OfficeRules over a table of fields: a filing is told and spelled by its kind's code and its numbers.
use Rattle.std.specs.Prelude.{◌≡◌, ◌==◌, ◌&&◌, ℕ, ℤ, Bool, true, false, List, [], ◌∷◌, Option}
use Rattle.std.specs.Ordering.{int_eq}
use Rattle.aid_types.specs.declared.number.Key.{Key}
use Rattle.aid_types.specs.declared.award.Refusal.{Refusal}
use Rattle.format_table.specs.Spelling.{row_bytes}
use Rattle.format_table.specs.Parts.{Slot}
use Rattle.format_table.specs.Tables.{IsRow, KindRow}
use Rattle.log_rules.specs.Ruling.{Ruling}

-- the same numbers in the same order
abbrev pub same_numbers : List ℤ → List ℤ → Bool
same_numbers [] [] = true
same_numbers (y ∷ ys) (z ∷ zs) = int_eq y z && same_numbers ys zs
same_numbers _ _ = false

-- the same code and the same numbers
abbrev pub same_row : {Entry : Type 0} → (Entry → ℕ) → (Entry → List ℤ) → Entry → Entry → Bool
same_row code_of numbers_of one other = (code_of one == code_of other) && same_numbers (numbers_of one) (numbers_of other)

-- the rules of an office whose filings are entries of a table
abbrev pub ruling_by : {Entry Outcome : Type 0} → List Slot → List KindRow → (Entry → ℕ) → (Entry → List ℤ) → (Entry → Key)
    → (List Entry → Entry → Option Refusal) → (List Entry → Entry → Outcome) → Ruling Entry Outcome
ruling_by key kinds code_of numbers_of key_of breaks outcome = record {
  key_of = key_of;
  is_same = same_row code_of numbers_of;
  breaks = breaks;
  outcome = outcome;
  spelling = λ e. row_bytes key kinds (code_of e) (numbers_of e);
  IsEntry = λ e. IsRow key kinds (code_of e) (numbers_of e);
}

-- the rules spell a filing as the row of its code and its numbers, and their test tells the same filing
pub record SpellsRows {Entry Outcome : Type 0} (ruling : Ruling Entry Outcome) (key : List Slot) (kinds : List KindRow) (code_of : Entry → ℕ) (numbers_of : Entry → List ℤ) : Type 0 where
  pub spelled : (e : Entry) → ruling.spelling e ≡ row_bytes key kinds (code_of e) (numbers_of e)
  pub is_row : (e : Entry) → ruling.IsEntry e → IsRow key kinds (code_of e) (numbers_of e)
  pub is_entry : (e : Entry) → IsRow key kinds (code_of e) (numbers_of e) → ruling.IsEntry e
  pub same : (one other : Entry) → ruling.is_same one other ≡ true → one ≡ other
  pub same_self : (one : Entry) → ruling.is_same one one ≡ true
