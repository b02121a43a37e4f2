-- Reading numbers from bytes one after the other, as a loop does.
use Rattle.std.proofs.Common.{◌≡◌, ℕ, ◌+◌, ◌<◌, inl, inr, ℤ, true, false, List, [], ◌∷◌, length, drop, Some, None, Ok, Err, refl, sym, ap, ◌∙◌, reverse}
use Rattle.std.specs.Prelude.{option_map, slice_get}
use Rattle.std.proofs.lemmas.Bool.{cases_lt}
use Rattle.format_table.specs.Draft.{Progress, accepts, onward}
use Rattle.format_table.specs.Forms.{IsHeld, most_numbers}
use Rattle.format_table.specs.Parts.{Line, width_of}
use Rattle.format_table.specs.declared.field.Form.{Form}
use Rattle.format_table.proofs.WalkLaws.{IsNext, all_put, none_found, numbers_with, past_limit, past_word, put_next, too_much_left}
use Rattle.format_table.specs.Reading.{IsNumber, IsNoNumber, front_value}
use Rattle.format_table.specs.Taking.{byte_source, front_number, place_left, placed}
use Rattle.format_table.proofs.NumberLaws.{found_at, long, short}

is_found : (form : Form) (place : ℕ) (bytes : List ℕ) (z : ℤ) → IsNumber form bytes z → front_number form (placed place bytes) ≡ Ok (found_at form place bytes z)
is_found form place bytes z h = long form place bytes h.enough ∙ ap (λ y. Ok (found_at form place bytes y)) (sym h.value)

-- what is known where the next number is read
pub record IsReading (draft : Progress) (line : Line) : Type 0 where
  pub next : IsNext line draft.slots
  pub room : length draft.earlier < most_numbers
  pub held : (z : ℤ) → accepts draft z ≡ true → IsHeld line.form z

-- there is none
pub is_short : (draft : Progress) (place : ℕ) (bytes : List ℕ) (line : Line) → IsReading draft line → IsNoNumber line.form bytes → numbers_with byte_source draft (placed place bytes) ≡ Err place
is_short draft place bytes line r (inl lt) = none_found byte_source draft (placed place bytes) line place r.next r.room (short line.form place bytes lt)
is_short draft place bytes line r (inr wide) = elim (cases_lt (length bytes) (width_of line.form)) [
  | inl lt ↦ none_found byte_source draft (placed place bytes) line place r.next r.room (short line.form place bytes lt)
  | inr le ↦ past_limit byte_source draft (placed place bytes) line (found_at line.form place bytes (front_value line.form bytes)) r.next r.room (long line.form place bytes le)
      (past_word draft line.form (front_value line.form bytes) r.held wide)
]

-- it is past its limit
pub is_past : (draft : Progress) (place : ℕ) (bytes : List ℕ) (line : Line) (z : ℤ) → IsReading draft line → IsNumber line.form bytes z → accepts draft z ≡ false
    → numbers_with byte_source draft (placed place bytes) ≡ Err place
is_past draft place bytes line z r n past = past_limit byte_source draft (placed place bytes) line (found_at line.form place bytes z) r.next r.room (is_found line.form place bytes z n) past

-- it is put behind the others
pub goes_on : (draft next : Progress) (place : ℕ) (bytes behind : List ℕ) (line : Line) (z : ℤ) (width : ℕ) → IsReading draft line → IsNumber line.form bytes z → accepts draft z ≡ true → next ≡ onward draft z
    → width ≡ width_of line.form → behind ≡ drop width bytes → numbers_with byte_source next (placed (place + width) behind) ≡ numbers_with byte_source draft (placed place bytes)
goes_on draft next place bytes behind line z width r n fit is w b =
    rw (b, w) (put_next byte_source draft next (placed place bytes) line (found_at line.form place bytes z) r.next r.room (is_found line.form place bytes z n) fit is)

-- none is to come, and no byte is left, or some are
none_left : (place : ℕ) (bytes : List ℕ) → length bytes ≡ 0 → place_left place bytes ≡ None
none_left place [] e = refl
none_left place (b ∷ bytes) e = absurd cc

some_left : (place : ℕ) (bytes : List ℕ) → (length bytes ≡ 0 → ⊥) → place_left place bytes ≡ Some place
some_left place [] e = absurd (e refl)
some_left place (b ∷ bytes) e = refl

pub is_done : (draft : Progress) (place : ℕ) (bytes : List ℕ) → None ≡ option_map (λ slot. slot.line) (slice_get draft.slots 0) → length bytes ≡ 0 → numbers_with byte_source draft (placed place bytes) ≡ Ok (reverse draft.earlier)
is_done draft place bytes none e = all_put byte_source draft (placed place bytes) none (none_left place bytes e)

pub is_too_long : (draft : Progress) (place : ℕ) (bytes : List ℕ) → None ≡ option_map (λ slot. slot.line) (slice_get draft.slots 0) → (length bytes ≡ 0 → ⊥) → numbers_with byte_source draft (placed place bytes) ≡ Err place
is_too_long draft place bytes none e = too_much_left byte_source draft (placed place bytes) place none (some_left place bytes e)
