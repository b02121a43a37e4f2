-- The number that a field's text spells, and how many fields a row has. Own format.
use Rattle.std.specs.Prelude.{ℕ, ◌-◌, ◌-ℤ◌, ◌*◌, ◌^◌, nat_le, ℤ, pos, neg_ℤ, unsigned_abs, Bool, false, ◌&&◌, ◌==◌, if◌then◌else◌, List, [], ◌∷◌, length, drop, bytes_eq, Option, Some, None, ok_or, option_map, Result, Ok, Err}
use Rattle.std.specs.List.{position}
use Rattle.std.specs.Result.{result_map_both}
use Rattle.aid_types.specs.Cents.{cents_of, cents_up_to}
use Rattle.aid_types.specs.Whole.{whole_between, whole_of}
use Rattle.aid_types.specs.declared.text.Malformed.{Malformed}
use Rattle.aid_types.specs.declared.text.Malformed.TheVariants.{Spelling}
use Rattle.law_terms.specs.DayText.{day_in}
use Rattle.format_table.specs.Limits.{fits}
use Rattle.format_table.specs.Parts.{Line, Slot}
use Rattle.format_table.specs.declared.field.Form.{Form}
use Rattle.format_table.specs.declared.field.Form.TheVariants.{Cents, Day, Word}

-- the number of a day by the days since 1970-01-01, of that by the days since 1900-01-01
abbrev pub day_number : ℕ → ℤ
day_number day = pos day -ℤ pos 25567

-- The number that a text spells in a form, or why it spells none: dollars with two decimals, up to 999,999.99; a civil day, by
-- the days since 1970-01-01; a word of the table's, by its place; and otherwise a whole number of 64 bits.
abbrev pub number_in : List (List ℕ) → Form → List ℕ → Result ℤ Malformed
number_in words Cents text = result_map_both (λ n. pos n) (λ e. e) (cents_up_to 99999999 (cents_of text))
number_in words Day text = result_map_both day_number (λ e. e) (day_in text)
number_in words Word text = ok_or (option_map (λ place. pos place) (position (λ word. bytes_eq word text) words)) Spelling
number_in words _ text = whole_between (neg_ℤ (pos (2 ^ 63))) (pos (2 ^ 63 - 1)) (whole_of text)

-- ---- how many fields a row has
-- the count of rows that was read, where it is within the field's limit
abbrev pub count_within : Line → Result ℤ Malformed → Option ℕ
count_within line (Ok z) = if fits line.limit [] z then Some (unsigned_abs z) else None
count_within line (Err e) = None

-- how many fields the rows have that a field's text counts, each with these columns; a field without columns counts no rows
abbrev pub fields_counted : List (List ℕ) → List Line → Line → List ℕ → Option ℕ
fields_counted words [] line text = Some 0
fields_counted words (column ∷ columns) line text = option_map (λ n. n * length (column ∷ columns)) (count_within line (number_in words line.form text))

-- the texts behind a field: first those of the rows that it counts; where it spells no count, at least so many
abbrev pub go_on : Option ℕ → ℕ → (List (List ℕ) → Bool) → List (List ℕ) → Bool
go_on None least rest texts = nat_le least (length texts)
go_on (Some n) least rest texts = nat_le n (length texts) && rest (drop n texts)

-- Whether there are as many texts as these fields have, those of the rows that one of them counts included. Behind a field
-- that counts rows and spells no count within its limit there are at least as many as fields are still to come.
unfoldable pub are_as_many : List (List ℕ) → List Slot → List (List ℕ) → Bool
are_as_many words [] texts = length texts == 0
are_as_many words (slot ∷ slots) [] = false
are_as_many words (slot ∷ slots) (text ∷ texts) = go_on (fields_counted words slot.first slot.line text) (length slots) (λ behind. are_as_many words slots behind) texts
