-- What the table of kinds keeps to: the numbers within a field's limit have room in its form's bytes, only a field within
-- two bounds counts rows, and so many numbers are the most that a filing has. Own format.
use Rattle.std.specs.Prelude.{◌≡◌, ◌≤◌, nat_le, ℕ, ◌+◌, ◌*◌, ◌^◌, max, ℤ, pos, neg_ℤ, ◌≤ℤ◌, int_le, unsigned_abs, Bool, true, false, ◌&&◌, List, [], ◌∷◌, length}
use Rattle.std.specs.List.{list_all}
use Rattle.format_table.specs.Parts.{Line, Slot}
use Rattle.format_table.specs.declared.field.Form.{Form}
use Rattle.format_table.specs.declared.field.Form.TheVariants.{U8, U16, U32, U64, I64, Cents, Day, Flag, Word, Count}
use Rattle.format_table.specs.declared.field.Limit.{Limit}
use Rattle.format_table.specs.declared.field.Limit.TheVariants.{Between, UpToLast, AboveRow, Continues, Begins}

-- the least and the greatest number of a form's bytes, no further from 0 than 10^12
abbrev pub lowest : Form → ℤ
lowest I64 = neg_ℤ (pos (10 ^ 12))
lowest Day = neg_ℤ (pos (2 ^ 31))
lowest _ = pos 0

abbrev pub highest : Form → ℤ
highest U8 = pos 255
highest U16 = pos 65535
highest U32 = pos 4294967295
highest U64 = pos (10 ^ 12)
highest I64 = pos (10 ^ 12)
highest Cents = pos (10 ^ 12)
highest Day = pos 2147483647
highest Flag = pos 255
highest Word = pos 255
highest Count = pos 255

-- a number has room in a form's bytes
pub record IsHeld (form : Form) (z : ℤ) : Type 0 where
  pub low : lowest form ≤ℤ z
  pub high : z ≤ℤ highest form

-- numbers from low to high have room in a form's bytes
abbrev pub holds : Form → ℤ → ℤ → Bool
holds form low high = int_le (lowest form) low && int_le high (highest form)

-- numbers within a limit have, where each number before them is no further from 0 than 10^12
abbrev pub limit_holds : Form → Limit → Bool
limit_holds form (Between low high) = holds form low high
limit_holds form (UpToLast low) = holds form low (pos (10 ^ 12))
limit_holds form (AboveRow high) = holds form (neg_ℤ (pos (10 ^ 12))) high
limit_holds form (Continues high) = holds form (pos 0) high
limit_holds form (Begins high) = holds form (pos 0) high

abbrev pub line_holds : Line → Bool
line_holds line = limit_holds line.form line.limit

-- a field counts no rows, or so many as its limit lets it
abbrev pub may_count : List Line → Limit → Bool
may_count [] limit = true
may_count (line ∷ lines) (Between low high) = int_le (pos 0) low
may_count (line ∷ lines) _ = false

abbrev pub is_sound_slot : Slot → Bool
is_sound_slot slot = line_holds slot.line && list_all line_holds slot.first && list_all line_holds slot.later && may_count slot.first slot.line.limit

abbrev pub are_sound : List Slot → Bool
are_sound slots = list_all is_sound_slot slots

-- the most rows that a field counts, and the most numbers in them
abbrev pub most_rows : Limit → ℕ
most_rows (Between low high) = unsigned_abs high
most_rows _ = 0

abbrev pub most_behind : List Line → List Line → Limit → ℕ
most_behind [] later limit = 0
most_behind (line ∷ lines) later limit = most_rows limit * max (length (line ∷ lines)) (length later)

-- the most numbers for all that is to come
abbrev pub most_of : List Slot → ℕ
most_of [] = 0
most_of (slot ∷ slots) = (1 + most_behind slot.first slot.later slot.line.limit) + most_of slots

-- the most numbers that a filing has: 2 of its key, and 368 of a book of form 2 whose tables are full
abbrev pub most_numbers : ℕ
most_numbers = 370

-- fields whose numbers have room in their bytes, of which there are not more than the most
pub record IsTable (slots : List Slot) : Type 0 where
  pub sound : are_sound slots ≡ true
  pub few : most_of slots ≤ most_numbers

abbrev pub is_table : List Slot → Bool
is_table slots = are_sound slots && nat_le (most_of slots) most_numbers
