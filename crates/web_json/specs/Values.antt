-- The numbers that the value of a body says. Own format, in JSON (RFC 8259).
use Rattle.std.specs.Prelude.{ℕ, ◌==◌, ℤ, pos, Bool, false, ◌&&◌, List, [], ◌∷◌, ◌++◌, length, bytes_eq, Option, Some, None, is_some, option_map, option_and_then, Result, Ok, Err, if◌then◌else◌}
use Rattle.std.specs.List.{list_all, position}
use Rattle.std.specs.Str.{is_utf8}
use Rattle.serde_json.specs.Data.{Data, null, boolean, number, string, array, object, Items, no_items, item}
use Rattle.serde_json.specs.Events.{members_len}
use Rattle.serde_json.specs.Find.{get, as_array, as_i64, as_number, as_str}
use Rattle.serde_json.specs.Read.{read}
use Rattle.aid_types.specs.declared.text.Malformed.{Malformed}
use Rattle.law_terms.specs.DayText.{day_in}
use Rattle.format_kinds.specs.Kinds.{words_of_programs}
use Rattle.format_table.specs.Parts.{Line, Slot}
use Rattle.format_table.specs.declared.field.Form.{Form}
use Rattle.format_table.specs.declared.field.Form.TheVariants.{Day, Word}
use Rattle.format_bytes.specs.Numbers.{day_number}

-- the value of a body, which one that isn't UTF-8 doesn't have
abbrev pub value_of : List ℕ → Option Data
value_of body = if is_utf8 body then read body else None

-- ---- the keys of a value
-- a value is an object of so many members
abbrev pub has_len : ℕ → Data → Bool
has_len n (object members) = members_len members == n
has_len n null = false
has_len n (boolean b) = false
has_len n (number x) = false
has_len n (string s) = false
has_len n (array ds) = false

-- each of these keys stands in a value
abbrev pub has_all : List (List ℕ) → Data → Bool
has_all keys d = list_all (λ key. is_some (get key d)) keys

-- a value is an object with these keys, no two of which are the same, and no others
abbrev pub has_exactly : List (List ℕ) → Data → Bool
has_exactly keys d = has_len (length keys) d && has_all keys d

-- ---- one number
-- a day that a text spells, by the days since 1970-01-01
abbrev pub day_said : Result ℕ Malformed → Option ℤ
day_said (Ok day) = Some (day_number day)
day_said (Err e) = None

-- a program's word, by its place in the order of returns (34 CFR 668.22(i))
abbrev pub program_said : List ℕ → Option ℤ
program_said text = option_map (λ place. pos place) (position (λ word. bytes_eq word text) words_of_programs)

-- the number that a value says in a form: a day and a program are strings, and all else, cents too, is a whole number
abbrev pub number_said : Form → Data → Option ℤ
number_said Day d = option_and_then (λ text. day_said (day_in text)) (as_str d)
number_said Word d = option_and_then program_said (as_str d)
number_said _ d = option_and_then as_i64 (as_number d)

-- ---- several numbers
abbrev pub one : Option ℤ → Option (List ℤ)
one z = option_map (λ z. z ∷ []) z

-- some numbers and those behind them, where there are both
abbrev pub joined : Option (List ℤ) → Option (List ℤ) → Option (List ℤ)
joined None more = None
joined (Some zs) more = option_map (λ ys. zs ++ ys) more

-- the values of an array
abbrev pub values_of : Items → List Data
values_of no_items = []
values_of (item d ds) = d ∷ values_of ds

-- the numbers of a row, which is an array of one value for each column
abbrev pub row_said : List Line → List Data → Option (List ℤ)
row_said [] [] = Some []
row_said [] (d ∷ ds) = None
row_said (column ∷ columns) [] = None
row_said (column ∷ columns) (d ∷ ds) = joined (one (number_said column.form d)) (row_said columns ds)

-- the numbers of rows, one behind the other
abbrev pub rows_said : List Line → List Data → Option (List ℤ)
rows_said columns [] = Some []
rows_said columns (d ∷ ds) = joined (option_and_then (λ items. row_said columns (values_of items)) (as_array d)) (rows_said columns ds)

-- how many rows there are, and then their numbers
abbrev pub table_said : List Line → List Data → Option (List ℤ)
table_said columns rows = joined (Some (pos (length rows) ∷ [])) (rows_said columns rows)

-- the numbers that the value of a field says: one, or, where the field counts rows, an array of them
abbrev pub member_said : List Line → Form → Data → Option (List ℤ)
member_said [] form d = one (number_said form d)
member_said (column ∷ columns) form d = option_and_then (λ items. table_said (column ∷ columns) (values_of items)) (as_array d)

-- the numbers that an object says for fields, each under its name
abbrev pub numbers_said : List Slot → Data → Option (List ℤ)
numbers_said [] d = Some []
numbers_said (slot ∷ slots) d = joined (option_and_then (member_said slot.first slot.line.form) (get slot.line.name d)) (numbers_said slots d)
