-- The fields of a kind of filing, as the table of the program has them. Own format.
use Rattle.std.specs.Prelude.{ℕ, List, map}
use Rattle.format_table.specs.declared.field.Field.{Field}
use Rattle.format_table.specs.declared.field.Form.{Form}
use Rattle.format_table.specs.declared.field.Form.TheVariants.{U16, U32, U64, I64, Cents, Day}
use Rattle.format_table.specs.declared.field.Limit.{Limit}
use Rattle.format_table.specs.declared.field.Part.{Part}

-- a field: its name, how its number is written and kept, and what the number may be
pub record Line : Type 0 where
  pub name : List ℕ
  pub form : Form
  pub limit : Limit

-- a field with the rows that it counts, where its number is a count: the fields of the first row, and those of each later
-- one. A field that counts nothing has no fields in either. The last `ends` of all fields to come stand only where its number
-- is above 1.
pub record Slot : Type 0 where
  pub line : Line
  pub first : List Line
  pub later : List Line
  pub ends : ℕ

-- those of the program's table
abbrev pub line_of : Field → Line
line_of f = record { name = f.name.now; form = f.form; limit = f.limit }

abbrev pub lines_of : List Field → List Line
lines_of fs = map line_of fs

abbrev pub slot_of : Part → Slot
slot_of p = record { line = line_of p.field; first = lines_of p.first.now; later = lines_of p.later.now; ends = p.ends }

abbrev pub slots_of : List Part → List Slot
slots_of ps = map slot_of ps

-- how many bytes a number takes
abbrev pub width_of : Form → ℕ
width_of U16 = 2
width_of U32 = 4
width_of Day = 4
width_of U64 = 8
width_of I64 = 8
width_of Cents = 8
width_of _ = 1
