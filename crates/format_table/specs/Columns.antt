-- Fields as a table writes them.
use Rattle.std.specs.Prelude.{ℕ, ◌==◌, ℤ, pos, neg_ℤ, List, [], ◌∷◌, ◌++◌, map, codes}
use Rattle.std.specs.List.{slice_split}
use Rattle.format_table.specs.Layout.{plain}
use Rattle.format_table.specs.Parts.{Line, Slot}
use Rattle.format_table.specs.declared.field.Form.{Form}
use Rattle.format_table.specs.declared.field.Form.TheVariants.{U8, U16, U64, Cents, Day, Flag, Count}
use Rattle.format_table.specs.declared.field.Limit.{Limit}
use Rattle.format_table.specs.declared.field.Limit.TheVariants.{Between}

abbrev pub line : List ℕ → Form → Limit → Line
line name form limit = record { name = name; form = form; limit = limit }

-- a field that counts nothing, from a least number to a greatest one
abbrev pub one : List ℕ → Form → ℤ → ℤ → Slot
one name form low high = plain (line name form (Between low high))

-- such fields, alike but for their names: a beginning, and behind it each word of a text
abbrev pub fields : List ℕ → List ℕ → Form → ℤ → ℤ → List Slot
fields start words form low high = map (λ word. one (start ++ word) form low high) (slice_split (λ c. c == 32) words)

-- a count of rows, and their fields
abbrev pub counted : List ℕ → ℤ → ℤ → List Line → List Line → Slot
counted name low high first later = record { line = line name Count (Between low high); first = first; later = later; ends = 0 }

-- ---- fields that several kinds have
abbrev pub student : Slot
student = one (codes "student") U64 (pos 1) (pos 999999999999)

abbrev pub year : Slot
year = one (codes "year") U16 (pos 2000) (pos 2099)

abbrev pub term : Slot
term = one (codes "term") U8 (pos 1) (pos 8)

abbrev pub day : List ℕ → Line
day name = line name Day (Between (neg_ℤ (pos 25567)) (pos 2932896))

abbrev pub flags : List ℕ → List Slot
flags names = fields [] names Flag (pos 0) (pos 1)

abbrev pub cents : List ℕ → List Slot
cents names = fields [] names Cents (pos 0) (pos 99999999)
