-- The one spelling of an entry: its kind's code, and its numbers in the order of the kind's fields, each in its form's
-- bytes with the lowest first. Own format.
use Rattle.std.specs.Prelude.{◌≡◌, ℕ, ℤ, List, [], ◌∷◌, ◌++◌, take}
use Rattle.std.specs.Int.{w64, to_le_bytes, cast_unsigned}
use Rattle.format_table.specs.Layout.{after}
use Rattle.format_table.specs.Parts.{Slot, width_of}
use Rattle.format_table.specs.Tables.{KindRow, slots_at}
use Rattle.format_table.specs.declared.field.Form.{Form}

-- the lowest bytes of a number, the lowest first; a number below 0 is that of its two's complement
abbrev pub number_bytes : Form → ℤ → List ℕ
number_bytes form z = take (width_of form) (to_le_bytes w64 (cast_unsigned w64 z))

-- the bytes of numbers, one after the other
abbrev pub numbers_bytes : List Slot → List ℤ → List ℕ
numbers_bytes slots [] = []
numbers_bytes [] (z ∷ zs) = []
numbers_bytes (slot ∷ slots) (z ∷ zs) = number_bytes slot.line.form z ++ numbers_bytes (after (slot ∷ slots) z) zs

-- the bytes of an entry of a table, by its code and its numbers
abbrev pub row_bytes : List Slot → List KindRow → ℕ → List ℤ → List ℕ
row_bytes key kinds code zs = code ∷ numbers_bytes (slots_at key kinds code) zs

-- a spelling that begins another is that other, of the same entry
pub record IsAlone {E : Type 0} (entry other : E) (rest : List ℕ) : Type 0 where
  pub same : entry ≡ other
  pub nothing : rest ≡ []
