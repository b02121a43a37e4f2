-- The fields of a year book and those of a book that is filed, which are in the table of kinds: they have the same names and
-- ranges, in the same order.
use Rattle.std.specs.Prelude.{◌≡◌, ℕ, List, [], ◌∷◌, flat_map, map, replicate}
use Rattle.format_kinds.specs.Kinds.{book_slots}
use Rattle.format_table.specs.Parts.{Line, Slot}
use Rattle.format_books.specs.Fields.{BookLine}
use Rattle.format_books.specs.Ranges.{Range, range_named, range_of}
use Rattle.format_books.specs.declared.table.Holds.{Holds}
use Rattle.format_books.specs.declared.table.Holds.TheVariants.{Integer, Integers, Tables, Column}

pub record Named : Type 0 where
  pub name : List ℕ
  pub range : Range

abbrev pub named : BookLine → Named
named f = record { name = f.name; range = range_named f.name }

-- one number of a field, or so many
abbrev pub numbers_named : Holds → BookLine → List Named
numbers_named Integer f = named f ∷ []
numbers_named (Integers n) f = replicate n (named f)
numbers_named Tables f = named f ∷ []
numbers_named Column f = named f ∷ []

abbrev pub filed : Line → Named
filed f = record { name = f.name; range = range_of f.limit }

-- a filed number and those of each later row that it counts
abbrev pub slot_named : Slot → List Named
slot_named slot = filed slot.line ∷ map filed slot.later

-- the names of the fields of first rows, and of later ones
abbrev pub first_names : Slot → List (List ℕ)
first_names slot = map (λ line. line.name) slot.first

abbrev pub later_names : Slot → List (List ℕ)
later_names slot = map (λ line. line.name) slot.later

-- the fields are those that are filed, and a first row has the fields of the later ones
abbrev pub AreFiled : List BookLine → Type 0
AreFiled fields = (flat_map (λ f. numbers_named f.kind f) fields ≡ flat_map slot_named book_slots) × (flat_map first_names book_slots ≡ flat_map later_names book_slots)
