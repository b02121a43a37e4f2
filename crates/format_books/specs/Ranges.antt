-- The range of a field's numbers. It stands in the table of kinds, at the name of the field.
use Rattle.std.specs.Prelude.{ℕ, ℤ, pos, codes, List, [], ◌∷◌, bytes_eq, Option, Some, None, unwrap_or, if◌then◌else◌}
use Rattle.std.specs.Option.{option_or}
use Rattle.format_kinds.specs.Kinds.{book_slots}
use Rattle.format_table.specs.Parts.{Line, Slot}
use Rattle.format_table.specs.declared.field.Limit.{Limit}
use Rattle.format_table.specs.declared.field.Limit.TheVariants.{Between, UpToLast, AboveRow, Continues, Begins}
use Rattle.format_books.specs.declared.ranges.Highest.{Highest}
use Rattle.format_books.specs.declared.ranges.Highest.TheVariants.{Number, Key}

-- the greatest number of a field: this one, or the number at a key of the same section
pub data Greatest : Type 0 where
  up_to : ℤ → Greatest
  number_at : List ℕ → Greatest

-- from a least number to a greatest one
pub record Range : Type 0 where
  pub low : ℤ
  pub high : Greatest

abbrev pub between : ℤ → Greatest → Range
between low high = record { low = low; high = high }

-- that of the program
abbrev pub greatest : Highest → Greatest
greatest (Number z) = up_to z
greatest (Key key) = number_at key.now

-- the range of a filed number, whatever stands before it: that of a row is told more closely by the row before it, and that
-- of the least award by the greatest one
abbrev pub range_of : Limit → Range
range_of (Between low high) = between low (up_to high)
range_of (UpToLast low) = between low (number_at (codes "maximum"))
range_of (AboveRow high) = between (pos 0) (up_to high)
range_of (Continues high) = between (pos 0) (up_to high)
range_of (Begins high) = between (pos 0) (up_to high)

-- the limit of the first line of this name
abbrev pub limit_in : List ℕ → List Line → Option Limit
limit_in name [] = None
limit_in name (line ∷ lines) = if bytes_eq line.name name then Some line.limit else limit_in name lines

-- that of a filed number, or of a later row's
abbrev pub limit_named : List ℕ → List Slot → Option Limit
limit_named name [] = None
limit_named name (slot ∷ slots) = option_or (limit_in name (slot.line ∷ slot.later)) (limit_named name slots)

-- the range of a name of a book; a name that a book does not have has the range of 0 alone
unfoldable pub range_named : List ℕ → Range
range_named name = range_of (unwrap_or (limit_named name book_slots) (Between (pos 0) (pos 0)))
