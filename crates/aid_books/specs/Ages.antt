-- The asset protection allowance of a book, by age (HEA 478(d)).
use Rattle.std.specs.Prelude.{ℤ, pos, int_lt, int_le, Bool, true, false, ◌&&◌, List, [], ◌∷◌, reverse, find, Option, IsTrue}
use Rattle.aid_types.specs.Ranges.{IsAmount, IsWithin}
use Rattle.aid_books.specs.declared.ages.AgeRow.{AgeRow}

-- a row's figures are in range
pub record IsAgeRow (row : AgeRow) : Type 0 where
  pub start : IsWithin (pos 0) (pos 120) row.start
  pub single : IsAmount row.single
  pub married : IsAmount row.married

-- each row begins at a greater age than the one before it
abbrev pub rises_from : AgeRow → List AgeRow → Bool
rises_from row [] = true
rises_from row (next ∷ rows) = int_lt row.start next.start && rises_from next rows

-- such a table has a row: a test, so that it computes at a literal
abbrev pub is_by_age : List AgeRow → Bool
is_by_age [] = false
is_by_age (row ∷ rows) = rises_from row rows

abbrev pub IsByAge : List AgeRow → Type 0
IsByAge rows = IsTrue (is_by_age rows)

-- the last row that begins at most at the age
abbrev pub row_at_age : List AgeRow → ℤ → Option AgeRow
row_at_age rows age = find (λ row. int_le row.start age) (reverse rows)
