-- Tables of a book that go by an amount: each row has where it begins, its base there and its rate above it
-- (HEA 475(e), 477(d), 478(e): the assessment schedules; 478(c): the adjusted net worth of a business).
use Rattle.std.specs.Prelude.{ℤ, ◌+ℤ◌, ◌-ℤ◌, int_lt, Bool, true, false, ◌&&◌, List, [], ◌∷◌, reverse, find, Option, option_map, IsTrue}
use Rattle.std.specs.Ordering.{int_eq}
use Rattle.aid_types.specs.Nearest.{share}
use Rattle.aid_types.specs.Ranges.{IsAmount, IsRate}
use Rattle.aid_books.specs.declared.marginal.Bracket.{Bracket}

-- a row's figures are in range
pub record IsBracket (row : Bracket) : Type 0 where
  pub over : IsAmount row.over
  pub base : IsAmount row.base
  pub rate : IsRate row.rate

-- the value of a row at x: its base, and its share of what is over its beginning
abbrev pub row_value : Bracket → ℤ → ℤ
row_value row x = row.base +ℤ share (x -ℤ row.over) row.rate

-- each row begins above the one before it, and with the value that the one before it has there
abbrev pub goes_on : Bracket → List Bracket → Bool
goes_on row [] = true
goes_on row (next ∷ rows) = int_lt row.over next.over && int_eq next.base (row_value row next.over) && goes_on next rows

-- such a table has a row: a test, so that it computes at a literal
abbrev pub is_marginal : List Bracket → Bool
is_marginal [] = false
is_marginal (row ∷ rows) = goes_on row rows

abbrev pub IsMarginal : List Bracket → Type 0
IsMarginal rows = IsTrue (is_marginal rows)

-- the last row that begins below x
abbrev pub row_at : List Bracket → ℤ → Option Bracket
row_at rows x = find (λ row. int_lt row.over x) (reverse rows)

-- the table's value at x, where a row begins below x
abbrev pub value_at : List Bracket → ℤ → Option ℤ
value_at rows x = option_map (λ row. row_value row x) (row_at rows x)
