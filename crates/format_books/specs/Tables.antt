-- The tables of a book: their rows, and the first row that does not go on from the one before it. Each row of a table by
-- amount begins with the value that the one before it has there (HEA 475(e), 477(d), 478(c)); a table by age rises (HEA 478(d)).
use Rattle.std.specs.Prelude.{ℕ, suc, ℤ, pos, codes, int_lt, Bool, ◌&&◌, List, [], ◌∷◌, map, Option, Some, None, if◌then◌else◌}
use Rattle.std.specs.Ordering.{int_eq}
use Rattle.toml.specs.Data.{Data, Members, get}
use Rattle.aid_types.specs.Nearest.{share}
use Rattle.aid_books.specs.Marginal.{row_value}
use Rattle.aid_books.specs.declared.marginal.Bracket.{Bracket}
use Rattle.aid_books.specs.declared.ages.AgeRow.{AgeRow}
use Rattle.format_books.specs.Reading.{integer_in, member_at, rows_of}
use Rattle.format_books.specs.declared.error.BookError.{BookError}
use Rattle.format_books.specs.declared.error.BookError.TheVariants.{NotRising}

-- a row of a table by amount, and one of the table by age
abbrev pub bracket_of : Data → Bracket
bracket_of row = record { over = integer_in (get (codes "over") row); base = integer_in (get (codes "base") row); rate = integer_in (get (codes "rate") row) }

abbrev pub age_row_of : Data → AgeRow
age_row_of row = record { start = integer_in (get (codes "from") row); single = integer_in (get (codes "single") row); married = integer_in (get (codes "married") row) }

-- the rows of the tables of a text
abbrev pub business_rows : Members → List Bracket
business_rows t = map bracket_of (rows_of (codes "business") t)

abbrev pub age_rows : Members → List AgeRow
age_rows t = map age_row_of (rows_of (codes "age") t)

abbrev pub bracket_rows : Members → List Bracket
bracket_rows t = map bracket_of (rows_of (codes "bracket") t)

-- the schedule's first rate
abbrev pub first_rate_of : Members → ℤ
first_rate_of t = integer_in (member_at (codes "schedule") (codes "first_rate") t)

-- a row begins above the one before it, with the value that the one before it has there
abbrev pub continues : Bracket → Bracket → Bool
continues row next = int_lt row.over next.over && int_eq next.base (row_value row next.over)

abbrev pub is_older : AgeRow → AgeRow → Bool
is_older row next = int_lt row.start next.start

-- the first row of each table
abbrev pub begins_business : Bracket → Bool
begins_business row = int_eq row.over (pos 0) && int_eq row.base (pos 0)

abbrev pub begins_ages : AgeRow → Bool
begins_ages row = int_eq row.start (pos 0)

abbrev pub begins_schedule : ℤ → Bracket → Bool
begins_schedule first_rate row = int_eq row.base (share row.over first_rate)

-- the first row that does not go on from the one before it, where the first of these rows has the number n
abbrev pub break_from : {Row : Type 0} → (Row → Row → Bool) → ℕ → Row → List Row → Option ℕ
break_from goes n row [] = None
break_from goes n row (next ∷ rows) = if goes row next then break_from goes (suc n) next rows else Some n

-- the first row, counted from 1, that fails
abbrev pub break_in : {Row : Type 0} → (Row → Bool) → (Row → Row → Bool) → List Row → Option ℕ
break_in begins goes [] = None
break_in begins goes (row ∷ rows) = if begins row then break_from goes 2 row rows else Some 1

-- the row of table 1 if there is one, else that of table 2, else that of table 3
abbrev pub first_break : Option ℕ → Option ℕ → Option ℕ → Option BookError
first_break (Some row) _ _ = Some (NotRising 1 row)
first_break None (Some row) _ = Some (NotRising 2 row)
first_break None None (Some row) = Some (NotRising 3 row)
first_break None None None = None

abbrev pub rising_error : ℤ → List Bracket → List AgeRow → List Bracket → Option BookError
rising_error first_rate business age bracket = first_break (break_in begins_business continues business) (break_in begins_ages is_older age) (break_in (begins_schedule first_rate) continues bracket)

-- that of a text's tables
abbrev pub book_break : Members → Option BookError
book_break t = rising_error (first_rate_of t) (business_rows t) (age_rows t) (bracket_rows t)
