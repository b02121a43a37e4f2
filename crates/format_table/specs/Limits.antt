-- What a field's number may be, after the numbers before it in the filing. These are read newest first: `before earlier 0`
-- is the number just before.
use Rattle.std.specs.Prelude.{ℕ, ◌≤◌, ◌^◌, ℤ, pos, int_le, int_lt, Bool, ◌&&◌, List, slice_index_or, unsigned_abs}
use Rattle.std.specs.Ordering.{int_eq}
use Rattle.aid_types.specs.Nearest.{share}
use Rattle.aid_books.specs.Marginal.{row_value}
use Rattle.format_table.specs.declared.field.Limit.{Limit}
use Rattle.format_table.specs.declared.field.Limit.TheVariants.{Between, UpToLast, AboveRow, Continues, Begins}

-- the number so many places before
abbrev pub before : List ℤ → ℕ → ℤ
before earlier k = slice_index_or earlier k (pos 0)

abbrev pub is_between : ℤ → ℤ → ℤ → Bool
is_between low high z = int_le low z && int_le z high

-- the value that the row before has, in a table by amount, where the row at hand begins
abbrev pub value_in_row : List ℤ → ℤ
value_in_row earlier = row_value (record { over = before earlier 3; base = before earlier 2; rate = before earlier 1 }) (before earlier 0)

-- From a least number to a greatest one; or to the number just before; or above the same column of the row before, three
-- places back; or the value that the row before it, of a table by amount, has where this row begins (HEA 475(e), 477(d),
-- 478(c)); or the share of what the first row begins at, by the schedule's first rate (HEA 475(e)), which is five places back:
-- the row's beginning, the count, the least contribution and the student's rate stand behind it.
abbrev pub fits : Limit → List ℤ → ℤ → Bool
fits (Between low high) earlier z = is_between low high z
fits (UpToLast low) earlier z = is_between low (before earlier 0) z
fits (AboveRow high) earlier z = int_lt (before earlier 2) z && int_le z high
fits (Continues high) earlier z = int_eq z (value_in_row earlier) && is_between (pos 0) high z
fits (Begins high) earlier z = int_eq z (share (before earlier 0) (before earlier 4)) && is_between (pos 0) high z

-- no further from 0 than 10^12, as each number of a filing is
abbrev pub IsNarrow : ℤ → Type 0
IsNarrow z = unsigned_abs z ≤ 10 ^ 12
