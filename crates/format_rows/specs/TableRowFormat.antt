-- What a row of a table means.
use Rattle.std.specs.Prelude.{ℕ, ℤ, List, ◌++◌, drop, if◌then◌else◌, Option, Some, None, option_and_then, Result, Err}
use Rattle.std.specs.Result.{result_map_both}
use Rattle.csv.specs.Records.{field_at}
use Rattle.format_table.specs.Parts.{Slot}
use Rattle.format_table.specs.Tables.{KindRow, kind_named}
use Rattle.format_table.specs.Walk.{numbers_of_slots}
use Rattle.format_rows.specs.Fields.{are_as_many}
use Rattle.format_rows.specs.Numbers.{refused, row_source}
use Rattle.format_rows.specs.declared.error.Cause.TheVariants.{UnknownKind, WrongCount}
use Rattle.format_rows.specs.declared.error.RowError.{RowError}

-- the texts behind a kind's name: a wrong number of them is told before any bad field, and then the first bad field counts
unfoldable pub row_of_slots : List (List ℕ) → ℕ → ℕ → List Slot → List (List ℕ) → Result (ℕ × List ℤ) RowError
row_of_slots words row code slots texts =
    if are_as_many words slots texts then result_map_both (λ zs. (code, zs)) (λ e. e) (numbers_of_slots (row_source words row) slots texts) else Err (refused row 0 WrongCount)

-- a row, by the kind that its first field names
abbrev pub row_of : List (List ℕ) → List Slot → ℕ → List (List ℕ) → Option KindRow → Result (ℕ × List ℤ) RowError
row_of words key row texts None = Err (refused row 1 UnknownKind)
row_of words key row texts (Some kind) = row_of_slots words row kind.code (key ++ kind.slots) (drop 1 texts)

-- what a row means, its number counting from 1: a kind's code and its numbers, or why it is no entry
abbrev pub row_meaning : List (List ℕ) → List Slot → List KindRow → ℕ → List (List ℕ) → Result (ℕ × List ℤ) RowError
row_meaning words key kinds row texts = row_of words key row texts (option_and_then (kind_named kinds) (field_at texts 0))

-- what is seen of an entry
abbrev pub said_by : {E : Type 0} → (E → ℕ) → (E → List ℤ) → E → ℕ × List ℤ
said_by code_of numbers_of e = (code_of e, numbers_of e)
