-- The rows of a text, and why a row is no filing. Own format.
use Rattle.std.specs.Prelude.{ℕ, ℤ, Bool, true, false, List, drop, if◌then◌else◌, Option, Some, None, option_and_then, Result, Err}
use Rattle.std.specs.Result.{result_map_both}
use Rattle.csv.specs.Records.{field_at}
use Rattle.aid_filings.specs.declared.filing.Filing.{Filing}
use Rattle.format_kinds.specs.Kinds.{kind_named, slots_of_kind, words_of_programs}
use Rattle.format_kinds.specs.Drafts.{numbers_of_kind}
use Rattle.format_kinds.specs.declared.kind.Kind.{Kind}
use Rattle.format_kinds.specs.declared.kind.Kind.TheVariants.{Book}
use Rattle.format_bytes.specs.Numbers.{kind_of, numbers_of}
use Rattle.format_rows.specs.Fields.{are_as_many}
use Rattle.format_rows.specs.Meanings.{said_of, meanings as meanings_by, meanings_from as meanings_by_from}
use Rattle.format_rows.specs.Numbers.{refused, row_source}
use Rattle.format_rows.specs.declared.error.Cause.TheVariants.{UnknownKind, WrongCount}
use Rattle.format_rows.specs.declared.error.RowError.{RowError}

-- a kind has rows unless it is the book, which is a text of its own
abbrev pub has_rows : Kind → Bool
has_rows Book = false
has_rows _ = true

-- the texts behind a kind's name: a wrong number of them is told before any bad field, and then the first bad field counts
unfoldable pub row_of_kind : ℕ → Kind → List (List ℕ) → Result (Kind × List ℤ) RowError
row_of_kind row kind texts =
    if are_as_many words_of_programs (slots_of_kind kind) texts then result_map_both (λ zs. (kind, zs)) (λ e. e) (numbers_of_kind (row_source words_of_programs row) kind texts) else Err (refused row 0 WrongCount)

-- a row, by the kind that its first field names
abbrev pub row_of : ℕ → List (List ℕ) → Option Kind → Result (Kind × List ℤ) RowError
row_of row texts None = Err (refused row 1 UnknownKind)
row_of row texts (Some kind) = if has_rows kind then row_of_kind row kind (drop 1 texts) else Err (refused row 1 UnknownKind)

-- what a row means, its number counting from 1: a kind and its numbers, or why it is no filing
abbrev pub row_meaning : ℕ → List (List ℕ) → Result (Kind × List ℤ) RowError
row_meaning row texts = row_of row texts (option_and_then kind_named (field_at texts 0))

-- what rows mean, the first of them with this number
abbrev pub meanings_from : ℕ → List (List (List ℕ)) → List (Result (Kind × List ℤ) RowError)
meanings_from row rows = meanings_by_from row_meaning row rows

-- what the rows of a text mean
abbrev pub meanings : List ℕ → List (Result (Kind × List ℤ) RowError)
meanings text = meanings_by row_meaning text

-- what is seen of a filing
abbrev pub filing_said : Filing → Kind × List ℤ
filing_said filing = (kind_of filing.what, numbers_of filing)

-- what a filing, or an error, says
abbrev pub said : Result Filing RowError → Result (Kind × List ℤ) RowError
said row = said_of filing_said row
