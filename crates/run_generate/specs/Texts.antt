-- The rows of a generated year as those of a session. They have no lines of their own.
use Rattle.std.specs.Prelude.{ℕ, ℤ, unsigned_abs, List, [], ◌∷◌, ◌++◌, map, Option, Some, None, Result, Ok, Err}
use Rattle.aid_filings.specs.declared.filing.Filing.{Filing}
use Rattle.format_filings.specs.BookLines.{book_error_line}
use Rattle.format_filings.specs.BookRows.{book_meaning}
use Rattle.format_kinds.specs.declared.kind.Kind.{Kind}
use Rattle.format_bytes.specs.Numbers.{kind_of, numbers_of}
use Rattle.log_machine.specs.Texts.{Texts}
use Rattle.format_books.specs.declared.error.BookError.{BookError}
use Rattle.run_generate.specs.Rows.{YearRow, files, founding_rows, says, students_rows}
use Rattle.run_generate.specs.declared.operation.YearOperation.{YearOperation}
use Rattle.run_generate.specs.declared.operation.YearResponse.{YearResponse}

-- the year of a book, by the numbers of its filing: its key's two, its version, and the year
abbrev pub year_in : List ℤ → ℕ
year_in (school ∷ number ∷ version ∷ year ∷ zs) = unsigned_abs year
year_in _ = 0

-- all rows of a year
abbrev pub year_rows : YearRow → ℕ → ℕ → ℕ → List YearRow
year_rows book y students seed = book ∷ founding_rows y ++ students_rows y students 1 seed

-- rows that are all asks
abbrev pub as_rows : List YearRow → List (Result YearRow BookError)
as_rows rows = map (λ row. Ok row) rows

-- the rows of the text of a book, which is filed under the office's own number 1: those of its year, or the text's first error alone
abbrev pub rows_by : ℕ → ℕ → Result (Kind × List ℤ) BookError → List (Result YearRow BookError)
rows_by students seed (Err error) = Err error ∷ []
rows_by students seed (Ok book) = as_rows (year_rows (files book.0 book.1) (year_in book.1) students seed)

abbrev pub rows_of_text : ℕ → ℕ → List ℕ → List (Result YearRow BookError)
rows_of_text students seed text = rows_by students seed (book_meaning 1 text)

-- what a row says that is an ask, or why it is none
abbrev pub said : Result YearOperation BookError → Result YearRow BookError
said (Ok operation) = Ok (says operation)
said (Err error) = Err error

abbrev pub year_texts : Texts YearOperation YearResponse BookError
year_texts = record {
  Meaning = Result YearRow BookError;
  said = said;
  answer_line = λ number front response. [];
  error_line = book_error_line;
}

-- ---- what is left to be taken
-- of the book's row
abbrev pub first_left : Option (Result Filing BookError) → List (Result YearRow BookError)
first_left None = []
first_left (Some (Ok filing)) = Ok (files (kind_of filing.what) (numbers_of filing)) ∷ []
first_left (Some (Err error)) = Err error ∷ []
