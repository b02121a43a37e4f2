-- The row of a book and the rows behind it.
use Rattle.std.proofs.Common.{◌≡◌, ◌∙◌, ℕ, ◌+◌, ◌≤◌, ℤ, List, [], ◌∷◌, ◌++◌, length, Option, Some, None, Result, Ok, Err, ap, refl, arith}
use Rattle.std.proofs.lemmas.List.{length-map}
use Rattle.std.specs.Prelude.{IfOk}
use Rattle.aid_filings.specs.declared.filing.Filing.{Filing}
use Rattle.format_filings.specs.BookRows.{book_meaning, book_said, filed_under}
use Rattle.format_kinds.specs.declared.kind.Kind.{Kind}
use Rattle.format_kinds.specs.declared.kind.Kind.TheVariants.{Book}
use Rattle.format_bytes.specs.Numbers.{kind_of, numbers_of}
use Rattle.format_books.specs.Text.{numbers_of_text}
use Rattle.format_books.specs.declared.error.BookError.{BookError}
use Rattle.run_generate.specs.Left.{asks_left}
use Rattle.run_generate.specs.Rows.{YearRow, files, founding_rows, says, students_rows}
use Rattle.run_generate.specs.declared.operation.YearOperation.TheVariants.{File}
use Rattle.run_generate.specs.declared.operations.YearOperations.{YearOperations}
use Rattle.run_generate.specs.Texts.{as_rows, first_left, rows_by, year_in}

-- the kind that a text means, the book's where it means none
abbrev kind_in : Result (Kind × List ℤ) BookError → Kind
kind_in (Ok meaning) = meaning.0
kind_in (Err error) = Book

means_book : (number : ℕ) (read : Result (List ℤ) BookError) → kind_in (filed_under number read) ≡ Book
means_book number (Ok zs) = refl
means_book number (Err error) = refl

-- what the text of a book means is a book
pub is_book : (number : ℕ) (text : List ℕ) (first : Result Filing BookError) → book_said first ≡ book_meaning number text → IfOk first (λ filing. kind_of filing.what ≡ Book)
is_book number text (Ok filing) is = ap kind_in is ∙ means_book number (numbers_of_text text)
is_book number text (Err error) is = tt

-- the rows of a year behind its book, and the row of a text that is no book
pub rows_behind : (students seed year : ℕ) (filing : Filing) (operations : YearOperations) → year ≡ year_in (numbers_of filing)
    → asks_left operations ≡ founding_rows year ++ students_rows year students 1 seed
    → first_left (Some (Ok filing)) ++ as_rows (asks_left operations) ≡ rows_by students seed (book_said (Ok filing))
rows_behind students seed year filing operations is left =
    ap (λ (rows : List YearRow). first_left (Some (Ok filing)) ++ as_rows rows) left
    ∙ ap (λ (y : ℕ). first_left (Some (Ok filing)) ++ as_rows (founding_rows y ++ students_rows y students 1 seed)) is

pub none_behind : (students seed : ℕ) (error : BookError) (operations : YearOperations) → asks_left operations ≡ []
    → first_left (Some (Err error)) ++ as_rows (asks_left operations) ≡ rows_by students seed (book_said (Err error))
none_behind students seed error operations left = ap (λ (rows : List YearRow). first_left (Some (Err error)) ++ as_rows rows) left

-- a row that is an ask
abbrev wrapped : YearRow → Result YearRow BookError
wrapped row = Ok row

-- the book's row is one more
pub one_more : (first : Option (Result Filing BookError)) (operations : YearOperations) → length (first_left first ++ as_rows (asks_left operations)) ≤ length (asks_left operations) + 1
one_more None operations = let same = length-map (asks_left operations) wrapped in omega (arith, same)
one_more (Some (Ok filing)) operations = let same = length-map (asks_left operations) wrapped in omega (arith, same)
one_more (Some (Err error)) operations = let same = length-map (asks_left operations) wrapped in omega (arith, same)

-- what a filing says as an ask
pub says_files : (filing : Filing) → says (File filing) ≡ files (kind_of filing.what) (numbers_of filing)
unfolding says
says_files filing = refl
