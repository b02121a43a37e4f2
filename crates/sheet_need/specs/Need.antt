-- The worksheet of a student's application in force, on a history.
use Rattle.std.specs.Prelude.{ℕ, List, Option, Some, None, codes}
use Rattle.aid_books.specs.declared.book.Book.{Book}
use Rattle.aid_filings.specs.declared.filing.Filing.{Filing}
use Rattle.aid_types.specs.declared.application.Application.{Application}
use Rattle.office_history.specs.Past.{application, the_book}
use Rattle.office_history.specs.Positions.{application_at, book_at}
use Rattle.sheet_need.specs.NeedSheet.{need_text}

-- the sheet of an application under a book, each at its position, where both are there
abbrev pub sheet_of : Option Book → Option Application → ℕ → ℕ → List ℕ
sheet_of (Some book) (Some a) at book_position = need_text book a at book_position
sheet_of (Some book) None at book_position = codes "none\n"
sheet_of None a at book_position = codes "none\n"

-- that of a student's application in force in a year, under the year's book
unfoldable pub need_sheet : List Filing → ℕ → ℕ → List ℕ
need_sheet past student year = sheet_of (the_book past year) (application past student year) (application_at past student year) (book_at past year)
