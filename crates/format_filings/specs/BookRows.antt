-- What the text of a book means as a row of a session. Own format.
use Rattle.std.specs.Prelude.{ℕ, ℤ, pos, List, ◌∷◌, Result, Ok, Err}
use Rattle.aid_filings.specs.declared.filing.Filing.{Filing}
use Rattle.format_kinds.specs.declared.kind.Kind.{Kind}
use Rattle.format_kinds.specs.declared.kind.Kind.TheVariants.{Book}
use Rattle.format_bytes.specs.Numbers.{kind_of, numbers_of}
use Rattle.format_books.specs.Text.{numbers_of_text}
use Rattle.format_books.specs.declared.error.BookError.{BookError}

-- the numbers of a book behind those of its key, which are the office's own desk, 0, and the number
abbrev pub filed_under : ℕ → Result (List ℤ) BookError → Result (Kind × List ℤ) BookError
filed_under number (Ok zs) = Ok (Book, pos 0 ∷ pos number ∷ zs)
filed_under number (Err e) = Err e

-- what a text means that is filed as the book of a number: the numbers of the filing, or the text's first error
abbrev pub book_meaning : ℕ → List ℕ → Result (Kind × List ℤ) BookError
book_meaning number text = filed_under number (numbers_of_text text)

-- what a filing, or an error, says
abbrev pub book_said : Result Filing BookError → Result (Kind × List ℤ) BookError
book_said (Ok filing) = Ok (kind_of filing.what, numbers_of filing)
book_said (Err e) = Err e
