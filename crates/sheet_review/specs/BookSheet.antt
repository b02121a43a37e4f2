-- The year's book on file, as the text that files it. Own.
use Rattle.std.specs.Prelude.{ℕ, ◌-◌, List, [], ◌∷◌, ◌++◌, Option, Some, None, codes, decimal, get_or}
use Rattle.std.specs.List.{concat}
use Rattle.aid_books.specs.declared.book.Book.{Book}
use Rattle.aid_filings.specs.declared.filing.Filing.{Filing}
use Rattle.aid_stamps.specs.Stamps.{plain_stamp}
use Rattle.aid_stamps.specs.declared.stamp.Stamp.{Stamp}
use Rattle.law_terms.specs.Days.{day_text}
use Rattle.office_history.specs.Past.{the_book}
use Rattle.office_history.specs.Positions.{book_at}
use Rattle.office_sheets.specs.Lists.{clerk_text}
use Rattle.sheet_review.specs.BookText.{book_text}

-- where it stands and whose it is, as a comment: `# book at POSITION, DAY CLERK`
abbrev pub place_line : ℕ → Stamp → List ℕ
place_line position s = concat (codes "# book at " ∷ decimal position ∷ codes ", " ∷ day_text s.day ∷ codes " " ∷ clerk_text s.clerk ∷ codes "\n" ∷ [])

-- the text of a book at a position, where there is one; the stamps are read oldest first
abbrev pub sheet_of : Option Book → ℕ → List Stamp → List ℕ
sheet_of (Some b) position stamps = book_text b ++ codes "\n" ++ place_line position (get_or stamps (position - 1) plain_stamp)
sheet_of None position stamps = codes "none\n"

-- that of the year's book; the stamps are read oldest first
abbrev pub book_sheet : List Filing → List Stamp → ℕ → List ℕ
book_sheet past stamps year = sheet_of (the_book past year) (book_at past year) stamps
