-- The rows of words of a run that writes a sheet, behind the path of its journal. Own format.
use Rattle.std.specs.Prelude.{◌≡◌, ◌↔◌, ◌≤◌, ◌++◌, ℕ, List, [], ◌∷◌, Option, Some, None, codes, decimal}
use Rattle.law_terms.specs.Days.{day_text}
use Rattle.run_words.specs.Words.{report_words}
use Rattle.run_sheets.specs.declared.request.Position.{Position}
use Rattle.run_sheets.specs.declared.request.SheetRequest.{SheetRequest}
use Rattle.run_sheets.specs.declared.request.SheetRequest.TheVariants as sheets
use Rattle.run_sheets.specs.declared.request.SheetRow.{SheetRow}
use Rattle.run_sheets.specs.declared.request.TermRequest.{TermRequest}

-- the words of a term of a school: `SCHOOL YEAR TERM`
abbrev pub term_words : TermRequest → List (List ℕ)
term_words of = decimal of.school ∷ decimal of.year ∷ decimal of.term ∷ []

-- the words of a request: `list`, `student STUDENT`, `need STUDENT YEAR`, `review STUDENT YEAR`, `quotes SCHOOL YEAR TERM`,
-- `payments SCHOOL YEAR TERM`, `withdrawal SCHOOL STUDENT YEAR TERM`, `due DAY SCHOOL`, `returns SCHOOL YEAR`, `book show YEAR`,
-- or a report as the aid office has it
abbrev pub request_words : SheetRequest → List (List ℕ)
request_words sheets.List = codes "list" ∷ []
request_words (sheets.Student of) = codes "student" ∷ decimal of.student ∷ []
request_words (sheets.Need of) = codes "need" ∷ decimal of.student ∷ decimal of.year ∷ []
request_words (sheets.Review of) = codes "review" ∷ decimal of.student ∷ decimal of.year ∷ []
request_words (sheets.Quotes of) = codes "quotes" ∷ term_words of
request_words (sheets.Payments of) = codes "payments" ∷ term_words of
request_words (sheets.Withdrawal of) = codes "withdrawal" ∷ decimal of.school ∷ decimal of.student ∷ decimal of.year ∷ decimal of.term ∷ []
request_words (sheets.Due of) = codes "due" ∷ day_text of.day ∷ decimal of.school ∷ []
request_words (sheets.Returns of) = codes "returns" ∷ decimal of.school ∷ decimal of.year ∷ []
request_words (sheets.Book of) = codes "book" ∷ codes "show" ∷ decimal of.year ∷ []
request_words (sheets.Report report) = codes "report" ∷ report_words report

-- the words in front of it, where the list is taken up to a position: `upto POSITION`
abbrev pub upto_words : Option Position → List (List ℕ)
upto_words None = []
upto_words (Some position) = codes "upto" ∷ decimal position.number ∷ []

-- the words of a row
abbrev pub sheet_words : SheetRow → List (List ℕ)
sheet_words row = upto_words row.upto ++ request_words row.request

-- the words are those of the request that was read, and of none where none was
abbrev pub ReadsRequest : List (List ℕ) → Option SheetRequest → Type 0
ReadsRequest words read = (request : SheetRequest) → (read ≡ Some request) ↔ (words ≡ request_words request)

-- the same of a term
abbrev pub ReadsTerm : List (List ℕ) → Option TermRequest → Type 0
ReadsTerm words read = (term : TermRequest) → (read ≡ Some term) ↔ (words ≡ term_words term)

-- of a position
abbrev pub ReadsPosition : List ℕ → Option Position → Type 0
ReadsPosition word read = (position : Position) → (read ≡ Some position) ↔ (word ≡ decimal position.number)

-- of a day up to 9999-12-31
abbrev pub ReadsDay : List ℕ → Option ℕ → Type 0
ReadsDay word read = (day : ℕ) → day ≤ 2958463 → (read ≡ Some day) ↔ (word ≡ day_text day)

-- and of a row
abbrev pub ReadsRow : List (List ℕ) → Option SheetRow → Type 0
ReadsRow words read = (row : SheetRow) → (read ≡ Some row) ↔ (words ≡ sheet_words row)
