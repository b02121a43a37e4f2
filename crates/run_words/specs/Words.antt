-- The rows of words of the program, behind the path of its journal. Own format.
use Rattle.std.specs.Prelude.{◌≡◌, ◌↔◌, ◌==◌, ℕ, Bool, false, not, IsTrue, List, [], ◌∷◌, length, Option, Some, None, codes, decimal, slice_index_or}
use Rattle.std.specs.List.{list_all, position}
use Rattle.std.specs.Str.{bytes_eq}
use Rattle.aid_types.specs.Ranges.{IsBetween}
use Rattle.aid_stamps.specs.declared.stamp.Stamp.{Stamp}
use Rattle.run_words.specs.declared.command.Command.{Command}
use Rattle.run_words.specs.declared.command.Command.TheVariants.{Found, File, Book, Quote, Report, Fund, Generate, CheckRows, CheckBook}
use Rattle.run_words.specs.declared.command.FundRequest.{FundRequest}
use Rattle.run_words.specs.declared.command.GenerateRequest.{GenerateRequest}
use Rattle.run_words.specs.declared.command.QuoteRequest.{QuoteRequest}
use Rattle.run_words.specs.declared.command.ReportRequest.{ReportRequest}
use Rattle.run_words.specs.declared.command.ReportRequest.TheVariants.{Standing, Awards, Returns, Lifetime, Stamps, Seal, Seals, Export}
use Rattle.run_words.specs.declared.command.ReportYear.{ReportYear}
use Rattle.run_words.specs.declared.command.MainRow.{MainRow}
use Rattle.run_words.specs.declared.command.MainRow.TheVariants.{Serve}

-- the numbers of a quote: SCHOOL STUDENT YEAR TERM
abbrev pub quote_words : QuoteRequest → List (List ℕ)
quote_words quote = decimal quote.school ∷ decimal quote.student ∷ decimal quote.year ∷ decimal quote.term ∷ []

-- the words of a report
abbrev pub report_words : ReportRequest → List (List ℕ)
report_words (Standing of) = codes "standing" ∷ decimal of.year ∷ []
report_words (Awards of) = codes "awards" ∷ decimal of.year ∷ []
report_words (Returns of) = codes "returns" ∷ decimal of.year ∷ []
report_words Lifetime = codes "lifetime" ∷ []
report_words Stamps = codes "stamps" ∷ []
report_words Seal = codes "seal" ∷ []
report_words Seals = codes "seals" ∷ []
report_words (Export of) = codes "export" ∷ decimal of.year ∷ []

-- the numbers of a generated year: SEED STUDENTS
abbrev pub generate_words : GenerateRequest → List (List ℕ)
generate_words generate = decimal generate.seed ∷ decimal generate.students ∷ []

-- a round of awards: SCHOOL YEAR TERM AMOUNT POLICY NUMBER, the policy by its name among those that are known
abbrev pub fund_words : List (List ℕ) → FundRequest → List (List ℕ)
fund_words names fund =
    decimal fund.school ∷ decimal fund.year ∷ decimal fund.term ∷ decimal fund.amount ∷ slice_index_or names fund.policy [] ∷ decimal fund.number ∷ []

-- the place is that of the first name of its kind
abbrev pub IsFirstNamed : List (List ℕ) → ℕ → Type 0
IsFirstNamed names place = position (λ name. bytes_eq name (slice_index_or names place [])) names ≡ Some place

-- the words of a command, by the names of the policies that are known
abbrev pub words_of : List (List ℕ) → Command → List (List ℕ)
words_of names Found = codes "found" ∷ []
words_of names File = codes "file" ∷ []
words_of names (Book book) = codes "book" ∷ decimal book.number ∷ []
words_of names (Quote quote) = codes "quote" ∷ quote_words quote
words_of names (Report report) = codes "report" ∷ report_words report
words_of names (Fund fund) = codes "fund" ∷ fund_words names fund
words_of names (Generate generate) = codes "generate" ∷ generate_words generate
words_of names CheckRows = codes "check" ∷ codes "rows" ∷ []
words_of names CheckBook = codes "check" ∷ codes "book" ∷ []

-- the policy of a command, if it has one, is known, and the first of its name
abbrev pub HasPolicy : List (List ℕ) → Command → Type 0
HasPolicy names (Fund fund) = IsFirstNamed names fund.policy
HasPolicy names command = Unit {0}

-- the words are those of the command
abbrev pub AreWords : List (List ℕ) → List (List ℕ) → Command → Type 0
AreWords names words command = (words ≡ words_of names command) × HasPolicy names command

-- a word begins with a hyphen
abbrev pub begins_with_hyphen : List ℕ → Bool
begins_with_hyphen [] = false
begins_with_hyphen (letter ∷ word) = letter == 45

-- none of the words does
abbrev pub ArePlain : List (List ℕ) → Type 0
ArePlain words = IsTrue (list_all (λ word. not (begins_with_hyphen word)) words)

-- the words are the one row of the command: no word that begins with a hyphen is in it, whatever a policy is named
abbrev pub IsRow : List (List ℕ) → List (List ℕ) → Command → Type 0
IsRow names words command = ArePlain words × (words ≡ words_of names command) × HasPolicy names command

-- the words are the row of the command that was read, and of none where none was
abbrev pub ReadsOf : List (List ℕ) → List (List ℕ) → Option Command → Type 0
ReadsOf names words read = (c : Command) → (read ≡ Some c) ↔ AreWords names words c

-- the same, whichever policies are known
abbrev pub Reads : List (List ℕ) → Option Command → Type 0
Reads words read = (names : List (List ℕ)) → ReadsOf names words read

-- the same of the numbers of a quote
abbrev pub ReadsQuote : List (List ℕ) → Option QuoteRequest → Type 0
ReadsQuote words read = (quote : QuoteRequest) → (read ≡ Some quote) ↔ (words ≡ quote_words quote)

-- the same of the words of a round
abbrev pub ReadsFund : List (List ℕ) → List (List ℕ) → Option FundRequest → Type 0
ReadsFund names words read = (fund : FundRequest) → (read ≡ Some fund) ↔ ((words ≡ fund_words names fund) × IsFirstNamed names fund.policy)

-- the same of the words of a report
abbrev pub ReadsReport : List (List ℕ) → Option ReportRequest → Type 0
ReadsReport words read = (report : ReportRequest) → (read ≡ Some report) ↔ (words ≡ report_words report)

-- the same of the word of its year
abbrev pub ReadsYear : List ℕ → Option ReportYear → Type 0
ReadsYear word read = (of : ReportYear) → (read ≡ Some of) ↔ (word ≡ decimal of.year)

-- the same of the numbers of a generated year
abbrev pub ReadsGenerate : List (List ℕ) → Option GenerateRequest → Type 0
ReadsGenerate words read = (generate : GenerateRequest) → (read ≡ Some generate) ↔ (words ≡ generate_words generate)

-- the words are `desks` and so many files behind it, from 1 to 16
abbrev pub AreDesks : List (List ℕ) → ℕ → Type 0
AreDesks [] files = ⊥
AreDesks (first ∷ paths) files = (first ≡ codes "desks") × (files ≡ length paths) × IsBetween 1 16 files × ArePlain paths

-- the words are this name and this file, which doesn't begin with a hyphen
abbrev pub IsFileRow : List ℕ → List (List ℕ) → List ℕ → Type 0
IsFileRow name words file = (words ≡ name ∷ file ∷ []) × (begins_with_hyphen file ≡ false)

-- the words are `upgrade` and a file; and `changes` and a file
abbrev pub IsUpgrade : List (List ℕ) → List ℕ → Type 0
IsUpgrade words file = IsFileRow (codes "upgrade") words file

abbrev pub IsChanges : List (List ℕ) → List ℕ → Type 0
IsChanges words file = IsFileRow (codes "changes") words file

-- the words of a server: PORT WORKERS SESSIONS
abbrev pub serve_words : ℕ → ℕ → ℕ → List (List ℕ)
serve_words port workers sessions = codes "serve" ∷ decimal port ∷ decimal workers ∷ decimal sessions ∷ []

-- the words are those of these numbers, each in its range
abbrev pub AreServe : List (List ℕ) → ℕ → ℕ → ℕ → Type 0
AreServe words port workers sessions =
    (words ≡ serve_words port workers sessions) × IsBetween 1 65535 port × IsBetween 1 16 workers × IsBetween 1 1000000 sessions

-- the words behind the stamp are the row of the server that was read, and of none where none was
abbrev pub ReadsServe : Stamp → List (List ℕ) → Option MainRow → Type 0
ReadsServe stamp words None = (port workers sessions : ℕ) → ¬ AreServe words port workers sessions
ReadsServe stamp words (Some row) = (port : ℕ) × (workers : ℕ) × (sessions : ℕ) × (row ≡ Serve port workers sessions stamp) × AreServe words port workers sessions
