-- A history: the filings so far, and what is in force. It is read here from its newest filing to its oldest: `f ∷ past` is the
-- filing f after the filings past, and the position of f is one more than the number of them.
use Rattle.std.specs.Prelude.{ℕ, zero, suc, ◌+◌, ◌==◌, ◌&&◌, Bool, true, false, nat_lt, List, [], ◌∷◌, length, Option, Some, None, if◌then◌else◌}
use Rattle.std.specs.List.{cons_option}
use Rattle.aid_filings.specs.Calendars.{term_of}
use Rattle.aid_types.specs.Programs.{rank}
use Rattle.aid_types.specs.declared.number.Key.{Key}
use Rattle.aid_types.specs.declared.term.Term.{Term}
use Rattle.aid_books.specs.declared.book.Book.{Book}
use Rattle.aid_filings.specs.declared.filing.SchoolFacts.{SchoolFacts}
use Rattle.aid_types.specs.declared.application.Application.{Application}
use Rattle.aid_filings.specs.declared.filing.WithdrawFacts.{WithdrawFacts}
use Rattle.aid_filings.specs.declared.filing.Filing.{Filing}
use Rattle.aid_filings.specs.declared.filing.What.{What}
use Rattle.aid_filings.specs.declared.filing.What.TheVariants.{Book as BookFiled, School, Calendar, Prior, Apply, Enroll, Originate, Pay, Withdraw, Cost}
use Rattle.aid_filings.specs.contracts.filing.FilingPartialEq.TheImpl.{eq-value as filing_eq}
use Rattle.aid_types.specs.contracts.number.KeyPartialEq.TheImpl.{eq-value as key_eq}
use Rattle.aid_types.specs.Limits.{is_pell}

-- the same filing, and the same key
abbrev pub same_filing : Filing → Filing → Bool
same_filing f g = filing_eq.it f g

abbrev pub same_key : Key → Key → Bool
same_key k l = key_eq.it k l

-- where a filing passes: the place kept before it, or else its own
abbrev pub first_of_two : Bool → ℕ → ℕ → ℕ
first_of_two false before here = before
first_of_two true zero here = here
first_of_two true (suc n) here = suc n

-- the position of the earliest filing that passes, counted from 1, and 0 where there is none
abbrev pub first_at : (Filing → Bool) → List Filing → ℕ
first_at p [] = 0
first_at p (f ∷ past) = first_of_two (p f) (first_at p past) (length past + 1)

-- what a filing tells, beside what was told before it: the earlier stands, or the later does
abbrev pub earlier : {A : Type 0} → Option A → Option A → Option A
earlier None before = before
earlier (Some a) None = Some a
earlier (Some a) (Some b) = Some b

abbrev pub later : {A : Type 0} → Option A → Option A → Option A
later None before = before
later (Some a) before = Some a

-- what the earliest and what the latest filing tells that answers the question
abbrev pub earliest : {A : Type 0} → (Filing → Option A) → List Filing → Option A
earliest operation [] = None
earliest operation (f ∷ past) = earlier (operation f) (earliest operation past)

abbrev pub latest : {A : Type 0} → (Filing → Option A) → List Filing → Option A
latest operation [] = None
latest operation (f ∷ past) = later (operation f) (latest operation past)

abbrev pub given : {A : Type 0} → Bool → A → Option A
given true a = Some a
given false a = None

abbrev pub amount_or : Option ℕ → ℕ
amount_or (Some n) = n
amount_or None = 0

-- the questions, one for each kind of filing
abbrev pub book_in : ℕ → What → Option Book
book_in year (BookFiled b) = given (b.year == year) b
book_in year _ = None

abbrev pub school_in : ℕ → What → Option SchoolFacts
school_in code (School s) = given (s.code == code) s
school_in code _ = None

abbrev pub term_in : ℕ → ℕ → What → Option Term
term_in year number (Calendar c) = given (c.year == year && c.term == number) (term_of c)
term_in year number _ = None

abbrev pub prior_in : ℕ → What → Option ℕ
prior_in student (Prior p) = given (p.student == student) p.units
prior_in student _ = None

abbrev pub application_in : ℕ → ℕ → What → Option Application
application_in student year (Apply a) = given (a.student == student && a.year == year) a
application_in student year _ = None

abbrev pub credits_in : ℕ → ℕ → ℕ → What → Option ℕ
credits_in student year term (Enroll e) = given (e.student == student && (e.year == year && e.term == term)) e.credits
credits_in student year term _ = None

abbrev pub originated_in : ℕ → ℕ → What → Option ℕ
originated_in student year (Originate o) = given (o.student == student && o.year == year) o.cost
originated_in student year _ = None

-- a cost of attendance: the first one, or a changed one
abbrev pub cost_in : ℕ → ℕ → What → Option ℕ
cost_in student year (Originate o) = given (o.student == student && o.year == year) o.cost
cost_in student year (Cost o) = given (o.student == student && o.year == year) o.cost
cost_in student year _ = None

abbrev pub withdrawal_in : ℕ → ℕ → ℕ → What → Option WithdrawFacts
withdrawal_in student year term (Withdraw w) = given (w.student == student && (w.year == year && w.term == term)) w
withdrawal_in student year term _ = None

abbrev pub pell_payment_in : ℕ → What → Bool
pell_payment_in student (Pay a) = a.student == student && is_pell (rank a.program)
pell_payment_in student _ = false

-- the same questions of one school's filings alone
abbrev pub if_here : {A : Type 0} → Bool → Option A → Option A
if_here here None = None
if_here true (Some a) = Some a
if_here false (Some a) = None

abbrev pub at_school : {A : Type 0} → ℕ → (What → Option A) → Filing → Option A
at_school school operation f = if_here (f.key.school == school) (operation f.what)

-- the year's book, the school, its term
abbrev pub the_book : List Filing → ℕ → Option Book
the_book past year = earliest (λ f. book_in year f.what) past

abbrev pub the_school : List Filing → ℕ → Option SchoolFacts
the_school past code = earliest (λ f. school_in code f.what) past

abbrev pub the_term : List Filing → ℕ → ℕ → ℕ → Option Term
the_term past school year number = earliest (at_school school (term_in year number)) past

abbrev pub the_withdrawal : List Filing → ℕ → ℕ → ℕ → ℕ → Option WithdrawFacts
the_withdrawal past school student year term = earliest (at_school school (withdrawal_in student year term)) past

-- prior units, credits in force, cost in force; 0 where there is nothing
abbrev pub prior_units : List Filing → ℕ → ℕ
prior_units past student = amount_or (earliest (λ f. prior_in student f.what) past)

abbrev pub credits : List Filing → ℕ → ℕ → ℕ → ℕ → ℕ
credits past school student year term = amount_or (latest (at_school school (credits_in student year term)) past)

abbrev pub cost : List Filing → ℕ → ℕ → ℕ → ℕ
cost past school student year = amount_or (latest (at_school school (cost_in student year)) past)

-- whether an application has a higher transaction than the one before it
abbrev pub is_higher : Option Application → Option Application → Bool
is_higher None before = false
is_higher (Some a) None = true
is_higher (Some a) (Some b) = nat_lt b.transaction a.transaction

-- the application of the two with the higher transaction
abbrev pub higher : Option Application → Option Application → Option Application
higher new before = if is_higher new before then new else before

-- the application in force of student and year
abbrev pub application : List Filing → ℕ → ℕ → Option Application
application [] student year = None
application (f ∷ past) student year = higher (application_in student year f.what) (application past student year)

-- a term on file, with its school, its year and its position
pub record FiledTerm : Type 0 where
  pub school : ℕ
  pub year : ℕ
  pub position : ℕ
  pub term : Term

abbrev pub on_file : ℕ → ℕ → What → Option FiledTerm
on_file school here (Calendar c) = Some (record { school = school; year = c.year; position = here; term = term_of c })
on_file school here _ = None

-- the terms on file, the newest first
abbrev pub terms_on_file : List Filing → List FiledTerm
terms_on_file [] = []
terms_on_file (f ∷ past) = cons_option (on_file f.key.school (length past + 1) f.what) (terms_on_file past)

-- the term on file is an extra one
abbrev pub is_extra : Option Term → Bool
is_extra (Some t) = t.extra
is_extra None = false

-- where a key stands, and where a filing does
abbrev pub key_at : Key → List Filing → ℕ
key_at key past = first_at (λ g. same_key key g.key) past

abbrev pub filing_at : Filing → List Filing → ℕ
filing_at f past = first_at (λ g. same_filing f g) past
