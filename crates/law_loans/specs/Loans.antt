-- What is on file of Direct Loans. A history is read newest first.
use Rattle.std.specs.Prelude.{ℕ, ◌+◌, ◌-◌, ◌==◌, ◌&&◌, Bool, true, false, nat_lt, if◌then◌else◌}
use Rattle.std.specs.Prelude.{List, [], ◌∷◌, length, slice_index_or, Option, Some, None, is_some, option_and_then}
use Rattle.aid_types.specs.declared.number.Program.{Program}
use Rattle.aid_types.specs.declared.number.Program.TheVariants.{Sub}
use Rattle.law_loans.specs.declared.filing.BeforeFacts.{BeforeFacts}
use Rattle.law_loans.specs.declared.filing.BorrowerFacts.{BorrowerFacts}
use Rattle.law_loans.specs.declared.filing.LimitFacts.{LimitFacts}
use Rattle.law_loans.specs.declared.filing.LoanAmount.{LoanAmount}
use Rattle.law_loans.specs.declared.filing.LoanFiling.{LoanFiling}
use Rattle.law_loans.specs.declared.filing.LoanWhat.{LoanWhat}
use Rattle.law_loans.specs.declared.filing.LoanWhat.TheVariants.{Limits, Borrower, Before, Lend, Cancel}
use Rattle.law_loans.specs.declared.facts.LoanNets.{LoanNets}

-- ---- what one filing says
abbrev pub limits_of : ℕ → LoanWhat → Option LimitFacts
limits_of year (Limits l) = if l.year == year then Some l else None
limits_of year _ = None

abbrev pub borrower_of : ℕ → LoanWhat → Option BorrowerFacts
borrower_of student (Borrower r) = if r.student == student then Some r else None
borrower_of student _ = None

abbrev pub record_of : ℕ → ℕ → LoanWhat → Option BorrowerFacts
record_of student year (Borrower r) = if (r.student == student) && (r.year == year) then Some r else None
record_of student year _ = None

abbrev pub before_of : ℕ → LoanWhat → Option BeforeFacts
before_of student (Before b) = if b.student == student then Some b else None
before_of student _ = None

abbrev pub is_loan_to : ℕ → LoanWhat → Bool
is_loan_to student (Lend a) = a.student == student
is_loan_to student _ = false

-- ---- what stands
-- the position of the earliest filing that passes, counted from 1; 0 where none does
abbrev pub earlier_or : ℕ → ℕ → ℕ
earlier_or earlier here = if earlier == 0 then here else earlier

abbrev pub first_at : (LoanWhat → Bool) → List LoanFiling → ℕ
first_at test [] = 0
first_at test (f ∷ past) = earlier_or (first_at test past) (if test f.what then length past + 1 else 0)

abbrev pub limits_at : List LoanFiling → ℕ → ℕ
limits_at past year = first_at (λ what. is_some (limits_of year what)) past

abbrev pub before_at : List LoanFiling → ℕ → ℕ
before_at past student = first_at (λ what. is_some (before_of student what)) past

abbrev pub loan_at : List LoanFiling → ℕ → ℕ
loan_at past student = first_at (is_loan_to student) past

-- what was found before, or else what is found here
abbrev pub earlier : {A : Type 0} → Option A → Option A → Option A
earlier None here = here
earlier (Some a) here = Some a

-- the limits of a year: those that were filed first
abbrev pub limits : List LoanFiling → ℕ → Option LimitFacts
limits [] year = None
limits (f ∷ past) year = earlier (limits past year) (limits_of year f.what)

-- what a student borrowed before: what was filed first
abbrev pub before : List LoanFiling → ℕ → Option BeforeFacts
before [] student = None
before (f ∷ past) student = earlier (before past student) (before_of student f.what)

-- of two records the one with the higher transaction, and the first where it is the same
abbrev pub higher : Option BorrowerFacts → Option BorrowerFacts → Option BorrowerFacts
higher old None = old
higher None (Some r) = Some r
higher (Some o) (Some r) = if nat_lt o.transaction r.transaction then Some r else Some o

-- the record in force of a student and a year: the one with the highest transaction
abbrev pub record_in : List LoanFiling → ℕ → ℕ → Option BorrowerFacts
record_in [] student year = None
record_in (f ∷ past) student year = higher (record_in past student year) (record_of student year f.what)

-- the last record of a student, of whatever year: the one that was filed last
abbrev pub last_record : List LoanFiling → ℕ → Option BorrowerFacts
last_record [] student = None
last_record (f ∷ past) student = earlier (borrower_of student f.what) (last_record past student)

-- the limits of the year of a record
abbrev pub limits_under : List LoanFiling → Option BorrowerFacts → Option LimitFacts
limits_under past record_on_file = option_and_then (λ (r : BorrowerFacts). limits past r.year) record_on_file

-- ---- sums, in cents, over the loans and the cancellations of all schools
abbrev pub if_passes : Bool → ℕ → ℕ
if_passes true cents = cents
if_passes false cents = 0

abbrev pub lent_in : (LoanAmount → Bool) → LoanWhat → ℕ
lent_in test (Lend a) = if_passes (test a) a.cents
lent_in test _ = 0

abbrev pub cancelled_in : (LoanAmount → Bool) → LoanWhat → ℕ
cancelled_in test (Cancel a) = if_passes (test a) a.cents
cancelled_in test _ = 0

abbrev pub lent : List LoanFiling → (LoanAmount → Bool) → ℕ
lent [] test = 0
lent (f ∷ past) test = lent_in test f.what + lent past test

abbrev pub cancelled : List LoanFiling → (LoanAmount → Bool) → ℕ
cancelled [] test = 0
cancelled (f ∷ past) test = cancelled_in test f.what + cancelled past test

-- the loans less the cancellations
abbrev pub net : List LoanFiling → (LoanAmount → Bool) → ℕ
net past test = lent past test - cancelled past test

abbrev pub is_sub : Program → Bool
is_sub Sub = true
is_sub _ = false

abbrev pub same_program : Bool → Program → Bool
same_program true program = is_sub program
same_program false program = if is_sub program then false else true

-- those of a student and a program, in one year and in all
abbrev pub in_year : ℕ → ℕ → Bool → LoanAmount → Bool
in_year student year sub a = (a.student == student) && ((a.year == year) && same_program sub a.program)

abbrev pub in_all : ℕ → Bool → LoanAmount → Bool
in_all student sub a = (a.student == student) && same_program sub a.program

-- those of the students, years and programs that pass
abbrev pub of_cells : (ℕ → ℕ → Program → Bool) → LoanAmount → Bool
of_cells cells a = cells a.student a.year a.program

-- The nets of a student: subsidized and unsubsidized, in a year and in all years. A net of both programs is the sum of these.
abbrev pub nets : List LoanFiling → ℕ → ℕ → LoanNets
nets past student year = record {
  sub = net past (in_year student year true);
  unsub = net past (in_year student year false);
  sub_all = net past (in_all student true);
  unsub_all = net past (in_all student false);
}

-- ---- the limits of a record, in dollars; 0 where there is no record, or no limits of its year
abbrev pub at_level : List ℕ → ℕ → ℕ
at_level amounts level = slice_index_or amounts (level - 1) 0

-- the annual limit of subsidized loans (34 CFR 685.203(a))
abbrev pub annual_sub : LimitFacts → BorrowerFacts → ℕ
annual_sub l r = at_level l.sub r.level

-- the annual limit of all loans (34 CFR 685.203(b), (c))
abbrev pub annual_total : LimitFacts → BorrowerFacts → ℕ
annual_total l r = if nat_lt r.level 4 then (if r.independent then at_level l.independent r.level else at_level l.dependent r.level) else l.graduate

-- the aggregate limit of subsidized loans (34 CFR 685.203(d))
abbrev pub aggregate_sub : LimitFacts → BorrowerFacts → ℕ
aggregate_sub l r = if nat_lt r.level 4 then slice_index_or l.aggregate_sub 0 0 else slice_index_or l.aggregate_sub 1 0

-- the aggregate limit of all loans (34 CFR 685.203(e))
abbrev pub aggregate_total : LimitFacts → BorrowerFacts → ℕ
aggregate_total l r =
    if nat_lt r.level 4 then (if r.independent then slice_index_or l.aggregate 1 0 else slice_index_or l.aggregate 0 0)
    else slice_index_or l.aggregate 2 0

-- by a record and the limits of its year
abbrev pub under : (LimitFacts → BorrowerFacts → ℕ) → Option LimitFacts → Option BorrowerFacts → ℕ
under amount (Some l) (Some r) = amount l r
under amount _ _ = 0

abbrev pub need_of : Option BorrowerFacts → ℕ
need_of None = 0
need_of (Some r) = r.need

abbrev pub cost_of : Option BorrowerFacts → ℕ
cost_of None = 0
cost_of (Some r) = r.cost

abbrev pub transaction_of : Option BorrowerFacts → ℕ
transaction_of None = 0
transaction_of (Some r) = r.transaction

-- what was borrowed before, subsidized and in all
abbrev pub before_sub : Option BeforeFacts → ℕ
before_sub None = 0
before_sub (Some b) = b.sub

abbrev pub before_total : Option BeforeFacts → ℕ
before_total None = 0
before_total (Some b) = b.total
