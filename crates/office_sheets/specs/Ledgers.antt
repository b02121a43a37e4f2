-- The ledger of a student: all filings about the student, the oldest first, as a bursar reads them.
use Rattle.std.specs.Prelude.{ℕ, ◌==◌, nat_lt, Bool, false, List, [], ◌∷◌, ◌++◌, length, slice_index, Option, Some, None, if◌then◌else◌}
use Rattle.std.specs.List.{flat_map}
use Rattle.aid_types.specs.Programs.{rank, six}
use Rattle.aid_types.specs.declared.number.Key.{Key}
use Rattle.aid_types.specs.declared.number.Program.{Program}
use Rattle.aid_filings.specs.Students.{student_of}
use Rattle.aid_filings.specs.declared.filing.Amount.{Amount}
use Rattle.aid_filings.specs.declared.filing.Filing.{Filing}
use Rattle.aid_filings.specs.declared.filing.SentFacts.{SentFacts}
use Rattle.aid_filings.specs.declared.filing.What.{What}
use Rattle.aid_filings.specs.declared.filing.What.TheVariants.{Apply, Enroll, Originate, Pay, Prior as PriorFiled, Withdraw, Repay, Adjust, Cost as CostFiled, Sent}
use Rattle.aid_filings.specs.declared.filing.WithdrawFacts.{WithdrawFacts}
use Rattle.aid_filings.specs.declared.reply.Outcome.{Outcome}
use Rattle.aid_stamps.specs.declared.stamp.Stamp.{Stamp}
use Rattle.office_history.specs.Answer.{outcome_of}
use Rattle.office_history.specs.Net.{cell_at, net_at, sheet, used}
use Rattle.office_history.specs.declared.place.Place.{Place}
use Rattle.office_reports.specs.Rows.{all_programs}
use Rattle.office_sheets.specs.LedgerLines.{text_of}
use Rattle.office_sheets.specs.declared.ledger_rows.LedgerRow.{LedgerRow}
use Rattle.office_sheets.specs.declared.ledger_rows.Moved.{Moved}
use Rattle.office_sheets.specs.declared.ledger_rows.Movement.{Movement}
use Rattle.office_sheets.specs.declared.ledger_rows.Movement.TheVariants.{Payment, Return, Repayment, Adjustment}
use Rattle.office_sheets.specs.declared.ledger_rows.SentBack.{SentBack}
use Rattle.office_sheets.specs.declared.ledger_rows.Told.{Told}
use Rattle.office_sheets.specs.declared.ledger_rows.Told.TheVariants.{Prior, Application, Enrollment, Cost, ChangedCost, Withdrawal, Sending, Money}

-- f is the newest filing of the history now, and has the stamp
abbrev pub row_on : List Filing → Stamp → Filing → Option ℕ → Option ℕ → Told → LedgerRow
row_on now stamp f year term told = record { position = length now; stamp = stamp; key = f.key; year = year; term = term; told = told }

-- money that moved in a term, with the net of its program there and the lifetime use, both with it
abbrev pub moved_row : List Filing → Stamp → Filing → Place → Moved → LedgerRow
moved_row now stamp f p m =
    row_on now stamp f (Some p.year) (Some p.term) (Money m (net_at now (cell_at p.school p.student p.year p.term (rank m.program))) (used now p.student))

abbrev pub amount_row : List Filing → Stamp → Filing → Movement → Amount → LedgerRow
amount_row now stamp f movement a =
    moved_row now stamp f (record { school = f.key.school; student = a.student; year = a.year; term = a.term })
    (record { movement = movement; program = a.program; cents = a.cents })

-- the term of a withdrawal
abbrev pub withdrawn_place : Key → WithdrawFacts → Place
withdrawn_place key w = record { school = key.school; student = w.student; year = w.year; term = w.term }

-- what a school returns of a program, where it returns something; and of all programs, in their order
abbrev pub return_row : List Filing → Stamp → Filing → Place → Program → ℕ → List LedgerRow
return_row now stamp f p program cents = if nat_lt 0 cents then moved_row now stamp f p (record { movement = Return; program = program; cents = cents }) ∷ [] else []

abbrev pub return_rows : List Filing → Stamp → Filing → Place → List ℕ → List LedgerRow
return_rows now stamp f p returned = flat_map (λ program. return_row now stamp f p program (slice_index returned (rank program))) all_programs

-- what a filing says that was sent back
abbrev pub sent_back : SentFacts → SentBack
sent_back s = record { program = s.program; cents = s.cents; day = s.day; reference = s.reference }

-- the rows of a filing that was admitted with an outcome, and of which so much is returned by program
abbrev pub rows_told : List Filing → Stamp → Filing → Outcome → List ℕ → What → List LedgerRow
rows_told now stamp f outcome returned (PriorFiled p) = row_on now stamp f None None (Prior p.units) ∷ []
rows_told now stamp f outcome returned (Apply a) = row_on now stamp f (Some a.year) None (Application outcome) ∷ []
rows_told now stamp f outcome returned (Enroll e) = row_on now stamp f (Some e.year) (Some e.term) (Enrollment e.credits) ∷ []
rows_told now stamp f outcome returned (Originate o) = row_on now stamp f (Some o.year) None (Cost o.cost) ∷ []
rows_told now stamp f outcome returned (Pay a) = amount_row now stamp f Payment a ∷ []
rows_told now stamp f outcome returned (Repay a) = amount_row now stamp f Repayment a ∷ []
rows_told now stamp f outcome returned (Adjust a) = amount_row now stamp f Adjustment a ∷ []
rows_told now stamp f outcome returned (CostFiled o) = row_on now stamp f (Some o.year) None (ChangedCost o.cost) ∷ []
rows_told now stamp f outcome returned (Sent s) = row_on now stamp f (Some s.year) (Some s.term) (Sending (sent_back s)) ∷ []
rows_told now stamp f outcome returned (Withdraw w) =
    row_on now stamp f (Some w.year) (Some w.term) (Withdrawal outcome) ∷ return_rows now stamp f (withdrawn_place f.key w) returned
rows_told now stamp f outcome returned _ = []

-- what a withdrawal's worksheet returns by program (34 CFR 668.22(i)); no other filing returns anything
abbrev pub returned_by : List Filing → Key → What → List ℕ
returned_by past key (Withdraw w) = (sheet past key w).returned
returned_by past key _ = six (λ p. 0)

-- what is filed is about the student
abbrev pub is_student : ℕ → Option ℕ → Bool
is_student student None = false
is_student student (Some s) = s == student

-- the rows of a filing that was admitted on the filings past, where it is about the student
abbrev pub rows_about : ℕ → List Filing → Stamp → Filing → List LedgerRow
rows_about student past stamp f =
    if is_student student (student_of f.what) then rows_told (f ∷ past) stamp f (outcome_of past f) (returned_by past f.key f.what) f.what else []

-- of all filings of a history, each with its stamp, both the newest first
abbrev pub ledger_rows : ℕ → List Filing → List Stamp → List LedgerRow
ledger_rows student (f ∷ past) (s ∷ stamps) = ledger_rows student past stamps ++ rows_about student past s f
ledger_rows student past stamps = []

-- the ledger of a student on a history and the stamps of its filings, both the newest first
abbrev pub student_sheet : ℕ → List Filing → List Stamp → List ℕ
student_sheet student past stamps = text_of (ledger_rows student past stamps)
