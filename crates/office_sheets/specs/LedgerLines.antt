-- The lines of a student's ledger. Own format.
use Rattle.std.specs.Prelude.{ℕ, List, [], ◌∷◌, ◌++◌, Option, Some, None, codes, decimal, map}
use Rattle.aid_types.specs.Cents.{cents_text}
use Rattle.aid_types.specs.Words.{program_text}
use Rattle.law_terms.specs.Days.{day_text}
use Rattle.format_filings.specs.Replies.{outcome_text}
use Rattle.office_export.specs.Lines.{line_of as line}
use Rattle.office_reports.specs.Columns.{left, right, table}
use Rattle.office_sheets.specs.Lists.{clerk_text}
use Rattle.office_sheets.specs.declared.ledger_rows.LedgerRow.{LedgerRow}
use Rattle.office_sheets.specs.declared.ledger_rows.Movement.{Movement}
use Rattle.office_sheets.specs.declared.ledger_rows.Movement.TheVariants.{Payment, Return, Repayment, Adjustment}
use Rattle.office_sheets.specs.declared.ledger_rows.Told.{Told}
use Rattle.office_sheets.specs.declared.ledger_rows.Told.TheVariants.{Prior, Application, Enrollment, Cost, ChangedCost, Withdrawal, Sending, Money}

-- the word of how money moved, and that of what a line tells
abbrev pub movement_text : Movement → List ℕ
movement_text Payment = codes "pay"
movement_text Return = codes "return"
movement_text Repayment = codes "repay"
movement_text Adjustment = codes "adjust"

abbrev pub word_text : Told → List ℕ
word_text (Prior units) = codes "prior"
word_text (Application outcome) = codes "apply"
word_text (Enrollment credits) = codes "enrol"
word_text (Cost dollars) = codes "originate"
word_text (ChangedCost dollars) = codes "cost"
word_text (Withdrawal outcome) = codes "withdraw"
word_text (Sending s) = codes "sent"
word_text (Money m net used) = movement_text m.movement

-- what is taken back has a minus before it
abbrev pub moved_text : Movement → ℕ → List ℕ
moved_text Payment cents = cents_text cents
moved_text _ cents = codes "-" ++ cents_text cents

-- the columns behind the word
abbrev pub columns_of : Told → List (List ℕ)
columns_of (Prior units) = decimal units ∷ codes "units" ∷ []
columns_of (Application outcome) = outcome_text outcome ∷ []
columns_of (Enrollment credits) = decimal credits ∷ codes "credits" ∷ []
columns_of (Cost dollars) = decimal dollars ∷ codes "dollars" ∷ []
columns_of (ChangedCost dollars) = decimal dollars ∷ codes "dollars" ∷ []
columns_of (Withdrawal outcome) = outcome_text outcome ∷ []
columns_of (Sending s) = left 5 (program_text s.program) ∷ cents_text s.cents ∷ day_text s.day ∷ decimal s.reference ∷ []
columns_of (Money m net used) =
    left 5 (program_text m.program) ∷ right 12 (moved_text m.movement m.cents) ∷ right 12 (cents_text net) ∷ right 7 (decimal used) ∷ []

-- a year or a term that isn't there is a hyphen
abbrev pub number_text : Option ℕ → List ℕ
number_text None = codes "-"
number_text (Some n) = decimal n

-- POSITION DAY CLERK SCHOOL NUMBER YEAR TERM WORD, and what the word says
abbrev pub ledger_line : LedgerRow → List ℕ
ledger_line r = line (
    right 8 (decimal r.position) ∷ day_text r.stamp.day ∷ left 8 (clerk_text r.stamp.clerk) ∷ right 6 (decimal r.key.school)
    ∷ right 12 (decimal r.key.number) ∷ number_text r.year ∷ number_text r.term ∷ left 9 (word_text r.told) ∷ columns_of r.told)

-- the lines and how many there are, or that there is none
abbrev pub text_of : List LedgerRow → List ℕ
text_of [] = codes "none\n"
text_of (row ∷ rows) = table (map ledger_line (row ∷ rows))
