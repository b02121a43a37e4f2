-- The numbers of a part of a loan filing, which stand behind others.
use Rattle.std.specs.Prelude.{ℕ, ℤ, pos, List, [], replicate}
use Rattle.format_table.specs.Columns.{one}
use Rattle.format_table.specs.Layout.{AreNumbers}
use Rattle.format_table.specs.Parts.{Slot}
use Rattle.format_table.specs.declared.field.Form.TheVariants.{U32}
use Rattle.law_loans.specs.declared.filing.LoanWhat.{LoanWhat}
use Rattle.law_loans.specs.declared.filing.LoanWhat.TheVariants.{Limits, Borrower, Before, Lend, Cancel}
use Rattle.loans.specs.Kinds.{before_slots, borrower_slots, limits_slots, loan_slots}

-- numbers of these fields behind some numbers
abbrev pub FitSomewhere : List Slot → List ℤ → Type 0
FitSomewhere slots zs = (earlier : List ℤ) × AreNumbers slots earlier zs

-- numbers of these fields behind any numbers
abbrev pub FitAnywhere : List Slot → List ℤ → Type 0
FitAnywhere slots zs = (earlier : List ℤ) → AreNumbers slots earlier zs

-- the fields of what is filed, behind those of the key
abbrev pub slots_of_what : LoanWhat → List Slot
slots_of_what (Limits x) = limits_slots
slots_of_what (Borrower x) = borrower_slots
slots_of_what (Before x) = before_slots
slots_of_what (Lend x) = loan_slots
slots_of_what (Cancel x) = loan_slots

-- so many fields of dollars; no name of theirs is told
abbrev pub dollar_slots : ℕ → List Slot
dollar_slots n = replicate n (one [] U32 (pos 0) (pos 999999))
