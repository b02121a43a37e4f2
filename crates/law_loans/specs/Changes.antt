-- What a filing makes of the rows that it is about.
use Rattle.std.specs.Prelude.{ℕ, ◌+◌, ◌-◌, ◌≤◌, ◌<◌, ◌^◌, Bool, true, false, List, Some}
use Rattle.law_loans.specs.declared.filing.LimitFacts.{LimitFacts}
use Rattle.aid_types.specs.declared.number.Program.{Program}
use Rattle.law_loans.specs.declared.filing.LoanFiling.{LoanFiling}
use Rattle.law_loans.specs.declared.filing.LoanWhat.{LoanWhat}
use Rattle.law_loans.specs.declared.filing.LoanWhat.TheVariants.{Limits, Borrower, Before, Lend, Cancel}
use Rattle.law_loans.specs.Loans.{cancelled, earlier, earlier_or, higher, is_sub, lent, of_cells}
use Rattle.law_loans.specs.declared.rows.LimitsRow.{LimitsRow}
use Rattle.law_loans.specs.declared.rows.ProgramNets.{ProgramNets}
use Rattle.law_loans.specs.declared.rows.StudentRow.{StudentRow}
use Rattle.law_loans.specs.declared.rows.YearRow.{YearRow}

-- nets with a loan, subsidized or not, and with one cancelled
abbrev pub nets_with : ProgramNets → Bool → ℕ → ProgramNets
nets_with n true cents = record { sub = n.sub + cents; unsub = n.unsub }
nets_with n false cents = record { sub = n.sub; unsub = n.unsub + cents }

abbrev pub nets_without : ProgramNets → Bool → ℕ → ProgramNets
nets_without n true cents = record { sub = n.sub - cents; unsub = n.unsub }
nets_without n false cents = record { sub = n.sub; unsub = n.unsub - cents }

-- nets below so much that loans may be added in 64 bits
abbrev pub AreBelow : ProgramNets → Type 0
AreBelow n = (n.sub < 2 ^ 50) × (n.unsub < 2 ^ 50)

-- the limits of a year, with limits at a position
abbrev pub limits_after : ℕ → LimitFacts → LimitsRow → LimitsRow
limits_after at l row = record { at = earlier_or row.at at; limits = earlier row.limits (Some l) }

-- a student, with a filing at a position that is about the student
abbrev pub student_after : ℕ → LoanWhat → StudentRow → StudentRow
student_after at (Limits l) row = row
student_after at (Borrower r) row = record { last = Some r; before_at = row.before_at; before = row.before; loan_at = row.loan_at; nets = row.nets }
student_after at (Before b) row = record {
  last = row.last;
  before_at = earlier_or row.before_at at;
  before = earlier row.before (Some b);
  loan_at = row.loan_at;
  nets = row.nets;
}
student_after at (Lend a) row = record {
  last = row.last;
  before_at = row.before_at;
  before = row.before;
  loan_at = earlier_or row.loan_at at;
  nets = nets_with row.nets (is_sub a.program) a.cents;
}
student_after at (Cancel a) row = record {
  last = row.last;
  before_at = row.before_at;
  before = row.before;
  loan_at = row.loan_at;
  nets = nets_without row.nets (is_sub a.program) a.cents;
}

-- a student's year, with a filing that is about it
abbrev pub year_after : LoanWhat → YearRow → YearRow
year_after (Limits l) row = row
year_after (Borrower r) row = record { in_force = higher row.in_force (Some r); nets = row.nets }
year_after (Before b) row = row
year_after (Lend a) row = record { in_force = row.in_force; nets = nets_with row.nets (is_sub a.program) a.cents }
year_after (Cancel a) row = record { in_force = row.in_force; nets = nets_without row.nets (is_sub a.program) a.cents }

-- of no students, years and programs more was cancelled than lent
abbrev pub AreCovered : List LoanFiling → Type 0
AreCovered past = (cells : ℕ → ℕ → Program → Bool) → cancelled past (of_cells cells) ≤ lent past (of_cells cells)
