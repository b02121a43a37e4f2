-- What the rows of the index tell of a list of filings, which is read newest first.
use Rattle.std.specs.Prelude.{◌≡◌, ℕ, ◌≤◌, true, false, List, length, Option, Some, None}
use Rattle.std.specs.Ordering.{nat_cmp, ordering_then}
use Rattle.std.specs.declared.cmp.Ordering.{Ordering}
use Rattle.sorted_rows.specs.Places.{value_at}
use Rattle.law_loans.specs.declared.filing.LoanFiling.{LoanFiling}
use Rattle.law_loans.specs.Loans.{before, before_at, in_all, in_year, last_record, limits, limits_at, loan_at, net, record_in}
use Rattle.law_loans.specs.Rules.{most_loan_filings}
use Rattle.law_loans.specs.declared.names.StudentYear.{StudentYear}
use Rattle.law_loans.specs.declared.rows.LimitsRow.{LimitsRow}
use Rattle.law_loans.specs.declared.rows.ProgramNets.{ProgramNets}
use Rattle.law_loans.specs.declared.rows.StudentRow.{StudentRow}
use Rattle.law_loans.specs.declared.rows.YearRow.{YearRow}

-- the order of the names of students' years: by the student, and then by the year
abbrev pub year_cmp : StudentYear → StudentYear → Ordering
year_cmp a b = ordering_then (nat_cmp a.student b.student) (nat_cmp a.year b.year)

-- ---- what is on file under a name
-- the first limits of a year
abbrev pub limits_row : List LoanFiling → ℕ → LimitsRow
limits_row past year = record { at = limits_at past year; limits = limits past year }

-- a student's nets of all years, and those of one year
abbrev pub nets_of_all : List LoanFiling → ℕ → ProgramNets
nets_of_all past student = record { sub = net past (in_all student true); unsub = net past (in_all student false) }

abbrev pub nets_of_year : List LoanFiling → ℕ → ℕ → ProgramNets
nets_of_year past student year = record { sub = net past (in_year student year true); unsub = net past (in_year student year false) }

-- a student, of whatever year
abbrev pub student_row : List LoanFiling → ℕ → StudentRow
student_row past student = record {
  last = last_record past student;
  before_at = before_at past student;
  before = before past student;
  loan_at = loan_at past student;
  nets = nets_of_all past student;
}

-- a student's year
abbrev pub year_row : List LoanFiling → StudentYear → YearRow
year_row past name = record { in_force = record_in past name.student name.year; nets = nets_of_year past name.student name.year }

-- ---- what a row tells, and what is told where there is none
abbrev pub no_nets : ProgramNets
no_nets = record { sub = 0; unsub = 0 }

abbrev pub limits_or : Option LimitsRow → LimitsRow
limits_or None = record { at = 0; limits = None }
limits_or (Some row) = row

abbrev pub student_or : Option StudentRow → StudentRow
student_or None = record { last = None; before_at = 0; before = None; loan_at = 0; nets = no_nets }
student_or (Some row) = row

abbrev pub year_or : Option YearRow → YearRow
year_or None = record { in_force = None; nets = no_nets }
year_or (Some row) = row

-- ---- the rows of each table tell what is on file
abbrev pub AreLimits : List LoanFiling → List (ℕ × LimitsRow) → Type 0
AreLimits past rows = (year : ℕ) → limits_or (value_at nat_cmp year rows) ≡ limits_row past year

abbrev pub AreStudents : List LoanFiling → List (ℕ × StudentRow) → Type 0
AreStudents past rows = (student : ℕ) → student_or (value_at nat_cmp student rows) ≡ student_row past student

abbrev pub AreYears : List LoanFiling → List (StudentYear × YearRow) → Type 0
AreYears past rows = (name : StudentYear) → year_or (value_at year_cmp name rows) ≡ year_row past name

-- all three tables tell of these filings, which are not too many
pub record AreIndexed (past : List LoanFiling) (limits : List (ℕ × LimitsRow)) (students : List (ℕ × StudentRow)) (years : List (StudentYear × YearRow)) : Type 0 where
  pub few : length past ≤ most_loan_filings
  pub limits_told : AreLimits past limits
  pub students_told : AreStudents past students
  pub years_told : AreYears past years
