-- Sums of loans have room: each loan is below a million dollars, and there are at most 200,000.
use Rattle.std.proofs.Common.{ℕ, ◌^◌, ◌<◌, ◌≤◌, Bool, true, false, List, length, arith, subst, sym}
use Rattle.std.specs.Ordering.{nat_cmp}
use Rattle.sorted_rows.specs.Places.{value_at}
use Rattle.law_loans.specs.declared.filing.LoanAmount.{LoanAmount}
use Rattle.law_loans.specs.declared.filing.LoanFiling.{LoanFiling}
use Rattle.law_loans.specs.Loans.{in_all, in_year, net}
use Rattle.law_loans.specs.Rules.{most_loan_filings}
use Rattle.law_loans.proofs.Small.{lent_most}
use Rattle.law_loans.specs.Changes.{AreBelow}
use Rattle.law_loans.specs.Rows.{AreStudents, AreYears, student_or, year_cmp, year_or}
use Rattle.law_loans.specs.declared.names.StudentYear.{StudentYear}
use Rattle.law_loans.specs.declared.rows.StudentRow.{StudentRow}
use Rattle.law_loans.specs.declared.rows.YearRow.{YearRow}

pub net_below : (past : List LoanFiling) (test : LoanAmount → Bool) → length past ≤ most_loan_filings → net past test < 2 ^ 50
net_below past test few = omega (arith, lent_most past test)

pub students_below : (past : List LoanFiling) (rows : List (ℕ × StudentRow)) → length past ≤ most_loan_filings → AreStudents past rows → (student : ℕ) →
    AreBelow (student_or (value_at nat_cmp student rows)).nets
students_below past rows few told student =
    subst (λ (row : StudentRow). AreBelow row.nets) (sym (told student)) (net_below past (in_all student true) few, net_below past (in_all student false) few)

pub years_below : (past : List LoanFiling) (rows : List (StudentYear × YearRow)) → length past ≤ most_loan_filings → AreYears past rows → (name : StudentYear) →
    AreBelow (year_or (value_at year_cmp name rows)).nets
years_below past rows few told name =
    subst (λ (row : YearRow). AreBelow row.nets) (sym (told name)) (net_below past (in_year name.student name.year true) few, net_below past (in_year name.student name.year false) few)
