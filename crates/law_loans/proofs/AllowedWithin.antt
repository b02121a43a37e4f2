-- A list of which each filing breaks no rule on those before it is within every limit.
use Rattle.std.proofs.Common.{◌≡◌, ℕ, ◌<◌, refl, arith, List, [], ◌∷◌, None, zero-le}
use Rattle.aid_types.specs.declared.number.Key.{Key}
use Rattle.law_loans.specs.declared.filing.LoanFiling.{LoanFiling}
use Rattle.law_loans.specs.declared.filing.LoanWhat.{LoanWhat}
use Rattle.law_loans.specs.declared.filing.LoanWhat.TheVariants.{Limits, Borrower, Before, Lend, Cancel}
use Rattle.law_loans.specs.Rules.{AreAllowed, breaks}
use Rattle.law_loans.specs.Within.{IsWithinLoans}
use Rattle.law_loans.proofs.NetSteps.{after}
use Rattle.law_loans.proofs.Quiet.{StudentWithin, YearWithin, student_quiet, year_quiet}
use Rattle.law_loans.proofs.Lending.{students_lent, years_lent}
use Rattle.law_loans.proofs.Recording.{students_recorded, years_recorded}
use Rattle.law_loans.proofs.Earlier.{students_before, years_before}
use Rattle.law_loans.proofs.Covered.{covered}

years_step : (past : List LoanFiling) (key : Key) (what : LoanWhat) → ((student year : ℕ) → YearWithin past student year) →
    breaks past (record { key = key; what = what }) ≡ None → (student year : ℕ) → YearWithin (after past key what) student year
years_step past key (Limits l) old h = λ student year. year_quiet past key (Limits l) student year (λ sub. refl) refl (old student year)
years_step past key (Borrower r) old h = years_recorded past key r h old
years_step past key (Before b) old h = years_before past key b old
years_step past key (Lend a) old h = years_lent past key a h old
years_step past key (Cancel a) old h = λ student year. year_quiet past key (Cancel a) student year (λ sub. refl) refl (old student year)

pub years_within : (past : List LoanFiling) → AreAllowed past → (student year : ℕ) → YearWithin past student year
years_within [] h = λ student year. record { need = zero-le; annual = zero-le; total = zero-le; cost = zero-le }
years_within (f ∷ past) h = years_step past f.key f.what (years_within past h.0) h.1

students_step : (past : List LoanFiling) (key : Key) (what : LoanWhat) → ((student : ℕ) → StudentWithin past student) →
    breaks past (record { key = key; what = what }) ≡ None → (student : ℕ) → StudentWithin (after past key what) student
students_step past key (Limits l) old h = λ student. student_quiet past key (Limits l) student (λ sub. refl) refl refl (old student)
students_step past key (Borrower r) old h = students_recorded past key r h old
students_step past key (Before b) old h = students_before past key b h old
students_step past key (Lend a) old h = students_lent past key a h old
students_step past key (Cancel a) old h = λ student. student_quiet past key (Cancel a) student (λ sub. refl) refl refl (old student)

not_zero : 0 < 0 → ⊥
not_zero h = omega arith

pub students_within : (past : List LoanFiling) → AreAllowed past → (student : ℕ) → StudentWithin past student
students_within [] h = λ student. record { aggregate = λ some. absurd (not_zero some); whole = λ some. absurd (not_zero some) }
students_within (f ∷ past) h = students_step past f.key f.what (students_within past h.0) h.1

pub allowed_within : (past : List LoanFiling) → AreAllowed past → IsWithinLoans past
allowed_within past h =
    let years = years_within past h in
    let students = students_within past h in record {
      need = λ student year. (years student year).need;
      sub = λ student year. (years student year).annual;
      total = λ student year. (years student year).total;
      cost = λ student year. (years student year).cost;
      all_sub = λ student. (students student).aggregate;
      all = λ student. (students student).whole;
      nets = covered past h;
    }
