-- The rows of an index with one filing more.
use Rattle.std.proofs.Common.{◌≡◌, ℕ, ◌+◌, ◌-◌, ◌<◌, ◌≤◌, List, ◌∷◌, length, subst, sym, arith}
use Rattle.law_loans.specs.declared.filing.LoanFiling.{LoanFiling}
use Rattle.law_loans.specs.Rules.{most_loan_filings}
use Rattle.law_loans.specs.Rows.{AreIndexed, AreLimits, AreStudents, AreYears}
use Rattle.law_loans.specs.declared.names.StudentYear.{StudentYear}
use Rattle.law_loans.specs.declared.rows.LimitsRow.{LimitsRow}
use Rattle.law_loans.specs.declared.rows.StudentRow.{StudentRow}
use Rattle.law_loans.specs.declared.rows.YearRow.{YearRow}

pub index_grown : (past h : List LoanFiling) (f : LoanFiling) (limits : List (ℕ × LimitsRow)) (students : List (ℕ × StudentRow)) (years : List (StudentYear × YearRow)) →
    h ≡ f ∷ past → length past < most_loan_filings → AreLimits (f ∷ past) limits → AreStudents (f ∷ past) students → AreYears (f ∷ past) years → AreIndexed h limits students years
index_grown past h f limits students years grown few l s y =
    subst (λ (g : List LoanFiling). AreIndexed g limits students years) (sym grown)
    (record { few = omega arith; limits_told = l; students_told = s; years_told = y })

-- the room that is left where one place is taken
pub room_left : (room places left : ℕ) → room ≤ places → places ≤ left + 1 → room - 1 ≤ left
room_left room places left within taken = omega arith

pub places_left : (room old places new left : ℕ) → 1 ≤ room → old + room ≤ places → new ≡ old + 1 → left ≡ places → new + (room - 1) ≤ left
places_left room old places new left some within one same = omega arith
