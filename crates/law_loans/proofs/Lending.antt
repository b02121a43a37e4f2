-- A loan that breaks no rule leaves each student within.
use Rattle.std.proofs.Common.{◌≡◌, ℕ, refl, Bool, true, false, ◌&&◌, List, None}
use Rattle.std.specs.Prelude.{◌==◌}
use Rattle.aid_types.specs.declared.number.Key.{Key}
use Rattle.law_loans.specs.declared.filing.LoanAmount.{LoanAmount}
use Rattle.law_loans.specs.declared.filing.LoanFiling.{LoanFiling}
use Rattle.law_loans.specs.declared.filing.LoanWhat.TheVariants.{Lend}
use Rattle.law_loans.specs.Loans.{before, in_all, in_year, is_sub, last_record, limits, limits_under, net, nets, record_in}
use Rattle.law_loans.specs.Rules.{breaks, of_all, of_year, with_loan}
use Rattle.law_loans.specs.Within.{net_of_year}
use Rattle.law_loans.proofs.Holding.{lend_holds}
use Rattle.law_loans.proofs.NetSteps.{after, all_with_loan, of_own, of_own_year, other_student, other_year, passes_none, year_with_loan}
use Rattle.law_loans.proofs.Rising.{year_rises}
use Rattle.law_loans.proofs.Claims.{both, student_of_loan, year_lower, year_of_loan}
use Rattle.law_loans.proofs.Quiet.{StudentWithin, YearWithin, student_lowered, student_quiet, year_quiet}

-- its own year, and all years of its own student
own_year : (past : List LoanFiling) (key : Key) (a : LoanAmount) → breaks past (record { key = key; what = Lend a }) ≡ None →
    YearWithin past a.student a.year → YearWithin (after past key (Lend a)) a.student a.year
own_year past key a h old =
    let up = year_with_loan past key a a.student a.year (is_sub a.program) refl in
    year_lower (net (after past key (Lend a)) (in_year a.student a.year true)) (net_of_year (after past key (Lend a)) a.student a.year)
    (with_loan (nets past a.student a.year) (is_sub a.program) a.cents).sub (of_year (with_loan (nets past a.student a.year) (is_sub a.program) a.cents))
    (limits past a.year) (limits (after past key (Lend a)) a.year) (record_in past a.student a.year)
    up.0 (both _ _ _ _ up.0 up.1) (year_rises past key (Lend a) a.year (record_in past a.student a.year))
    (year_of_loan (is_sub a.program) (nets past a.student a.year) a.cents _ _ (limits past a.year) (record_in past a.student a.year) _ old (lend_holds past key a h))

own_student : (past : List LoanFiling) (key : Key) (a : LoanAmount) → breaks past (record { key = key; what = Lend a }) ≡ None →
    StudentWithin past a.student → StudentWithin (after past key (Lend a)) a.student
own_student past key a h old =
    let up = all_with_loan past key a a.student a.year (is_sub a.program) refl in
    student_lowered past key (Lend a) a.student (with_loan (nets past a.student a.year) (is_sub a.program) a.cents).sub_all
    (of_all (with_loan (nets past a.student a.year) (is_sub a.program) a.cents)) up.0 (both _ _ _ _ up.0 up.1) refl refl
    (student_of_loan (is_sub a.program) (nets past a.student a.year) a.cents (before past a.student) _
    (limits_under past (last_record past a.student)) (last_record past a.student) old (lend_holds past key a h))

pub years_lent : (past : List LoanFiling) (key : Key) (a : LoanAmount) → breaks past (record { key = key; what = Lend a }) ≡ None →
    ((student year : ℕ) → YearWithin past student year) → (student year : ℕ) → YearWithin (after past key (Lend a)) student year
years_lent past key a h old student year = go ((a.student == student) && (a.year == year)) refl
  where
    go : (b : Bool) → ((a.student == student) && (a.year == year)) ≡ b → YearWithin (after past key (Lend a)) student year
    go true e = of_own_year (YearWithin (after past key (Lend a))) a.student a.year student year e (own_year past key a h (old a.student a.year))
    go false e =
        year_quiet past key (Lend a) student year (λ sub. passes_none (in_year student year sub a) a.cents (other_year a student year sub e)) refl (old student year)

pub students_lent : (past : List LoanFiling) (key : Key) (a : LoanAmount) → breaks past (record { key = key; what = Lend a }) ≡ None →
    ((student : ℕ) → StudentWithin past student) → (student : ℕ) → StudentWithin (after past key (Lend a)) student
students_lent past key a h old student = go (a.student == student) refl
  where
    go : (b : Bool) → (a.student == student) ≡ b → StudentWithin (after past key (Lend a)) student
    go true e = of_own (StudentWithin (after past key (Lend a))) a.student student e (own_student past key a h (old a.student))
    go false e =
        student_quiet past key (Lend a) student (λ sub. passes_none (in_all student sub a) a.cents (other_student a student sub e)) refl refl (old student)
