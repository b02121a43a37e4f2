-- What was borrowed before is filed where no loan stands, so it leaves each student within.
use Rattle.std.proofs.Common.{◌≡◌, ℕ, zero, suc, ◌+◌, ◌-◌, ◌<◌, refl, arith, cond, Bool, true, false, List, [], ◌∷◌, length, Some, None, ne_eqb}
use Rattle.std.specs.Prelude.{◌==◌}
use Rattle.aid_types.specs.declared.number.Key.{Key}
use Rattle.law_loans.specs.declared.filing.BeforeFacts.{BeforeFacts}
use Rattle.law_loans.specs.declared.filing.LoanFiling.{LoanFiling}
use Rattle.law_loans.specs.declared.filing.LoanWhat.{LoanWhat}
use Rattle.law_loans.specs.declared.filing.LoanWhat.TheVariants.{Limits, Borrower, Before, Lend, Cancel}
use Rattle.law_loans.specs.Loans.{cancelled, earlier_or, in_all, is_loan_to, lent, lent_in, loan_at}
use Rattle.law_loans.specs.Rules.{breaks}
use Rattle.law_loans.proofs.Holding.{before_holds}
use Rattle.law_loans.proofs.NetSteps.{after, of_own, other_student, passes_none}
use Rattle.law_loans.proofs.Quiet.{StudentWithin, YearWithin, student_quiet, year_quiet}

-- a position is 0 only where there was none before and this filing doesn't pass
none_before : (k : ℕ) (b : Bool) (n : ℕ) → earlier_or k (cond b (n + 1) 0) ≡ 0 → (k ≡ 0) × (b ≡ false)
none_before zero true n h = absurd (omega arith)
none_before zero false n h = (refl, refl)
none_before (suc k) b n h =
    let e : (suc k == 0) ≡ false = ne_eqb (suc k) 0 (λ z. omega arith) in
    let d : suc k ≡ 0 = rw e at h in
    absurd (omega arith)

no_loan_in : (what : LoanWhat) (student : ℕ) (sub : Bool) → is_loan_to student what ≡ false → lent_in (in_all student sub) what ≡ 0
no_loan_in (Lend a) student sub e = passes_none (in_all student sub a) a.cents (other_student a student sub e)
no_loan_in (Limits l) student sub e = refl
no_loan_in (Borrower r) student sub e = refl
no_loan_in (Before b) student sub e = refl
no_loan_in (Cancel a) student sub e = refl

-- a student without a loan was lent nothing
pub no_loans : (past : List LoanFiling) (student : ℕ) (sub : Bool) → loan_at past student ≡ 0 → lent past (in_all student sub) ≡ 0
no_loans [] student sub h = refl
no_loans (f ∷ past) student sub h =
    let parts = none_before (loan_at past student) (is_loan_to student f.what) (length past) h in
    let here : lent_in (in_all student sub) f.what ≡ 0 = no_loan_in f.what student sub parts.1 in
    let rest : lent past (in_all student sub) ≡ 0 = no_loans past student sub parts.0 in
    nothing (lent_in (in_all student sub) f.what) (lent past (in_all student sub)) here rest
  where
    nothing : (a b : ℕ) → a ≡ 0 → b ≡ 0 → a + b ≡ 0
    nothing a b e d = omega arith

not_above : (l c : ℕ) → l ≡ 0 → 0 < (0 + l) - (0 + c) → ⊥
not_above l c e g = omega arith

neither_above : (l c k d : ℕ) → l ≡ 0 → k ≡ 0 → 0 < ((0 + l) - (0 + c)) + ((0 + k) - (0 + d)) → ⊥
neither_above l c k d e m g = omega arith

-- its own student: there is no net that would be tried
own_student : (past : List LoanFiling) (key : Key) (b : BeforeFacts) → breaks past (record { key = key; what = Before b }) ≡ None →
    StudentWithin (after past key (Before b)) b.student
own_student past key b h =
    let k = before_holds past key b h in
    let s = no_loans past b.student true k in
    let u = no_loans past b.student false k in record {
      aggregate = λ some. absurd (not_above (lent past (in_all b.student true)) (cancelled past (in_all b.student true)) s some);
      whole = λ some. absurd (neither_above (lent past (in_all b.student true)) (cancelled past (in_all b.student true))
          (lent past (in_all b.student false)) (cancelled past (in_all b.student false)) s u some);
    }

pub years_before : (past : List LoanFiling) (key : Key) (b : BeforeFacts) →
    ((student year : ℕ) → YearWithin past student year) → (student year : ℕ) → YearWithin (after past key (Before b)) student year
years_before past key b old student year = year_quiet past key (Before b) student year (λ sub. refl) refl (old student year)

pub students_before : (past : List LoanFiling) (key : Key) (b : BeforeFacts) → breaks past (record { key = key; what = Before b }) ≡ None →
    ((student : ℕ) → StudentWithin past student) → (student : ℕ) → StudentWithin (after past key (Before b)) student
students_before past key b h old student = go (b.student == student) refl
  where
    go : (t : Bool) → (b.student == student) ≡ t → StudentWithin (after past key (Before b)) student
    go true e = of_own (StudentWithin (after past key (Before b))) b.student student e (own_student past key b h)
    go false e =
        let none : cond (b.student == student) (Some b) None ≡ None = rw e refl in
        student_quiet past key (Before b) student (λ sub. refl) none refl (old student)
