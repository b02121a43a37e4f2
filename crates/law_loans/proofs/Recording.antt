-- A record that breaks no rule leaves each student within.
use Rattle.std.proofs.Common.{◌≡◌, ℕ, ◌≤◌, refl, sym, subst, cond, Bool, true, false, ◌&&◌, List, Option, Some, None, lt-ltb}
use Rattle.std.specs.Prelude.{◌==◌}
use Rattle.aid_types.specs.declared.number.Key.{Key}
use Rattle.law_loans.specs.declared.filing.BeforeFacts.{BeforeFacts}
use Rattle.law_loans.specs.declared.filing.BorrowerFacts.{BorrowerFacts}
use Rattle.law_loans.specs.declared.filing.LoanFiling.{LoanFiling}
use Rattle.law_loans.specs.declared.filing.LoanWhat.TheVariants.{Borrower}
use Rattle.law_loans.specs.Loans.{before, earlier, higher, in_all, in_year, last_record, limits, limits_under, net, record_in}
use Rattle.law_loans.specs.Rules.{breaks}
use Rattle.law_loans.specs.Within.{net_of_all, net_of_year}
use Rattle.law_loans.proofs.Holding.{borrower_holds}
use Rattle.law_loans.proofs.NetSteps.{after, net_falls, of_own, of_own_year}
use Rattle.law_loans.proofs.Rising.{earlier_none, higher_new, record_rises, year_rises}
use Rattle.law_loans.proofs.Claims.{StudentHolds, YearHolds, both, student_lower, year_lower}
use Rattle.law_loans.proofs.Quiet.{StudentWithin, YearWithin, student_quiet, year_quiet}

-- no net rises
sub_falls : (past : List LoanFiling) (key : Key) (r : BorrowerFacts) (student year : ℕ) (sub : Bool) →
    net (after past key (Borrower r)) (in_year student year sub) ≤ net past (in_year student year sub)
sub_falls past key r student year sub = net_falls past key (Borrower r) (in_year student year sub) refl

all_falls : (past : List LoanFiling) (key : Key) (r : BorrowerFacts) (student : ℕ) (sub : Bool) →
    net (after past key (Borrower r)) (in_all student sub) ≤ net past (in_all student sub)
all_falls past key r student sub = net_falls past key (Borrower r) (in_all student sub) refl

-- its own year: the record in force is this one
own_year : (past : List LoanFiling) (key : Key) (r : BorrowerFacts) → breaks past (record { key = key; what = Borrower r }) ≡ None →
    YearHolds (net (after past key (Borrower r)) (in_year r.student r.year true)) (net_of_year (after past key (Borrower r)) r.student r.year)
    (limits (after past key (Borrower r)) r.year) (higher (record_in past r.student r.year) (Some r))
own_year past key r h =
    let k = borrower_holds past key r h in
    let p = sub_falls past key r r.student r.year true in
    let q = sub_falls past key r r.student r.year false in
    let here : YearHolds (net past (in_year r.student r.year true)) (net_of_year past r.student r.year) (limits past r.year) (Some r) =
    record { need = k.1.need refl; annual = k.1.annual refl; total = k.1.total; cost = k.1.cost } in
    let now : YearHolds (net (after past key (Borrower r)) (in_year r.student r.year true)) (net_of_year (after past key (Borrower r)) r.student r.year)
    (limits (after past key (Borrower r)) r.year) (Some r) =
    year_lower (net (after past key (Borrower r)) (in_year r.student r.year true)) (net_of_year (after past key (Borrower r)) r.student r.year)
    (net past (in_year r.student r.year true)) (net_of_year past r.student r.year) (limits past r.year) (limits (after past key (Borrower r)) r.year) (Some r)
    p (both _ _ _ _ p q) (year_rises past key (Borrower r) r.year (Some r)) here in
    subst (λ (o : Option BorrowerFacts). YearHolds (net (after past key (Borrower r)) (in_year r.student r.year true)) (net_of_year (after past key (Borrower r)) r.student r.year)
    (limits (after past key (Borrower r)) r.year) o) (sym (higher_new (record_in past r.student r.year) r k.0)) now

-- all years of its own student: the last record is this one
own_student : (past : List LoanFiling) (key : Key) (r : BorrowerFacts) → breaks past (record { key = key; what = Borrower r }) ≡ None →
    StudentHolds (net (after past key (Borrower r)) (in_all r.student true)) (net_of_all (after past key (Borrower r)) r.student)
    (before (after past key (Borrower r)) r.student) (limits_under (after past key (Borrower r)) (Some r)) (Some r)
own_student past key r h =
    let k = borrower_holds past key r h in
    let p = all_falls past key r r.student true in
    let q = all_falls past key r r.student false in
    let here : StudentHolds (net past (in_all r.student true)) (net_of_all past r.student) (before past r.student) (limits past r.year) (Some r) =
    record {
      aggregate = λ some. k.1.aggregate (lt-ltb 0 (net past (in_all r.student true)) some);
      whole = λ some. k.1.whole (lt-ltb 0 (net_of_all past r.student) some);
    } in
    subst (λ (b : Option BeforeFacts). StudentHolds (net (after past key (Borrower r)) (in_all r.student true)) (net_of_all (after past key (Borrower r)) r.student)
    b (limits_under (after past key (Borrower r)) (Some r)) (Some r)) (sym (earlier_none (before past r.student)))
    (student_lower (net (after past key (Borrower r)) (in_all r.student true)) (net_of_all (after past key (Borrower r)) r.student)
    (net past (in_all r.student true)) (net_of_all past r.student) (before past r.student) (limits past r.year) (limits_under (after past key (Borrower r)) (Some r)) (Some r)
    p (both _ _ _ _ p q) (record_rises past key (Borrower r) (Some r)) here)

pub years_recorded : (past : List LoanFiling) (key : Key) (r : BorrowerFacts) → breaks past (record { key = key; what = Borrower r }) ≡ None →
    ((student year : ℕ) → YearWithin past student year) → (student year : ℕ) → YearWithin (after past key (Borrower r)) student year
years_recorded past key r h old student year = go ((r.student == student) && (r.year == year)) refl
  where
    go : (b : Bool) → ((r.student == student) && (r.year == year)) ≡ b → YearWithin (after past key (Borrower r)) student year
    go false e =
        let none : cond ((r.student == student) && (r.year == year)) (Some r) None ≡ None = rw e refl in
        year_quiet past key (Borrower r) student year (λ sub. refl) none (old student year)
    go true e =
        let here : YearHolds (net (after past key (Borrower r)) (in_year student year true)) (net_of_year (after past key (Borrower r)) student year)
        (limits (after past key (Borrower r)) year) (higher (record_in past student year) (Some r)) =
        of_own_year (λ s y. YearHolds (net (after past key (Borrower r)) (in_year s y true)) (net_of_year (after past key (Borrower r)) s y)
        (limits (after past key (Borrower r)) y) (higher (record_in past s y) (Some r))) r.student r.year student year e (own_year past key r h) in
        subst (λ b. YearHolds (net (after past key (Borrower r)) (in_year student year true)) (net_of_year (after past key (Borrower r)) student year)
        (limits (after past key (Borrower r)) year) (higher (record_in past student year) (cond b (Some r) None))) (sym e) here

pub students_recorded : (past : List LoanFiling) (key : Key) (r : BorrowerFacts) → breaks past (record { key = key; what = Borrower r }) ≡ None →
    ((student : ℕ) → StudentWithin past student) → (student : ℕ) → StudentWithin (after past key (Borrower r)) student
students_recorded past key r h old student = go (r.student == student) refl
  where
    go : (b : Bool) → (r.student == student) ≡ b → StudentWithin (after past key (Borrower r)) student
    go false e =
        let none : cond (r.student == student) (Some r) None ≡ None = rw e refl in
        student_quiet past key (Borrower r) student (λ sub. refl) refl none (old student)
    go true e =
        let here : StudentHolds (net (after past key (Borrower r)) (in_all student true)) (net_of_all (after past key (Borrower r)) student)
        (before (after past key (Borrower r)) student) (limits_under (after past key (Borrower r)) (Some r)) (Some r) =
        of_own (λ s. StudentHolds (net (after past key (Borrower r)) (in_all s true)) (net_of_all (after past key (Borrower r)) s)
        (before (after past key (Borrower r)) s) (limits_under (after past key (Borrower r)) (Some r)) (Some r)) r.student student e (own_student past key r h) in
        subst (λ b. StudentHolds (net (after past key (Borrower r)) (in_all student true)) (net_of_all (after past key (Borrower r)) student)
        (before (after past key (Borrower r)) student)
        (limits_under (after past key (Borrower r)) (earlier (cond b (Some r) None) (last_record past student))) (earlier (cond b (Some r) None) (last_record past student)))
        (sym e) here
