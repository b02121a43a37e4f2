-- A student and a year that a filing doesn't speak of stay within.
use Rattle.std.proofs.Common.{◌≡◌, ℕ, ◌≤◌, sym, subst, Bool, true, false, List, Option, None}
use Rattle.aid_types.specs.declared.number.Key.{Key}
use Rattle.law_loans.specs.declared.filing.BeforeFacts.{BeforeFacts}
use Rattle.law_loans.specs.declared.filing.BorrowerFacts.{BorrowerFacts}
use Rattle.law_loans.specs.declared.filing.LoanFiling.{LoanFiling}
use Rattle.law_loans.specs.declared.filing.LoanWhat.{LoanWhat}
use Rattle.law_loans.specs.Loans.{before, before_of, borrower_of, earlier, higher, in_all, in_year, last_record, lent_in, limits, limits_under, net, record_in, record_of}
use Rattle.law_loans.specs.Within.{net_of_all, net_of_year}
use Rattle.law_loans.proofs.NetSteps.{after, net_falls}
use Rattle.law_loans.proofs.Rising.{earlier_none, record_rises, year_rises}
use Rattle.law_loans.proofs.Claims.{StudentHolds, YearHolds, both, student_lower, year_lower}

-- what is claimed of a student and a year, and of a student
abbrev pub YearWithin : List LoanFiling → ℕ → ℕ → Type 0
YearWithin past student year =
    YearHolds (net past (in_year student year true)) (net_of_year past student year) (limits past year) (record_in past student year)

abbrev pub StudentWithin : List LoanFiling → ℕ → Type 0
StudentWithin past student =
    StudentHolds (net past (in_all student true)) (net_of_all past student) (before past student) (limits_under past (last_record past student)) (last_record past student)

pub year_quiet : (past : List LoanFiling) (key : Key) (what : LoanWhat) (student year : ℕ) → ((sub : Bool) → lent_in (in_year student year sub) what ≡ 0) →
    record_of student year what ≡ None → YearWithin past student year → YearWithin (after past key what) student year
year_quiet past key what student year none no_record old =
    let p : net (after past key what) (in_year student year true) ≤ net past (in_year student year true) = net_falls past key what (in_year student year true) (none true) in
    let q : net (after past key what) (in_year student year false) ≤ net past (in_year student year false) = net_falls past key what (in_year student year false) (none false) in
    let now : YearHolds (net (after past key what) (in_year student year true)) (net_of_year (after past key what) student year) (limits (after past key what) year) (record_in past student year) =
    year_lower (net (after past key what) (in_year student year true)) (net_of_year (after past key what) student year)
    (net past (in_year student year true)) (net_of_year past student year) (limits past year) (limits (after past key what) year) (record_in past student year)
    p (both _ _ _ _ p q) (year_rises past key what year (record_in past student year)) old in
    subst (λ (r : Option BorrowerFacts). YearHolds (net (after past key what) (in_year student year true)) (net_of_year (after past key what) student year)
    (limits (after past key what) year) (higher (record_in past student year) r)) (sym no_record) now

-- with the net of the student's loans given
pub student_lowered : (past : List LoanFiling) (key : Key) (what : LoanWhat) (student sub whole : ℕ) → net (after past key what) (in_all student true) ≤ sub →
    net_of_all (after past key what) student ≤ whole → before_of student what ≡ None → borrower_of student what ≡ None →
    StudentHolds sub whole (before past student) (limits_under past (last_record past student)) (last_record past student) → StudentWithin (after past key what) student
student_lowered past key what student sub whole p q no_before no_record old =
    let now : StudentHolds (net (after past key what) (in_all student true)) (net_of_all (after past key what) student) (before past student)
    (limits_under (after past key what) (last_record past student)) (last_record past student) =
    student_lower (net (after past key what) (in_all student true)) (net_of_all (after past key what) student) sub whole (before past student)
    (limits_under past (last_record past student)) (limits_under (after past key what) (last_record past student)) (last_record past student)
    p q (record_rises past key what (last_record past student)) old in
    let kept : StudentHolds (net (after past key what) (in_all student true)) (net_of_all (after past key what) student) (earlier (before past student) None)
    (limits_under (after past key what) (last_record past student)) (last_record past student) =
    subst (λ (b : Option BeforeFacts). StudentHolds (net (after past key what) (in_all student true)) (net_of_all (after past key what) student) b
    (limits_under (after past key what) (last_record past student)) (last_record past student)) (sym (earlier_none (before past student))) now in
    let told : StudentHolds (net (after past key what) (in_all student true)) (net_of_all (after past key what) student) (before (after past key what) student)
    (limits_under (after past key what) (last_record past student)) (last_record past student) =
    subst (λ (b : Option BeforeFacts). StudentHolds (net (after past key what) (in_all student true)) (net_of_all (after past key what) student)
    (earlier (before past student) b) (limits_under (after past key what) (last_record past student)) (last_record past student)) (sym no_before) kept in
    subst (λ (r : Option BorrowerFacts). StudentHolds (net (after past key what) (in_all student true)) (net_of_all (after past key what) student)
    (before (after past key what) student) (limits_under (after past key what) (earlier r (last_record past student))) (earlier r (last_record past student)))
    (sym no_record) told

pub student_quiet : (past : List LoanFiling) (key : Key) (what : LoanWhat) (student : ℕ) → ((sub : Bool) → lent_in (in_all student sub) what ≡ 0) →
    before_of student what ≡ None → borrower_of student what ≡ None → StudentWithin past student → StudentWithin (after past key what) student
student_quiet past key what student none no_before no_record old =
    let p : net (after past key what) (in_all student true) ≤ net past (in_all student true) = net_falls past key what (in_all student true) (none true) in
    let q : net (after past key what) (in_all student false) ≤ net past (in_all student false) = net_falls past key what (in_all student false) (none false) in
    student_lowered past key what student (net past (in_all student true)) (net_of_all past student) p (both _ _ _ _ p q) no_before no_record old
