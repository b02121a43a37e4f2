-- What the rows of an index tell is what a filing is judged on.
use Rattle.std.proofs.Common.{◌≡◌, ℕ, ◌^◌, ◌<◌, List, length, Option, sym, subst, ◌∙◌}
use Rattle.std.specs.Ordering.{nat_cmp}
use Rattle.sorted_rows.specs.Places.{value_at}
use Rattle.law_loans.specs.declared.filing.LimitFacts.{LimitFacts}
use Rattle.law_loans.specs.declared.filing.LoanFiling.{LoanFiling}
use Rattle.law_loans.specs.Loans.{before_sub, before_total, limits_under}
use Rattle.law_loans.specs.Rules.{facts_of, student_of, year_of}
use Rattle.law_loans.specs.declared.facts.LoanFacts.{LoanFacts}
use Rattle.law_loans.specs.Changes.{AreBelow}
use Rattle.law_loans.specs.Rows.{AreIndexed, limits_row, student_or, student_row, year_cmp, year_or, year_row}
use Rattle.law_loans.specs.declared.names.StudentYear.{StudentYear}
use Rattle.law_loans.specs.declared.rows.LimitsRow.{LimitsRow}
use Rattle.law_loans.specs.declared.rows.StudentRow.{StudentRow}
use Rattle.law_loans.specs.declared.rows.YearRow.{YearRow}
use Rattle.law_loans.proofs.Room.{students_below, years_below}

-- what is gathered of the rows
abbrev pub gathered : ℕ → LimitsRow → StudentRow → YearRow → Option LimitFacts → ℕ → ℕ → LoanFacts
gathered count limits student year last_limits before_sub before_total = record {
  count = count;
  limits_at = limits.at;
  limits = limits.limits;
  «record» = year.in_force;
  last = student.last;
  last_limits = last_limits;
  before_at = student.before_at;
  before_sub = before_sub;
  before_total = before_total;
  loan_at = student.loan_at;
  nets = record { sub = year.nets.sub; unsub = year.nets.unsub; sub_all = student.nets.sub; unsub_all = student.nets.unsub };
}

pub facts_gathered : (past h : List LoanFiling) (f : LoanFiling) (count : ℕ) (limits : LimitsRow) (student : StudentRow) (year : YearRow) (last_limits : Option LimitFacts) (sub total : ℕ) →
    h ≡ past → count ≡ length past → limits ≡ limits_row h (year_of f.what) → student ≡ student_row h (student_of f.what) →
    year ≡ year_row h (record { student = student_of f.what; year = year_of f.what }) → last_limits ≡ limits_under past student.last →
    sub ≡ before_sub student.before → total ≡ before_total student.before →
    gathered count limits student year last_limits sub total ≡ facts_of past f
facts_gathered past h f count limits student year last_limits sub total v n l s y u p q =
    (λ i. gathered (n i) (l i) student (y i) (u i) (p i) (q i))
    ∙ (λ i. gathered (length past) (limits_row (v i) (year_of f.what)) (told i) (year_row (v i) (record { student = student_of f.what; year = year_of f.what }))
    (limits_under past (told i).last) (before_sub (told i).before) (before_total (told i).before))
  where
    told : student ≡ student_row past (student_of f.what)
    told = s ∙ (λ i. student_row (v i) (student_of f.what))

-- nets that are told have room in 64 bits
pub small_gathered : (h : List LoanFiling) (limits : List (ℕ × LimitsRow)) (students : List (ℕ × StudentRow)) (years : List (StudentYear × YearRow)) (student : ℕ) (name : StudentYear)
    (of_student : StudentRow) (of_year : YearRow) → AreIndexed h limits students years → of_student ≡ student_or (value_at nat_cmp student students) → of_year ≡ year_or (value_at year_cmp name years) →
    (of_year.nets.sub < 2 ^ 50) × (of_year.nets.unsub < 2 ^ 50) × (of_student.nets.sub < 2 ^ 50) × (of_student.nets.unsub < 2 ^ 50)
small_gathered h limits students years student name of_student of_year indexed s y =
    let below_s = subst (λ (row : StudentRow). AreBelow row.nets) (sym s) (students_below h students indexed.few indexed.students_told student) in
    let below_y = subst (λ (row : YearRow). AreBelow row.nets) (sym y) (years_below h years indexed.few indexed.years_told name) in
    (below_y.0, below_y.1, below_s.0, below_s.1)
