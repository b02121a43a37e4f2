-- What a filing makes of what is on file: it changes the rows that it is about, and no other.
use Rattle.std.proofs.Common.{◌≡◌, ℕ, ◌+◌, ◌-◌, ◌≤◌, Bool, true, false, List, ◌∷◌, length, Option, Some, None, refl, sym, ◌∙◌, arith}
use Rattle.std.specs.Prelude.{◌==◌, ◌&&◌, if◌then◌else◌, is_some}
use Rattle.std.proofs.lemmas.Bool.{eqb-true}
use Rattle.aid_types.specs.declared.number.Key.{Key}
use Rattle.law_loans.specs.declared.filing.BeforeFacts.{BeforeFacts}
use Rattle.law_loans.specs.declared.filing.BorrowerFacts.{BorrowerFacts}
use Rattle.law_loans.specs.declared.filing.LoanFiling.{LoanFiling}
use Rattle.law_loans.specs.declared.filing.LoanWhat.{LoanWhat}
use Rattle.law_loans.specs.declared.filing.LoanWhat.TheVariants.{Limits, Borrower, Before, Lend, Cancel}
use Rattle.law_loans.specs.Loans.{before, before_at, cancelled, earlier, earlier_or, higher, if_passes, in_all, in_year, is_sub, last_record, lent, loan_at, record_in, same_program}
use Rattle.law_loans.specs.Rules.{student_of, year_of}
use Rattle.law_loans.specs.Changes.{AreCovered, nets_with, nets_without, student_after, year_after}
use Rattle.law_loans.specs.Rows.{nets_of_all, nets_of_year, student_row, year_row}
use Rattle.law_loans.specs.declared.names.StudentYear.{StudentYear}
use Rattle.law_loans.specs.declared.rows.ProgramNets.{ProgramNets}
use Rattle.law_loans.specs.declared.rows.StudentRow.{StudentRow}
use Rattle.law_loans.specs.declared.rows.YearRow.{YearRow}

abbrev filed : Key → LoanWhat → LoanFiling
filed key what = record { key = key; what = what }

-- ---- what stays
kept_at : (n : ℕ) → earlier_or n 0 ≡ n
kept_at n = go (n == 0) refl
  where
    go : (b : Bool) → (n == 0) ≡ b → (if b then 0 else n) ≡ n
    go true e = sym (eqb-true n 0 e)
    go false e = refl

kept_option : {A : Type 0} (o : Option A) → earlier o None ≡ o
kept_option None = refl
kept_option (Some a) = refl

kept_record : (o : Option BorrowerFacts) → higher o None ≡ o
kept_record None = refl
kept_record (Some r) = refl

kept_either : {A : Type 0} (b : Bool) (a : A) → a ≡ (if b then a else a)
kept_either true a = refl
kept_either false a = refl

kept_net : (lent cancelled : ℕ) → (0 + lent) - (0 + cancelled) ≡ lent - cancelled
kept_net lent cancelled = omega arith

abbrev nets_by : ℕ → ℕ → ProgramNets
nets_by sub unsub = record { sub = sub; unsub = unsub }

kept_nets : (s t u v : ℕ) → nets_by ((0 + s) - (0 + t)) ((0 + u) - (0 + v)) ≡ nets_by (s - t) (u - v)
kept_nets s t u v = λ i. nets_by (kept_net s t i) (kept_net u v i)

-- ---- a loan, and a cancellation
lent_net : (b : Bool) (cents lent cancelled : ℕ) → cancelled ≤ lent → (if_passes b cents + lent) - (0 + cancelled) ≡ (lent - cancelled) + if_passes b cents
lent_net true cents lent cancelled h = omega arith
lent_net false cents lent cancelled h = omega arith

cancelled_net : (b : Bool) (cents lent cancelled : ℕ) → (0 + lent) - (if_passes b cents + cancelled) ≡ (lent - cancelled) - if_passes b cents
cancelled_net true cents lent cancelled = omega arith
cancelled_net false cents lent cancelled = omega arith

no_more : (n : ℕ) → n + 0 ≡ n
no_more n = omega arith

no_less : (n : ℕ) → n - 0 ≡ n
no_less n = omega arith

-- those that pass of a program's loan
with_passing : (b sub : Bool) (cents m n : ℕ) →
    nets_by (m + if_passes (b && sub) cents) (n + if_passes (b && (if sub then false else true)) cents) ≡ (if b then nets_with (nets_by m n) sub cents else nets_by m n)
with_passing true true cents m n = λ i. nets_by (m + cents) (no_more n i)
with_passing true false cents m n = λ i. nets_by (no_more m i) (n + cents)
with_passing false true cents m n = λ i. nets_by (no_more m i) (no_more n i)
with_passing false false cents m n = λ i. nets_by (no_more m i) (no_more n i)

without_passing : (b sub : Bool) (cents m n : ℕ) →
    nets_by (m - if_passes (b && sub) cents) (n - if_passes (b && (if sub then false else true)) cents) ≡ (if b then nets_without (nets_by m n) sub cents else nets_by m n)
without_passing true true cents m n = λ i. nets_by (m - cents) (no_less n i)
without_passing true false cents m n = λ i. nets_by (no_less m i) (n - cents)
without_passing false true cents m n = λ i. nets_by (no_less m i) (no_less n i)
without_passing false false cents m n = λ i. nets_by (no_less m i) (no_less n i)

lent_nets : (b sub : Bool) (cents s t u v : ℕ) → t ≤ s → v ≤ u →
    nets_by ((if_passes (b && sub) cents + s) - (0 + t)) ((if_passes (b && (if sub then false else true)) cents + u) - (0 + v))
    ≡ (if b then nets_with (nets_by (s - t) (u - v)) sub cents else nets_by (s - t) (u - v))
lent_nets b sub cents s t u v h k =
    (λ i. nets_by (lent_net (b && sub) cents s t h i) (lent_net (b && (if sub then false else true)) cents u v k i))
    ∙ with_passing b sub cents (s - t) (u - v)

cancelled_nets : (b sub : Bool) (cents s t u v : ℕ) →
    nets_by ((0 + s) - (if_passes (b && sub) cents + t)) ((0 + u) - (if_passes (b && (if sub then false else true)) cents + v))
    ≡ (if b then nets_without (nets_by (s - t) (u - v)) sub cents else nets_by (s - t) (u - v))
cancelled_nets b sub cents s t u v =
    (λ i. nets_by (cancelled_net (b && sub) cents s t i) (cancelled_net (b && (if sub then false else true)) cents u v i))
    ∙ without_passing b sub cents (s - t) (u - v)

-- ---- a student
abbrev student_by : Option BorrowerFacts → ℕ → Option BeforeFacts → ℕ → ProgramNets → StudentRow
student_by last before_at before loan_at nets = record { last = last; before_at = before_at; before = before; loan_at = loan_at; nets = nets }

module _ (past : List LoanFiling) (key : Key) (student : ℕ) where
  kept_nets_of_all : nets_by ((0 + lent past (in_all student true)) - (0 + cancelled past (in_all student true))) ((0 + lent past (in_all student false)) - (0 + cancelled past (in_all student false)))
      ≡ nets_of_all past student
  kept_nets_of_all = kept_nets (lent past (in_all student true)) (cancelled past (in_all student true)) (lent past (in_all student false)) (cancelled past (in_all student false))

  pub student_filed : (what : LoanWhat) → AreCovered past →
      student_row (filed key what ∷ past) student ≡ (if student_of what == student then student_after (length past + 1) what (student_row past student) else student_row past student)
  student_filed (Limits l) covered =
      (λ i. student_by (last_record past student) (kept_at (before_at past student) i) (kept_option (before past student) i) (kept_at (loan_at past student) i) (kept_nets_of_all i))
      ∙ kept_either (0 == student) (student_row past student)
  student_filed (Borrower r) covered =
      (λ i. student_by (earlier (if r.student == student then Some r else None) (last_record past student)) (kept_at (before_at past student) i) (kept_option (before past student) i) (kept_at (loan_at past student) i) (kept_nets_of_all i))
      ∙ go (r.student == student)
    where
      go : (b : Bool) →
          student_by (earlier (if b then Some r else None) (last_record past student)) (before_at past student) (before past student) (loan_at past student) (nets_of_all past student)
          ≡ (if b then student_after (length past + 1) (Borrower r) (student_row past student) else student_row past student)
      go true = refl
      go false = refl
  student_filed (Before x) covered =
      (λ i. student_by (last_record past student) (earlier_or (before_at past student) (if is_some (if x.student == student then Some x else None) then length past + 1 else 0))
      (earlier (before past student) (if x.student == student then Some x else None)) (kept_at (loan_at past student) i) (kept_nets_of_all i))
      ∙ go (x.student == student)
    where
      go : (b : Bool) →
          student_by (last_record past student) (earlier_or (before_at past student) (if is_some (if b then Some x else None) then length past + 1 else 0))
          (earlier (before past student) (if b then Some x else None)) (loan_at past student) (nets_of_all past student)
          ≡ (if b then student_after (length past + 1) (Before x) (student_row past student) else student_row past student)
      go true = refl
      go false = λ i. student_by (last_record past student) (kept_at (before_at past student) i) (kept_option (before past student) i) (loan_at past student) (nets_of_all past student)
  student_filed (Lend a) covered =
      (λ i. student_by (last_record past student) (kept_at (before_at past student) i) (kept_option (before past student) i) (earlier_or (loan_at past student) (if a.student == student then length past + 1 else 0))
      (lent_nets (a.student == student) (is_sub a.program) a.cents (lent past (in_all student true)) (cancelled past (in_all student true)) (lent past (in_all student false)) (cancelled past (in_all student false))
      (covered (λ s y p. (s == student) && same_program true p)) (covered (λ s y p. (s == student) && same_program false p)) i))
      ∙ go (a.student == student)
    where
      go : (b : Bool) →
          student_by (last_record past student) (before_at past student) (before past student) (earlier_or (loan_at past student) (if b then length past + 1 else 0))
          (if b then nets_with (nets_of_all past student) (is_sub a.program) a.cents else nets_of_all past student)
          ≡ (if b then student_after (length past + 1) (Lend a) (student_row past student) else student_row past student)
      go true = refl
      go false = λ i. student_by (last_record past student) (before_at past student) (before past student) (kept_at (loan_at past student) i) (nets_of_all past student)
  student_filed (Cancel a) covered =
      (λ i. student_by (last_record past student) (kept_at (before_at past student) i) (kept_option (before past student) i) (kept_at (loan_at past student) i)
      (cancelled_nets (a.student == student) (is_sub a.program) a.cents (lent past (in_all student true)) (cancelled past (in_all student true)) (lent past (in_all student false)) (cancelled past (in_all student false)) i))
      ∙ go (a.student == student)
    where
      go : (b : Bool) →
          student_by (last_record past student) (before_at past student) (before past student) (loan_at past student)
          (if b then nets_without (nets_of_all past student) (is_sub a.program) a.cents else nets_of_all past student)
          ≡ (if b then student_after (length past + 1) (Cancel a) (student_row past student) else student_row past student)
      go true = refl
      go false = refl

-- ---- a student's year
abbrev year_by : Option BorrowerFacts → ProgramNets → YearRow
year_by in_force nets = record { in_force = in_force; nets = nets }

grouped : (a b c : Bool) → (a && (b && c)) ≡ ((a && b) && c)
grouped true b c = refl
grouped false b c = refl

-- whether a filing is about a student's year
abbrev pub is_about : LoanWhat → StudentYear → Bool
is_about what name = (student_of what == name.student) && (year_of what == name.year)

module _ (past : List LoanFiling) (key : Key) (name : StudentYear) where
  pub year_filed : (what : LoanWhat) → AreCovered past →
      year_row (filed key what ∷ past) name ≡ (if is_about what name then year_after what (year_row past name) else year_row past name)
  year_filed (Limits l) covered =
      (λ i. year_by (kept_record (record_in past name.student name.year) i) (kept_nets (lent past (in_year name.student name.year true)) (cancelled past (in_year name.student name.year true)) (lent past (in_year name.student name.year false)) (cancelled past (in_year name.student name.year false)) i))
      ∙ kept_either (is_about (Limits l) name) (year_row past name)
  year_filed (Before x) covered =
      (λ i. year_by (kept_record (record_in past name.student name.year) i) (kept_nets (lent past (in_year name.student name.year true)) (cancelled past (in_year name.student name.year true)) (lent past (in_year name.student name.year false)) (cancelled past (in_year name.student name.year false)) i))
      ∙ kept_either (is_about (Before x) name) (year_row past name)
  year_filed (Borrower r) covered =
      (λ i. year_by (higher (record_in past name.student name.year) (if is_about (Borrower r) name then Some r else None)) (kept_nets (lent past (in_year name.student name.year true)) (cancelled past (in_year name.student name.year true)) (lent past (in_year name.student name.year false)) (cancelled past (in_year name.student name.year false)) i))
      ∙ go (is_about (Borrower r) name)
    where
      go : (b : Bool) →
          year_by (higher (record_in past name.student name.year) (if b then Some r else None)) (nets_of_year past name.student name.year)
          ≡ (if b then year_after (Borrower r) (year_row past name) else year_row past name)
      go true = refl
      go false = λ i. year_by (kept_record (record_in past name.student name.year) i) (nets_of_year past name.student name.year)
  year_filed (Lend a) covered =
      (λ i. year_by (kept_record (record_in past name.student name.year) i)
      (nets_by ((if_passes (grouped (a.student == name.student) (a.year == name.year) (is_sub a.program) i) a.cents + lent past (in_year name.student name.year true)) - (0 + cancelled past (in_year name.student name.year true)))
      ((if_passes (grouped (a.student == name.student) (a.year == name.year) (if is_sub a.program then false else true) i) a.cents + lent past (in_year name.student name.year false)) - (0 + cancelled past (in_year name.student name.year false)))))
      ∙ (λ i. year_by (record_in past name.student name.year)
      (lent_nets (is_about (Lend a) name) (is_sub a.program) a.cents (lent past (in_year name.student name.year true)) (cancelled past (in_year name.student name.year true)) (lent past (in_year name.student name.year false)) (cancelled past (in_year name.student name.year false))
      (covered (λ s y p. (s == name.student) && ((y == name.year) && same_program true p))) (covered (λ s y p. (s == name.student) && ((y == name.year) && same_program false p))) i))
      ∙ go (is_about (Lend a) name)
    where
      go : (b : Bool) →
          year_by (record_in past name.student name.year) (if b then nets_with (nets_of_year past name.student name.year) (is_sub a.program) a.cents else nets_of_year past name.student name.year)
          ≡ (if b then year_after (Lend a) (year_row past name) else year_row past name)
      go true = refl
      go false = refl
  year_filed (Cancel a) covered =
      (λ i. year_by (kept_record (record_in past name.student name.year) i)
      (nets_by ((0 + lent past (in_year name.student name.year true)) - (if_passes (grouped (a.student == name.student) (a.year == name.year) (is_sub a.program) i) a.cents + cancelled past (in_year name.student name.year true)))
      ((0 + lent past (in_year name.student name.year false)) - (if_passes (grouped (a.student == name.student) (a.year == name.year) (if is_sub a.program then false else true) i) a.cents + cancelled past (in_year name.student name.year false)))))
      ∙ (λ i. year_by (record_in past name.student name.year)
      (cancelled_nets (is_about (Cancel a) name) (is_sub a.program) a.cents (lent past (in_year name.student name.year true)) (cancelled past (in_year name.student name.year true)) (lent past (in_year name.student name.year false)) (cancelled past (in_year name.student name.year false)) i))
      ∙ go (is_about (Cancel a) name)
    where
      go : (b : Bool) →
          year_by (record_in past name.student name.year) (if b then nets_without (nets_of_year past name.student name.year) (is_sub a.program) a.cents else nets_of_year past name.student name.year)
          ≡ (if b then year_after (Cancel a) (year_row past name) else year_row past name)
      go true = refl
      go false = refl
