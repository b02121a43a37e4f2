-- A table tells what is on file with a filing more, once the row that the filing is about is written.
use Rattle.std.proofs.Common.{◌≡◌, ℕ, ◌+◌, Bool, true, false, cond, List, ◌∷◌, length, Option, Some, refl, sym, ap, ◌∙◌, eqb-true}
use Rattle.std.specs.Prelude.{◌==◌, ◌&&◌, if◌then◌else◌}
use Rattle.std.specs.Cmp.{both_tied, unsigned_tied}
use Rattle.std.specs.Ordering.{is_eq, nat_cmp}
use Rattle.std.specs.declared.cmp.Ordering.{Ordering}
use Rattle.std.proofs.lemmas.Bool.{and_parts}
use Rattle.sorted_rows.specs.Places.{IsWritten, value_at}
use Rattle.law_loans.specs.declared.filing.LoanFiling.{LoanFiling}
use Rattle.law_loans.specs.Rules.{student_of, year_of}
use Rattle.law_loans.specs.Changes.{AreCovered, student_after, year_after}
use Rattle.law_loans.specs.Rows.{AreStudents, AreYears, student_or, student_row, year_cmp, year_or, year_row}
use Rattle.law_loans.specs.declared.names.StudentYear.{StudentYear}
use Rattle.law_loans.specs.declared.rows.StudentRow.{StudentRow}
use Rattle.law_loans.specs.declared.rows.YearRow.{YearRow}
use Rattle.law_loans.proofs.Steps.{student_filed, year_filed}

-- a name's row is changed, and every other row stays
table_after : {K V : Type 0} (cmp : K → K → Ordering) (same : K → K → Bool) → ((a b : K) → is_eq (cmp a b) ≡ same a b) → ((a b : K) → same a b ≡ true → a ≡ b) →
    (tell : Option V → V) → ((v : V) → tell (Some v) ≡ v) → (key : K) (row : V) (change : V → V) (old new : List (K × V)) (before after : K → V) →
    IsWritten cmp key row old new → row ≡ change (tell (value_at cmp key old)) → ((name : K) → tell (value_at cmp name old) ≡ before name) →
    ((name : K) → after name ≡ (if same key name then change (before name) else before name)) → (name : K) → tell (value_at cmp name new) ≡ after name
table_after {K} {V} cmp same tied told tell some key row change old new before after written changed tells steps name =
    ap tell (written name) ∙ either (is_eq (cmp key name)) ∙ ap (λ (b : Bool). cond b row (before name)) (tied key name) ∙ here (same key name) refl ∙ sym (steps name)
  where
    either : (b : Bool) → tell (cond b (Some row) (value_at cmp name old)) ≡ cond b row (before name)
    either true = some row
    either false = tells name

    here : (b : Bool) → same key name ≡ b → cond b row (before name) ≡ (if b then change (before name) else before name)
    here true e = changed ∙ ap change (tells key) ∙ ap (λ (k : K). change (before k)) (told key name e)
    here false e = refl

same_number : (a b : ℕ) → (a == b) ≡ true → a ≡ b
same_number a b h = eqb-true a b h

-- two names of a student's year
abbrev is_same : StudentYear → StudentYear → Bool
is_same a b = (a.student == b.student) && (a.year == b.year)

year_tied : (a b : StudentYear) → is_eq (year_cmp a b) ≡ is_same a b
year_tied a b = sym (both_tied _ _ _ _ (sym (unsigned_tied a.student b.student)) (sym (unsigned_tied a.year b.year)))

same_year : (a b : StudentYear) → is_same a b ≡ true → a ≡ b
same_year a b h =
    let both = and_parts (a.student == b.student) (a.year == b.year) h in
    let student : a.student ≡ b.student = eqb-true a.student b.student both.0 in
    let year : a.year ≡ b.year = eqb-true a.year b.year both.1 in
    λ i. record { student = student i; year = year i }

-- ---- a student's row
pub student_written : (past : List LoanFiling) (f : LoanFiling) (student : ℕ) (row : StudentRow) (position : ℕ) (old new : List (ℕ × StudentRow)) → student ≡ student_of f.what →
    IsWritten nat_cmp student row old new → row ≡ student_after position f.what (student_or (value_at nat_cmp student old)) → position ≡ length past + 1 → AreCovered past →
    AreStudents past old → AreStudents (f ∷ past) new
student_written past f student row position old new is written changed here covered told =
    table_after nat_cmp (λ a b. a == b) unsigned_tied same_number student_or (λ v. refl) student row (student_after position f.what) old new (student_row past) (student_row (f ∷ past))
    written changed told
    (λ name. student_filed past f.key name f.what covered
    ∙ (λ i. if sym is i == name then student_after (sym here i) f.what (student_row past name) else student_row past name))

-- ---- the row of a student's year
pub year_written : (past : List LoanFiling) (f : LoanFiling) (key : StudentYear) (row : YearRow) (old new : List (StudentYear × YearRow)) →
    key ≡ (record { student = student_of f.what; year = year_of f.what }) →
    IsWritten year_cmp key row old new → row ≡ year_after f.what (year_or (value_at year_cmp key old)) → AreCovered past →
    AreYears past old → AreYears (f ∷ past) new
year_written past f key row old new is written changed covered told =
    table_after year_cmp is_same year_tied same_year year_or (λ v. refl) key row (year_after f.what) old new (year_row past) (year_row (f ∷ past))
    written changed told
    (λ name. year_filed past f.key name f.what covered
    ∙ (λ i. if is_same (sym is i) name then year_after f.what (year_row past name) else year_row past name))
