-- Names of rows: which row a name tells, and what it takes that a row which is written is right.
use Rattle.std.proofs.Common.{◌≡◌, ℕ, refl, sym, ◌∙◌, cond, Bool, true, false, ◌&&◌, List, ◌∷◌, Some, eqb-true}
use Rattle.std.specs.Prelude.{◌==◌}
use Rattle.std.specs.Cmp.{both_tied, unsigned_tied}
use Rattle.std.specs.Ordering.{is_eq}
use Rattle.std.proofs.lemmas.Bool.{and_parts}
use Rattle.aid_filings.specs.declared.filing.Filing.{Filing}
use Rattle.office_history.specs.Rows.{place_row, school_year_row}
use Rattle.office_history.specs.declared.rows.PlaceRow.{PlaceRow}
use Rattle.office_history.specs.declared.rows.SchoolYearRow.{SchoolYearRow}
use Rattle.office_updates.specs.After.{IsPlaceAfter, IsSchoolYearAfter}
use Rattle.office_history.specs.Names.{place_cmp, school_year_cmp}
use Rattle.office_history.specs.declared.names.StudentPlace.{StudentPlace}
use Rattle.office_history.specs.declared.names.StudentSchoolYear.{StudentSchoolYear}

-- two names of a student's terms at schools, or of his years there, name the same
abbrev pub is_at : StudentPlace → StudentPlace → Bool
is_at own asked = own.school == asked.school && (own.student == asked.student && (own.year == asked.year && own.term == asked.term))

abbrev pub is_in : StudentSchoolYear → StudentSchoolYear → Bool
is_in own asked = own.school == asked.school && (own.student == asked.student && own.year == asked.year)

swapped : (a b c : Bool) → (a && (b && c)) ≡ (b && (a && c))
swapped true true c = refl
swapped true false c = refl
swapped false true c = refl
swapped false false c = refl

-- so do their orders tell
pub place-same : (own asked : StudentPlace) → is_eq (place_cmp own asked) ≡ is_at own asked
place-same own asked =
    sym (both_tied _ _ _ _ (sym (unsigned_tied own.student asked.student))
    (both_tied _ _ _ _ (sym (unsigned_tied own.school asked.school))
    (both_tied _ _ _ _ (sym (unsigned_tied own.year asked.year)) (sym (unsigned_tied own.term asked.term)))))
    ∙ swapped (own.student == asked.student) (own.school == asked.school) (own.year == asked.year && own.term == asked.term)

school_year-same : (own asked : StudentSchoolYear) → is_eq (school_year_cmp own asked) ≡ is_in own asked
school_year-same own asked =
    sym (both_tied _ _ _ _ (sym (unsigned_tied own.student asked.student))
    (both_tied _ _ _ _ (sym (unsigned_tied own.school asked.school)) (sym (unsigned_tied own.year asked.year))))
    ∙ swapped (own.student == asked.student) (own.school == asked.school) (own.year == asked.year)

-- what a name tells of its parts holds of the same name's
same_four : {A : Type 0} (g : ℕ → ℕ → ℕ → ℕ → A) (a b c d a' b' c' d' : ℕ) → a ≡ a' → b ≡ b' → c ≡ c' → d ≡ d' → g a b c d ≡ g a' b' c' d'
same_four g a b c d a' b' c' d' p q r s = rw (p, q, r, s) refl

pub at_place : {A : Type 0} (g : ℕ → ℕ → ℕ → ℕ → A) (own asked : StudentPlace) → is_at own asked ≡ true →
    g own.school own.student own.year own.term ≡ g asked.school asked.student asked.year asked.term
at_place g own asked h =
    let p = and_parts (own.school == asked.school) _ h in
    let q = and_parts (own.student == asked.student) _ p.1 in
    let r = and_parts (own.year == asked.year) (own.term == asked.term) q.1 in
    same_four g own.school own.student own.year own.term asked.school asked.student asked.year asked.term
    (eqb-true _ _ p.0) (eqb-true _ _ q.0) (eqb-true _ _ r.0) (eqb-true _ _ r.1)

in_school_year : {A : Type 0} (g : ℕ → ℕ → ℕ → A) (own asked : StudentSchoolYear) → is_in own asked ≡ true →
    g own.school own.student own.year ≡ g asked.school asked.student asked.year
in_school_year g own asked h =
    let p = and_parts (own.school == asked.school) _ h in
    let q = and_parts (own.student == asked.student) (own.year == asked.year) p.1 in
    same_four (λ school student year none. g school student year) own.school own.student own.year 0 asked.school asked.student asked.year 0
    (eqb-true _ _ p.0) (eqb-true _ _ q.0) (eqb-true _ _ q.1) refl

-- what it takes that a row which a filing writes is right: it is the one of its own name, and no other row changes
pub record IsPlaceWritten (past : List Filing) (f : Filing) (own : StudentPlace) (row : PlaceRow) : Type 0 where
  pub here : place_row (f ∷ past) own.school own.student own.year own.term ≡ row
  pub elsewhere : (asked : StudentPlace) → is_at own asked ≡ false →
      place_row (f ∷ past) asked.school asked.student asked.year asked.term ≡ place_row past asked.school asked.student asked.year asked.term

pub record IsSchoolYearWritten (past : List Filing) (f : Filing) (own : StudentSchoolYear) (row : SchoolYearRow) : Type 0 where
  pub here : school_year_row (f ∷ past) own.school own.student own.year ≡ row
  pub elsewhere : (asked : StudentSchoolYear) → is_in own asked ≡ false →
      school_year_row (f ∷ past) asked.school asked.student asked.year ≡ school_year_row past asked.school asked.student asked.year

-- of two rows the one that a test picks
pub picked : {A : Type 0} (b : Bool) (x y z : A) → (b ≡ true → z ≡ x) → (b ≡ false → z ≡ y) → z ≡ cond b x y
picked true x y z h k = h refl
picked false x y z h k = k refl

pub place_written : (past : List Filing) (f : Filing) (own : StudentPlace) (row : PlaceRow) → IsPlaceWritten past f own row → IsPlaceAfter past f (Some (own, row))
place_written past f own row w school student year term =
    let asked : StudentPlace = record { student = student; school = school; year = year; term = term } in
    picked (is_eq (place_cmp own asked)) row (place_row past school student year term) (place_row (f ∷ past) school student year term)
    (λ e. sym (at_place (place_row (f ∷ past)) own asked (sym (place-same own asked) ∙ e)) ∙ w.here)
    (λ e. w.elsewhere asked (sym (place-same own asked) ∙ e))

pub school_year_written : (past : List Filing) (f : Filing) (own : StudentSchoolYear) (row : SchoolYearRow) →
    IsSchoolYearWritten past f own row → IsSchoolYearAfter past f (Some (own, row))
school_year_written past f own row w school student year =
    let asked : StudentSchoolYear = record { student = student; school = school; year = year } in
    picked (is_eq (school_year_cmp own asked)) row (school_year_row past school student year) (school_year_row (f ∷ past) school student year)
    (λ e. sym (in_school_year (school_year_row (f ∷ past)) own asked (sym (school_year-same own asked) ∙ e)) ∙ w.here)
    (λ e. w.elsewhere asked (sym (school_year-same own asked) ∙ e))
