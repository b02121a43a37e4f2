-- What a filing more makes of the rows.
use Rattle.std.specs.Prelude.{◌≡◌, ℕ, ◌∷◌, List, Option, Some, None, cond}
use Rattle.std.specs.Ordering.{is_eq, nat_cmp}
use Rattle.std.specs.declared.cmp.Ordering.{Ordering}
use Rattle.aid_filings.specs.declared.filing.Filing.{Filing}
use Rattle.office_history.specs.Rows.{place_row, school_row, school_year_row, student_row, year_row}
use Rattle.office_history.specs.declared.rows.PlaceRow.{PlaceRow}
use Rattle.office_history.specs.declared.rows.SchoolRow.{SchoolRow}
use Rattle.office_history.specs.declared.rows.SchoolYearRow.{SchoolYearRow}
use Rattle.office_history.specs.declared.rows.StudentRow.{StudentRow}
use Rattle.office_history.specs.declared.rows.YearRow.{YearRow}
use Rattle.office_history.specs.declared.names.StudentPlace.{StudentPlace}
use Rattle.office_history.specs.declared.names.StudentSchoolYear.{StudentSchoolYear}
use Rattle.office_history.specs.declared.names.StudentYear.{StudentYear}
use Rattle.office_history.specs.Names.{place_cmp, school_year_cmp, year_cmp}

-- the row of a name: the one that is written, where it has this name, or else the one from before
abbrev pub after : {K V : Type 0} → (K → K → Ordering) → Option (K × V) → K → V → V
after cmp None name before = before
after cmp (Some written) name before = cond (is_eq (cmp written.0 name)) written.1 before

-- the row that is written is the one row that a filing changes
abbrev pub IsSchoolAfter : List Filing → Filing → Option (ℕ × SchoolRow) → Type 0
IsSchoolAfter past f written = (code : ℕ) → school_row (f ∷ past) code ≡ after nat_cmp written code (school_row past code)

abbrev pub IsStudentAfter : List Filing → Filing → Option (ℕ × StudentRow) → Type 0
IsStudentAfter past f written = (student : ℕ) → student_row (f ∷ past) student ≡ after nat_cmp written student (student_row past student)

abbrev pub IsYearAfter : List Filing → Filing → Option (StudentYear × YearRow) → Type 0
IsYearAfter past f written = (student year : ℕ) →
    year_row (f ∷ past) student year ≡ after year_cmp written (record { student = student; year = year }) (year_row past student year)

abbrev pub IsSchoolYearAfter : List Filing → Filing → Option (StudentSchoolYear × SchoolYearRow) → Type 0
IsSchoolYearAfter past f written = (school student year : ℕ) →
    school_year_row (f ∷ past) school student year
    ≡ after school_year_cmp written (record { student = student; school = school; year = year }) (school_year_row past school student year)

abbrev pub IsPlaceAfter : List Filing → Filing → Option (StudentPlace × PlaceRow) → Type 0
IsPlaceAfter past f written = (school student year term : ℕ) →
    place_row (f ∷ past) school student year term
    ≡ after place_cmp written (record { student = student; school = school; year = year; term = term }) (place_row past school student year term)
