-- The names of the rows that a filing may change.
use Rattle.std.specs.Prelude.{◌≡◌, ℕ, List, Option, Some, None}
use Rattle.aid_filings.specs.declared.filing.Filing.{Filing}
use Rattle.aid_filings.specs.declared.filing.What.{What}
use Rattle.aid_filings.specs.declared.filing.What.TheVariants.{Adjust, Apply, Cost, Enroll, Originate, Pay, Prior, Repay, Sent, Withdraw}
use Rattle.office_history.specs.Names.{place_name}
use Rattle.office_history.specs.Rows.{place_row, school_year_row, student_row, year_row}
use Rattle.office_history.specs.declared.names.StudentPlace.{StudentPlace}
use Rattle.office_history.specs.declared.names.StudentSchoolYear.{StudentSchoolYear}
use Rattle.office_history.specs.declared.names.StudentYear.{StudentYear}
use Rattle.office_history.specs.declared.rows.PlaceRow.{PlaceRow}
use Rattle.office_history.specs.declared.rows.SchoolYearRow.{SchoolYearRow}
use Rattle.office_history.specs.declared.rows.StudentRow.{StudentRow}
use Rattle.office_history.specs.declared.rows.YearRow.{YearRow}

-- a student's term at a school: that of an enrollment, or that in which money moves or was sent back
abbrev pub place_changed : ℕ → What → Option StudentPlace
place_changed school (Enroll e) = Some (place_name school e)
place_changed school (Pay a) = Some (record { student = a.student; school = school; year = a.year; term = a.term })
place_changed school (Withdraw w) = Some (record { student = w.student; school = school; year = w.year; term = w.term })
place_changed school (Repay a) = Some (record { student = a.student; school = school; year = a.year; term = a.term })
place_changed school (Adjust a) = Some (record { student = a.student; school = school; year = a.year; term = a.term })
place_changed school (Sent s) = Some (record { student = s.student; school = school; year = s.year; term = s.term })
place_changed school _ = None

-- a student's year: that of an application, or that in which money moves
abbrev pub year_changed : What → Option StudentYear
year_changed (Apply a) = Some (record { student = a.student; year = a.year })
year_changed (Pay a) = Some (record { student = a.student; year = a.year })
year_changed (Withdraw w) = Some (record { student = w.student; year = w.year })
year_changed (Repay a) = Some (record { student = a.student; year = a.year })
year_changed (Adjust a) = Some (record { student = a.student; year = a.year })
year_changed _ = None

-- a student's year at a school: that of a cost of attendance, or that in which money moves
abbrev pub school_year_changed : ℕ → What → Option StudentSchoolYear
school_year_changed school (Originate o) = Some (record { student = o.student; school = school; year = o.year })
school_year_changed school (Pay a) = Some (record { student = a.student; school = school; year = a.year })
school_year_changed school (Withdraw w) = Some (record { student = w.student; school = school; year = w.year })
school_year_changed school (Repay a) = Some (record { student = a.student; school = school; year = a.year })
school_year_changed school (Adjust a) = Some (record { student = a.student; school = school; year = a.year })
school_year_changed school (Cost o) = Some (record { student = o.student; school = school; year = o.year })
school_year_changed school _ = None

-- a student: of a prior use, of an application, of an enrollment, or to whom money moves
abbrev pub student_changed : What → Option ℕ
student_changed (Prior p) = Some p.student
student_changed (Apply a) = Some a.student
student_changed (Enroll e) = Some e.student
student_changed (Pay a) = Some a.student
student_changed (Withdraw w) = Some w.student
student_changed (Repay a) = Some a.student
student_changed (Adjust a) = Some a.student
student_changed _ = None

-- the row of that name as it stands before the filing, where one is named
abbrev pub IsPlaceBefore : List Filing → Filing → PlaceRow → Type 0
IsPlaceBefore past f before =
    (name : StudentPlace) → place_changed f.key.school f.what ≡ Some name → before ≡ place_row past name.school name.student name.year name.term

abbrev pub IsYearBefore : List Filing → Filing → YearRow → Type 0
IsYearBefore past f before = (name : StudentYear) → year_changed f.what ≡ Some name → before ≡ year_row past name.student name.year

abbrev pub IsSchoolYearBefore : List Filing → Filing → SchoolYearRow → Type 0
IsSchoolYearBefore past f before =
    (name : StudentSchoolYear) → school_year_changed f.key.school f.what ≡ Some name → before ≡ school_year_row past name.school name.student name.year

abbrev pub IsStudentBefore : List Filing → Filing → StudentRow → Type 0
IsStudentBefore past f before = (student : ℕ) → student_changed f.what ≡ Some student → before ≡ student_row past student
