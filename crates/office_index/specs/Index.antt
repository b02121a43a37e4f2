-- What the rows of an index tell of a history.
use Rattle.std.specs.Prelude.{◌≡◌, ℕ, zero, suc, ◌≤◌, List, cond, length, Option, Some, None}
use Rattle.std.specs.Ordering.{is_eq, nat_cmp, ordering_then}
use Rattle.std.specs.declared.cmp.Ordering.{Ordering}
use Rattle.sorted_rows.specs.Places.{value_at}
use Rattle.aid_books.specs.declared.book.Book.{Book}
use Rattle.aid_filings.specs.declared.filing.EnrollFacts.{EnrollFacts}
use Rattle.aid_filings.specs.declared.filing.Filing.{Filing}
use Rattle.aid_filings.specs.declared.filing.What.{What}
use Rattle.aid_filings.specs.declared.filing.What.TheVariants.{Book as BookFiled, Enroll}
use Rattle.aid_filings.specs.declared.reply.Outcome.{Outcome}
use Rattle.aid_types.specs.Programs.{six}
use Rattle.aid_types.specs.declared.number.Key.{Key}
use Rattle.law_pell.specs.Award.{no_ceiling}
use Rattle.office_history.specs.Answer.{IsLegal}
use Rattle.office_history.specs.Positions.{book_at}
use Rattle.office_history.specs.Past.{key_at}
use Rattle.office_history.specs.Rows.{school_row, school_year_row, student_row, year_row}
use Rattle.office_history.specs.declared.rows.PlaceRow.{PlaceRow}
use Rattle.office_history.specs.declared.rows.SchoolYearRow.{SchoolYearRow}
use Rattle.office_history.specs.declared.rows.YearRow.{YearRow}
use Rattle.office_history.specs.declared.rows.StudentRow.{StudentRow}
use Rattle.office_updates.specs.After.{IsPlaceAfter, IsSchoolAfter, IsSchoolYearAfter, IsStudentAfter, IsYearAfter}
use Rattle.office_updates.specs.Changed.{place_changed, school_year_changed, student_changed, year_changed}
use Rattle.office_history.specs.Names.{school_year_cmp, year_cmp, place_name}
use Rattle.office_updates.specs.Links.{AreLinked, newest_place, newest_term}
use Rattle.office_index.specs.Register.{outcomes_of}
use Rattle.office_index.specs.declared.entries.SchoolEntry.{SchoolEntry}
use Rattle.office_index.specs.declared.entries.StudentEntry.{StudentEntry}
use Rattle.office_updates.specs.declared.links.EnrollmentLink.{EnrollmentLink}
use Rattle.office_index.specs.declared.entries.FilingNumber.{FilingNumber}
use Rattle.office_history.specs.declared.names.StudentPlace.{StudentPlace}
use Rattle.office_history.specs.declared.names.StudentSchoolYear.{StudentSchoolYear}
use Rattle.office_history.specs.declared.names.StudentYear.{StudentYear}
use Rattle.office_index.specs.declared.written.Written.{Written}
use Rattle.office_updates.specs.Placed.{ArePlaces}

-- the order of filings' names, and the name of a key
abbrev pub filing_cmp : FilingNumber → FilingNumber → Ordering
filing_cmp a b = ordering_then (nat_cmp a.number b.number) (nat_cmp a.school b.school)

abbrev pub filing_name : Key → FilingNumber
filing_name key = record { number = key.number; school = key.school }

-- the book that is filed
abbrev pub book_filed : What → Option Book
book_filed (BookFiled b) = Some b
book_filed _ = None

-- what a row tells, and what is told where there is none
abbrev pub position_or : Option ℕ → ℕ
position_or None = 0
position_or (Some position) = position

-- the row of a position: none where there is no filing
abbrev pub position_of : ℕ → Option ℕ
position_of zero = None
position_of (suc n) = Some (suc n)

abbrev pub school_or : Option SchoolEntry → SchoolEntry
school_or None = record { row = record { at = 0; terms = 0; full = 0 }; newest = 0 }
school_or (Some entry) = entry

abbrev pub student_or : Option StudentEntry → StudentEntry
student_or None = record { row = record { prior_at = 0; pell_at = 0; used = 0 }; newest = 0 }
student_or (Some entry) = entry

abbrev pub year_or : Option YearRow → YearRow
year_or None = record { transaction = 0; application_at = 0; scheduled = 0; ceiling = no_ceiling; nets = six (λ p. 0); main = 0 }
year_or (Some row) = row

abbrev pub school_year_or : Option SchoolYearRow → SchoolYearRow
school_year_or None = record { cost_at = 0; cost = 0; net = 0 }
school_year_or (Some row) = row

-- the value of a name once a row is written: the row's, where it has this name
abbrev pub written_or : {K V : Type 0} → (K → K → Ordering) → Option (K × V) → K → Option V → Option V
written_or cmp None name before = before
written_or cmp (Some row) name before = cond (is_eq (cmp row.0 name)) (Some row.1) before

-- a school with its newest term, and a student with the newest enrollment that is the first in its term at the school
abbrev pub school_entry : List Filing → ℕ → SchoolEntry
school_entry past code = record { row = school_row past code; newest = newest_term past code }

abbrev pub student_entry : List Filing → ℕ → StudentEntry
student_entry past student = record { row = student_row past student; newest = newest_place past student }

-- the rows of each table tell what is on file
abbrev pub AreKeys : List Filing → List (FilingNumber × ℕ) → Type 0
AreKeys past rows = (key : Key) → value_at filing_cmp (filing_name key) rows ≡ position_of (key_at key past)

abbrev pub AreBooks : List Filing → List (ℕ × ℕ) → Type 0
AreBooks past rows = (year : ℕ) → position_or (value_at nat_cmp year rows) ≡ book_at past year

abbrev pub AreSchools : List Filing → List (ℕ × SchoolEntry) → Type 0
AreSchools past rows = (code : ℕ) → school_or (value_at nat_cmp code rows) ≡ school_entry past code

abbrev pub AreStudents : List Filing → List (ℕ × StudentEntry) → Type 0
AreStudents past rows = (student : ℕ) → student_or (value_at nat_cmp student rows) ≡ student_entry past student

abbrev pub AreYears : List Filing → List (StudentYear × YearRow) → Type 0
AreYears past rows = (student year : ℕ) →
    year_or (value_at year_cmp (record { student = student; year = year }) rows) ≡ year_row past student year

abbrev pub AreSchoolYears : List Filing → List (StudentSchoolYear × SchoolYearRow) → Type 0
AreSchoolYears past rows = (school student year : ℕ) →
    school_year_or (value_at school_year_cmp (record { student = student; school = school; year = year }) rows)
    ≡ school_year_row past school student year

-- the rows that a filing writes are those that it changes, under the names of those that it may change
pub record IsWrittenBy (past : List Filing) (f : Filing) (w : Written) : Type 0 where
  pub school : IsSchoolAfter past f w.school
  pub student : IsStudentAfter past f w.student
  pub place : IsPlaceAfter past f w.place
  pub year : IsYearAfter past f w.year
  pub school_year : IsSchoolYearAfter past f w.school_year
  pub student_named : (student : ℕ) (row : StudentRow) → w.student ≡ Some (student, row) → student_changed f.what ≡ Some student
  pub place_named : (name : StudentPlace) (row : PlaceRow) → w.place ≡ Some (name, row) → place_changed f.key.school f.what ≡ Some name
  pub year_named : (name : StudentYear) (row : YearRow) → w.year ≡ Some (name, row) → year_changed f.what ≡ Some name
  pub school_year_named : (name : StudentSchoolYear) (row : SchoolYearRow) → w.school_year ≡ Some (name, row) → school_year_changed f.key.school f.what ≡ Some name
  pub enrolled : (e : EnrollFacts) → f.what ≡ Enroll e → (row : PlaceRow) × (w.place ≡ Some (place_name f.key.school e, row))

-- the rows of an index
pub record IndexRows : Type 0 where
  pub keys : List (FilingNumber × ℕ)
  pub books : List (ℕ × ℕ)
  pub schools : List (ℕ × SchoolEntry)
  pub students : List (ℕ × StudentEntry)
  pub places : List (StudentPlace × PlaceRow)
  pub years : List (StudentYear × YearRow)
  pub school_years : List (StudentSchoolYear × SchoolYearRow)
  pub befores : List ℕ
  pub links : List EnrollmentLink

-- they tell what is on file; there are as many keys as filings, and no table has more rows
pub record IsIndexed (past : List Filing) (outcomes : List Outcome) (rows : IndexRows) : Type 0 where
  pub legal : IsLegal past
  pub outcomes_kept : outcomes ≡ outcomes_of past
  pub keys : AreKeys past rows.keys
  pub books : AreBooks past rows.books
  pub schools : AreSchools past rows.schools
  pub students : AreStudents past rows.students
  pub places : ArePlaces past rows.places
  pub years : AreYears past rows.years
  pub school_years : AreSchoolYears past rows.school_years
  pub links : AreLinked past rows.places rows.befores rows.links
  pub all_keys : length rows.keys ≡ length past
  pub few_books : length rows.books ≤ length past
  pub few_schools : length rows.schools ≤ length past
  pub few_students : length rows.students ≤ length past
  pub few_places : length rows.places ≤ length past
  pub few_years : length rows.years ≤ length past
  pub few_school_years : length rows.school_years ≤ length past
