-- The names of rows, and their orders.
use Rattle.std.specs.Ordering.{nat_cmp, ordering_then}
use Rattle.std.specs.declared.cmp.Ordering.{Ordering}
use Rattle.office_history.specs.declared.names.StudentPlace.{StudentPlace}
use Rattle.office_history.specs.declared.names.StudentSchoolYear.{StudentSchoolYear}
use Rattle.office_history.specs.declared.names.StudentYear.{StudentYear}
use Rattle.std.specs.Prelude.{ℕ}
use Rattle.aid_filings.specs.declared.filing.EnrollFacts.{EnrollFacts}

-- the orders of the names of rows: by the first of their parts, then by the next
abbrev pub year_cmp : StudentYear → StudentYear → Ordering
year_cmp a b = ordering_then (nat_cmp a.student b.student) (nat_cmp a.year b.year)

abbrev pub school_year_cmp : StudentSchoolYear → StudentSchoolYear → Ordering
school_year_cmp a b = ordering_then (nat_cmp a.student b.student) (ordering_then (nat_cmp a.school b.school) (nat_cmp a.year b.year))

abbrev pub place_cmp : StudentPlace → StudentPlace → Ordering
place_cmp a b =
    ordering_then (nat_cmp a.student b.student)
    (ordering_then (nat_cmp a.school b.school) (ordering_then (nat_cmp a.year b.year) (nat_cmp a.term b.term)))

-- the name of the place that an enrollment by a school is in
abbrev pub place_name : ℕ → EnrollFacts → StudentPlace
place_name school e = record { student = e.student; school = school; year = e.year; term = e.term }
