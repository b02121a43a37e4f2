-- The cells that a net is of.
use Rattle.std.specs.Prelude.{ℕ, ◌==◌, ◌&&◌, Bool, List, not, slice_index, sum}
use Rattle.aid_types.specs.Programs.{rank}
use Rattle.aid_filings.specs.declared.filing.Filing.{Filing}
use Rattle.office_history.specs.Net.{Cell, in_year, in_main_terms, at_school_in_year}
use Rattle.office_history.specs.Past.{is_extra, the_term}
use Rattle.office_plain.specs.declared.moved.Cells.{Cells}
use Rattle.office_plain.specs.declared.moved.Cells.TheVariants.{InYear, InMainTerms, AtSchool}
use Rattle.office_history.specs.declared.place.Place.{Place}

-- the test that a cell passes; which terms are main ones is told by a history
abbrev pub test_of : List Filing → Cells → Cell → Bool
test_of past (InYear student year program) = in_year student year (rank program)
test_of past (InMainTerms student year) = in_main_terms past student year 3
test_of past (AtSchool school student year) = at_school_in_year school student year

-- whether some of them are of a student's term at a school
abbrev pub are_at : List Filing → Cells → Place → Bool
are_at past (InYear student year program) p = p.student == student && p.year == year
are_at past (InMainTerms student year) p = p.student == student && (p.year == year && not (is_extra (the_term past p.school p.year p.term)))
are_at past (AtSchool school student year) p = p.school == school && (p.student == student && p.year == year)

-- what of such a term's amounts by program stands at them
abbrev pub cents_of : Cells → List ℕ → ℕ
cents_of (InYear student year program) amounts = slice_index amounts (rank program)
cents_of (InMainTerms student year) amounts = slice_index amounts 3
cents_of (AtSchool school student year) amounts = sum amounts
