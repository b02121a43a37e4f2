-- The first enrollment of a student in each term at a school: later ones in that term only give other credits.
use Rattle.std.specs.Prelude.{ℕ, ◌==◌, ◌&&◌, Bool, false, List, [], ◌∷◌, length, is_some, not, if◌then◌else◌}
use Rattle.std.specs.List.{list_any}
use Rattle.aid_filings.specs.declared.filing.EnrollFacts.{EnrollFacts}
use Rattle.aid_filings.specs.declared.filing.Filing.{Filing}
use Rattle.aid_filings.specs.declared.filing.What.{What}
use Rattle.aid_filings.specs.declared.filing.What.TheVariants.{Enroll}
use Rattle.office_history.specs.Past.{at_school, credits_in}

-- a filing enrolls the student in the term at the school
abbrev pub enrolls_in : ℕ → ℕ → ℕ → ℕ → Filing → Bool
enrolls_in school student year term f = is_some (at_school school (credits_in student year term) f)

-- an enrollment after these filings is the student's first in its term at the school
abbrev pub is_first : List Filing → ℕ → EnrollFacts → Bool
is_first past school e = not (list_any (enrolls_in school e.student e.year e.term) past)

abbrev pub is_first_in : ℕ → List Filing → ℕ → What → Bool
is_first_in student past school (Enroll e) = e.student == student && is_first past school e
is_first_in student past school _ = false

abbrev pub is_first_of : ℕ → List Filing → Filing → Bool
is_first_of student past f = is_first_in student past f.key.school f.what

-- the filings that pass after those before them, the newest first
abbrev pub passing : (List Filing → Filing → Bool) → List Filing → List Filing
passing p [] = []
passing p (f ∷ past) = if p past f then f ∷ passing p past else passing p past

-- the first enrollments of a student, and how many there are: in so many terms at schools the student is enrolled
abbrev pub first_enrollments : List Filing → ℕ → List Filing
first_enrollments past student = passing (is_first_of student) past

abbrev pub places_of : List Filing → ℕ → ℕ
places_of past student = length (first_enrollments past student)
