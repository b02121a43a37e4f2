-- Of each term of a school, and of each first enrollment of a student in a term, where the one before it stands; and the links of
-- enrollments.
use Rattle.std.specs.Prelude.{◌≡◌, ℕ, ◌+◌, ◌==◌, Bool, true, false, List, [], ◌∷◌, ◌++◌, length, reverse, Some, if◌then◌else◌}
use Rattle.std.specs.List.{slice_get}
use Rattle.aid_filings.specs.declared.filing.EnrollFacts.{EnrollFacts}
use Rattle.aid_filings.specs.declared.filing.Filing.{Filing}
use Rattle.aid_filings.specs.declared.filing.What.{What}
use Rattle.aid_filings.specs.declared.filing.What.TheVariants.{Calendar, Enroll}
use Rattle.office_history.specs.Answer.{IsLegal}
use Rattle.office_history.specs.Positions.{school_at, term_at}
use Rattle.office_history.specs.FirstEnrollments.{is_first, is_first_of}
use Rattle.office_history.specs.Rows.{is_enrollment}
use Rattle.office_history.specs.declared.rows.PlaceRow.{PlaceRow}
use Rattle.office_updates.specs.declared.links.EnrollmentLink.{EnrollmentLink}
use Rattle.office_history.specs.declared.names.StudentPlace.{StudentPlace}
use Rattle.office_history.specs.Names.{place_name}

-- what is filed is a term
abbrev pub is_calendar : What → Bool
is_calendar (Calendar c) = true
is_calendar _ = false

-- a term of a school, and an enrollment of a student
abbrev pub is_term_of : ℕ → Filing → Bool
is_term_of school f = if f.key.school == school then is_calendar f.what else false

abbrev pub is_enrolled : ℕ → Filing → Bool
is_enrolled student f = is_enrollment student f.what

-- the position of the newest filing that passes after those before it, 0 where there is none
abbrev pub last_at : (List Filing → Filing → Bool) → List Filing → ℕ
last_at p [] = 0
last_at p (f ∷ past) = if p past f then length past + 1 else last_at p past

-- that of a school's newest term, and that of the newest of a student's first enrollments
abbrev pub newest_term : List Filing → ℕ → ℕ
newest_term past school = last_at (λ older. is_term_of school) past

abbrev pub newest_place : List Filing → ℕ → ℕ
newest_place past student = last_at (is_first_of student) past

-- where the one before a filing stands: the term before it of the same school, and of the first enrollment in a term the one
-- before it of the same student
abbrev pub before_in : List Filing → ℕ → What → ℕ
before_in past school (Calendar c) = newest_term past school
before_in past school (Enroll e) = if is_first past school e then newest_place past e.student else 0
before_in past school _ = 0

-- the same of each filing, the oldest first
abbrev pub befores_of : List Filing → List ℕ
befores_of [] = []
befores_of (f ∷ past) = befores_of past ++ before_in past f.key.school f.what ∷ []

-- an enrollment's link tells the slot of its place, and the positions of its school and of its term
pub record IsPlaced (past : List Filing) (rows : List (StudentPlace × PlaceRow)) (f : Filing) (e : EnrollFacts) (l : EnrollmentLink) : Type 0 where
  pub row : PlaceRow
  pub slot : slice_get rows l.slot ≡ Some (place_name f.key.school e, row)
  pub school : l.school_at ≡ school_at past f.key.school
  pub term : l.term_at ≡ term_at past f.key.school e.year e.term

-- of a history's filings, the oldest first: where the one before each stands, and the link of each
pub record AreLinked (past : List Filing) (rows : List (StudentPlace × PlaceRow)) (befores : List ℕ) (links : List EnrollmentLink) : Type 0 where
  pub befores_are : befores ≡ befores_of past
  pub count : length links ≡ length past
  pub places : (i : ℕ) (f : Filing) (e : EnrollFacts) (l : EnrollmentLink) → slice_get (reverse past) i ≡ Some f → f.what ≡ Enroll e →
      slice_get links i ≡ Some l → IsPlaced past rows f e l

-- the link of a filing, where its place's slot, and its school's and its term's positions are these
abbrev pub link_told : What → ℕ → ℕ → ℕ → EnrollmentLink
link_told (Enroll e) slot school term = record { slot = slot; school_at = school; term_at = term }
link_told _ slot school term = record { slot = 0; school_at = 0; term_at = 0 }

-- what is told of a filing that comes legally after others is true of it, and each row has stayed at its slot
pub record IsLinkable (past : List Filing) (old new : List (StudentPlace × PlaceRow)) (f : Filing) (newest slot school term : ℕ) : Type 0 where
  pub legal : IsLegal (f ∷ past)
  pub stays : (i : ℕ) (row : StudentPlace × PlaceRow) → slice_get old i ≡ Some row → (v : PlaceRow) × (slice_get new i ≡ Some (row.0, v))
  pub before : newest ≡ before_in past f.key.school f.what
  pub placed : (e : EnrollFacts) → f.what ≡ Enroll e → IsPlaced past new f e (record { slot = slot; school_at = school; term_at = term })
