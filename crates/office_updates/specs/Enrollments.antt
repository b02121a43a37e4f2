-- What a student's enrollments tell of the net Pell that stands in their terms.
use Rattle.std.specs.Prelude.{◌≡◌, ℕ, ◌<◌, ◌==◌, ◌&&◌, ◌||◌, nat_lt, not, Bool, true, false, List, [], ◌∷◌, Option, Some, None, if◌then◌else◌}
use Rattle.aid_filings.specs.Calendars.{term_of}
use Rattle.aid_filings.specs.declared.filing.EnrollFacts.{EnrollFacts}
use Rattle.aid_filings.specs.declared.filing.Filing.{Filing}
use Rattle.aid_filings.specs.declared.filing.SchoolFacts.{SchoolFacts}
use Rattle.aid_filings.specs.declared.filing.What.{What}
use Rattle.aid_filings.specs.declared.filing.What.TheVariants.{Calendar, Enroll, School}
use Rattle.aid_types.specs.declared.award.Refusal.{Refusal}
use Rattle.aid_types.specs.declared.term.Term.{Term}
use Rattle.law_terms.specs.Terms.{shares_day}
use Rattle.office_history.specs.Positions.{lesser_code, payment_at, school_at, term_at}
use Rattle.office_history.specs.Net.{pell_term}
use Rattle.office_history.specs.Past.{given, the_term}
use Rattle.office_history.specs.declared.rows.PlaceRow.{PlaceRow}
use Rattle.office_updates.specs.Links.{IsPlaced}
use Rattle.office_updates.specs.declared.enrollments.Over.{Over}
use Rattle.office_updates.specs.declared.links.EnrollmentLink.{EnrollmentLink}
use Rattle.office_history.specs.declared.names.StudentPlace.{StudentPlace}

-- the term and the school that are filed
abbrev pub term_told : What → Option Term
term_told (Calendar c) = Some (term_of c)
term_told _ = None

abbrev pub school_told : What → Option SchoolFacts
school_told (School s) = Some s
school_told _ = None

-- there is a term, and it shares a day with this one
abbrev pub shares : Term → Option Term → Bool
shares this None = false
shares this (Some t) = shares_day this t

-- a term of another school that shares a day with this one and holds net Pell of the student
abbrev pub is_term_beside : List Filing → ℕ → ℕ → Term → ℕ → ℕ → ℕ → Bool
is_term_beside past school student this other year number =
    not (other == school) && (nat_lt 0 (pell_term past other student year number) && shares this (the_term past other year number))

-- an enrollment of the student in such a term
abbrev pub is_beside_in : List Filing → ℕ → ℕ → Term → ℕ → What → Bool
is_beside_in past school student this other (Enroll e) = e.student == student && is_term_beside past school student this other e.year e.term
is_beside_in past school student this other _ = false

abbrev pub is_beside : List Filing → ℕ → ℕ → Term → Filing → Bool
is_beside past school student this f = is_beside_in past school student this f.key.school f.what

-- the least of a code and of those of the filings that pass, from the newest on; 0 is none
abbrev pub least_school : (Filing → Bool) → List Filing → ℕ → ℕ
least_school p [] least = least
least_school p (f ∷ older) least = least_school p older (lesser_code (p f) f.key.school least)

-- a term of the year that holds more net Pell of the student than an award gives it
abbrev pub term_over_in : List Filing → ℕ → ℕ → ℕ → ℕ → ℕ → Option Over
term_over_in past award student school year number =
    given (nat_lt (payment_at past award school student year number) (pell_term past school student year number))
    (record { school = school; term = number; kept = pell_term past school student year number; bound = payment_at past award school student year number })

-- an enrollment of the student in such a term
abbrev pub if_own : Bool → Option Over → Option Over
if_own true o = o
if_own false o = None

abbrev pub over_in : List Filing → ℕ → ℕ → ℕ → ℕ → What → Option Over
over_in past award student year school (Enroll e) = if_own (e.student == student && e.year == year) (term_over_in past award student school year e.term)
over_in past award student year school _ = None

abbrev pub over_of : List Filing → ℕ → ℕ → ℕ → Filing → Option Over
over_of past award student year f = over_in past award student year f.key.school f.what

-- a lesser school code, or the same code and a lesser term number
abbrev pub comes_before : Over → Over → Bool
comes_before a b = nat_lt a.school b.school || (a.school == b.school && nat_lt a.term b.term)

-- a term and the one found so far, of which that one stands unless the other comes before it
abbrev pub earlier_over : Option Over → Option Over → Option Over
earlier_over None first = first
earlier_over (Some a) None = Some a
earlier_over (Some a) (Some b) = if comes_before a b then Some a else Some b

-- the first of a term and of those that filings tell, from the newest on
abbrev pub first_over : (Filing → Option Over) → List Filing → Option Over → Option Over
first_over operation [] first = first
first_over operation (f ∷ older) first = first_over operation older (earlier_over (operation f) first)

-- the same as a refusal
abbrev pub refusal_of : Option Over → Option Refusal
refusal_of None = None
refusal_of (Some o) = Some (record { rule = 93; kept = o.kept; bound = o.bound })

-- an enrollment with its link, which tells its place, its school and its term; both of these are on file
pub record IsEnrollment (past : List Filing) (rows : List (StudentPlace × PlaceRow)) (f : Filing) (l : EnrollmentLink) : Type 0 where
  pub facts : EnrollFacts
  pub filed : f.what ≡ Enroll facts
  pub placed : IsPlaced past rows f facts l
  pub school_stands : 0 < school_at past f.key.school
  pub term_stands : 0 < term_at past f.key.school facts.year facts.term
