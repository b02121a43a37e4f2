-- The rows of an index tell what is on file with a filing more.
use Rattle.std.proofs.Common.{◌≡◌, ℕ, ◌+◌, ◌-◌, ◌<◌, ◌≤◌, subst, sym, arith, List, [], ◌∷◌, ◌++◌, length, reverse, Some}
use Rattle.aid_filings.specs.declared.filing.EnrollFacts.{EnrollFacts}
use Rattle.aid_filings.specs.declared.filing.Filing.{Filing}
use Rattle.aid_filings.specs.declared.filing.What.TheVariants.{Enroll}
use Rattle.aid_filings.specs.declared.reply.Outcome.{Outcome}
use Rattle.sorted_rows.specs.Places.{AreStaying}
use Rattle.std.specs.List.{slice_get}
use Rattle.office_history.specs.Answer.{IsLegal, outcome_of}
use Rattle.office_history.specs.Positions.{school_at, term_at}
use Rattle.office_history.proofs.Legal.{legal_is_short}
use Rattle.office_history.specs.declared.rows.PlaceRow.{PlaceRow}
use Rattle.office_index.specs.Index.{AreBooks, AreKeys, AreSchools, AreSchoolYears, AreStudents, AreYears, IndexRows, IsIndexed, IsWrittenBy}
use Rattle.office_updates.specs.Placed.{ArePlaces}
use Rattle.office_updates.specs.Links.{AreLinked, IsLinkable, before_in}
use Rattle.office_history.specs.Names.{place_name}
use Rattle.office_history.specs.declared.names.StudentPlace.{StudentPlace}
use Rattle.office_index.specs.declared.written.Written.{Written}

-- each table tells it
pub record AreRows (past : List Filing) (rows : IndexRows) : Type 0 where
  pub keys : AreKeys past rows.keys
  pub books : AreBooks past rows.books
  pub schools : AreSchools past rows.schools
  pub students : AreStudents past rows.students
  pub places : ArePlaces past rows.places
  pub years : AreYears past rows.years
  pub school_years : AreSchoolYears past rows.school_years
  pub links : AreLinked past rows.places rows.befores rows.links

-- and has at most one row more, that of the keys one more
pub record HaveOneMore (old new : IndexRows) : Type 0 where
  pub keys : length new.keys ≡ length old.keys + 1
  pub books : length new.books ≤ length old.books + 1
  pub schools : length new.schools ≤ length old.schools + 1
  pub students : length new.students ≤ length old.students + 1
  pub places : length new.places ≤ length old.places + 1
  pub years : length new.years ≤ length old.years + 1
  pub school_years : length new.school_years ≤ length old.school_years + 1

grown : (past : List Filing) (f : Filing) (outcomes : List Outcome) (o : Outcome) (old new : IndexRows) → IsLegal (f ∷ past) → o ≡ outcome_of past f →
    IsIndexed past outcomes old → AreRows (f ∷ past) new → HaveOneMore old new → IsIndexed (f ∷ past) (outcomes ++ o ∷ []) new
grown past f outcomes o old new legal brought before rows more = record {
  legal = legal;
  outcomes_kept = λ i. before.outcomes_kept i ++ brought i ∷ [];
  keys = rows.keys;
  books = rows.books;
  schools = rows.schools;
  students = rows.students;
  places = rows.places;
  years = rows.years;
  school_years = rows.school_years;
  links = rows.links;
  all_keys = omega (arith, more.keys, before.all_keys);
  few_books = omega (arith, more.books, before.few_books);
  few_schools = omega (arith, more.schools, before.few_schools);
  few_students = omega (arith, more.students, before.few_students);
  few_places = omega (arith, more.places, before.few_places);
  few_years = omega (arith, more.years, before.few_years);
  few_school_years = omega (arith, more.school_years, before.few_school_years);
}

pub index_grown : (past h : List Filing) (f : Filing) (outcomes out : List Outcome) (o : Outcome) (old new : IndexRows) → h ≡ f ∷ past → out ≡ outcomes ++ o ∷ [] →
    IsLegal (f ∷ past) → o ≡ outcome_of past f → IsIndexed past outcomes old → AreRows (f ∷ past) new → HaveOneMore old new → IsIndexed h out new
index_grown past h f outcomes out o old new history kept legal brought before rows more =
    subst (λ (l : List Filing). IsIndexed l out new) (sym history)
    (subst (λ (l : List Outcome). IsIndexed (f ∷ past) l new) (sym kept) (grown past f outcomes o old new legal brought before rows more))

-- what is told of a filing, and of where the one before it stands, is true of it
pub linkable : (past : List Filing) (f : Filing) (w : Written) (old new : List (StudentPlace × PlaceRow)) (newest slot school term : ℕ) → IsLegal (f ∷ past) →
    IsWrittenBy past f w → AreStaying old new →
    ((name : StudentPlace) (row : PlaceRow) → w.place ≡ Some (name, row) → (there : PlaceRow) × (slice_get new slot ≡ Some (name, there))) →
    newest ≡ before_in past f.key.school f.what →
    ((e : EnrollFacts) → f.what ≡ Enroll e → (school ≡ school_at past f.key.school) × (term ≡ term_at past f.key.school e.year e.term)) →
    IsLinkable past old new f newest slot school term
linkable past f w old new newest slot school term legal written stays there before placed = record {
  legal = legal;
  stays = stays;
  before = before;
  placed = λ e is.
      let row = written.enrolled e is in
      let here = there (place_name f.key.school e) row.0 row.1 in
      let at = placed e is in
      record { row = here.0; slot = here.1; school = at.0; term = at.1 };
}

-- a table is far below its largest number of rows
pub few_left : (h : List Filing) (rows : ℕ) → IsLegal (reverse h) → rows ≤ length (reverse h) → rows < 4294967295
few_left h rows legal few = omega (arith, legal_is_short (reverse h) legal)

-- the room that is left where one place is taken
pub room_left : (spare room left : ℕ) → spare ≤ room → room ≤ left + 1 → spare - 1 ≤ left
room_left spare room left within taken = omega arith

pub places_left : (spare old places new left : ℕ) → 1 ≤ spare → old + spare ≤ places → new ≡ old + 1 → left ≡ places → new + (spare - 1) ≤ left
places_left spare old places new left some within one same = omega arith
