-- A walk along the first enrollments of a student: those that are left, with what was found so far, tell what all do.
use Rattle.std.proofs.Common.{◌≡◌, ℕ, ◌+◌, ◌-◌, ◌*◌, ◌<◌, ◌≤◌, refl, sym, ap, ◌∙◌, arith, true, List, [], ◌∷◌, get_or, length, reverse, Option, Some, None}
use Rattle.std.specs.Prelude.{◌==◌}
use Rattle.std.specs.List.{slice_get}
use Rattle.std.proofs.lemmas.List.{length-reverse, reverse-reverse}
use Rattle.std.proofs.lemmas.Option.{slice_get-get_or, slice_get_read}
use Rattle.aid_filings.specs.declared.filing.EnrollFacts.{EnrollFacts}
use Rattle.aid_filings.specs.declared.filing.Filing.{Filing}
use Rattle.aid_filings.specs.declared.filing.What.TheVariants.{Enroll}
use Rattle.aid_types.specs.declared.term.Term.{Term}
use Rattle.office_history.specs.Answer.{IsLegal}
use Rattle.office_history.specs.Positions.{is_paid_beside, least_code, lesser_code, term_over}
use Rattle.office_history.specs.Past.{terms_on_file}
use Rattle.office_history.specs.Rows.{is_enrollment}
use Rattle.office_history.specs.declared.rows.PlaceRow.{PlaceRow}
use Rattle.office_updates.specs.Enrollments.{IsEnrollment, earlier_over, first_over, is_beside, least_school, over_of, refusal_of}
use Rattle.office_history.specs.FirstEnrollments.{first_enrollments, is_first_of, places_of}
use Rattle.office_updates.specs.Links.{AreLinked, is_enrolled}
use Rattle.office_updates.specs.declared.enrollments.Over.{Over}
use Rattle.office_updates.specs.declared.links.EnrollmentLink.{EnrollmentLink}
use Rattle.office_history.specs.declared.names.StudentPlace.{StudentPlace}
use Rattle.office_updates.proofs.EnrollmentsFirst.{enrolls}
use Rattle.office_updates.proofs.EnrollmentsTerms.{code_beside, over_told}
use Rattle.office_updates.proofs.LinksChain.{IsAlong, IsStep, along_end, along_step, enrollments_tell, passing_end, passing_step}
use Rattle.office_updates.proofs.LinksMore.{enrolled_on_file}

-- the filing and the link at the position of a walk
module _ (h : List Filing) (befores : List ℕ) (links : List EnrollmentLink) (rows : List (StudentPlace × PlaceRow)) (student : ℕ) (older : List Filing) (n : ℕ)
    (legal : IsLegal (reverse h)) (linked : AreLinked (reverse h) rows befores links) (along : IsAlong (is_first_of student) (reverse h) older n) (pos : 0 < n) where
  pub step : IsStep (is_first_of student) h befores older n
  step = along_step (is_first_of student) h befores older n (enrollments_tell student) linked.befores_are along pos

  pub inside_links : n - 1 < length links
  inside_links = omega (arith, linked.count, length-reverse h, step.inside)

  pub same_filing : (f : Filing) → f ≡ get_or h (n - 1) f → f ≡ step.filing
  same_filing f read = read ∙ step.read f

  own : (f : Filing) → f ≡ get_or h (n - 1) f → (e : EnrollFacts) × (f.what ≡ Enroll e) × ((e.student == student) ≡ true)
  own f read = enrolls student step.rest f.key.school f.what (ap (is_first_of student step.rest) (same_filing f read) ∙ step.passes)

  pub enrolled_here : (f : Filing) → f ≡ get_or h (n - 1) f → is_enrolled student f ≡ true
  enrolled_here f read = let w = own f read in ap (is_enrollment student) w.1 ∙ w.2

  pub enrollment_here : (f : Filing) → f ≡ get_or h (n - 1) f → (k : EnrollmentLink) → IsEnrollment (reverse h) rows f (get_or links (n - 1) k)
  enrollment_here f read k =
      let w = own f read in
      let at : slice_get (reverse (reverse h)) (n - 1) ≡ Some f =
      ap (λ (fs : List Filing). slice_get fs (n - 1)) (reverse-reverse h) ∙ slice_get_read h (length h) (n - 1) f refl step.inside read in
      let link : slice_get links (n - 1) ≡ Some (get_or links (n - 1) k) = slice_get-get_or links (n - 1) k inside_links in
      let stands = enrolled_on_file (reverse h) legal (n - 1) f w.0 at w.1 in
      record {
        facts = w.0;
        filed = w.1;
        placed = linked.places (n - 1) f w.0 (get_or links (n - 1) k) at w.1 link;
        school_stands = stands.school_stands;
        term_stands = stands.term_stands;
      }

  -- the first enrollments that are left, of which this filing is the next
  pub next_first : (f : Filing) → f ≡ get_or h (n - 1) f → first_enrollments older student ≡ f ∷ first_enrollments step.rest student
  next_first f read =
      passing_step (is_first_of student) h befores older n step ∙ ap (λ (g : Filing). g ∷ first_enrollments step.rest student) (sym (same_filing f read))

  pub one_fewer : places_of older student ≡ places_of step.rest student + 1
  one_fewer =
      let one : places_of older student ≡ length (step.filing ∷ first_enrollments step.rest student) =
      ap (λ (fs : List Filing). length fs) (passing_step (is_first_of student) h befores older n step) in
      omega arith

-- at the end of a walk none is left
none_left : (past older : List Filing) (student n : ℕ) → IsAlong (is_first_of student) past older n → n ≡ 0 → first_enrollments older student ≡ []
none_left past older student n along e = passing_end (is_first_of student) older (along_end (is_first_of student) past older n along e)

-- a walk for the least code
pub record IsBesideWalk (past : List Filing) (school student : ℕ) (this : Term) (position least steps begun : ℕ) : Type 0 where
  pub older : List Filing
  pub along : IsAlong (is_first_of student) past older position
  pub value : least_school (is_beside past school student this) (first_enrollments past student) 0 ≡ least_school (is_beside past school student this) (first_enrollments older student) least
  pub few : steps + 4 * places_of older student ≤ begun + 4 * places_of past student
  pub counted : begun + 3 * places_of past student ≤ steps + 3 * places_of older student

pub beside_step : (h : List Filing) (befores : List ℕ) (links : List EnrollmentLink) (rows : List (StudentPlace × PlaceRow)) (school student : ℕ) (this : Term) (n least steps begun : ℕ) →
    IsLegal (reverse h) → AreLinked (reverse h) rows befores links → IsBesideWalk (reverse h) school student this n least steps begun → 0 < n →
    (f : Filing) → f ≡ get_or h (n - 1) f → (k : ℕ) (next later : ℕ) →
    next ≡ lesser_code (is_beside (reverse h) school student this f) f.key.school least →
    later ≤ steps + 4 → steps + 3 ≤ later → IsBesideWalk (reverse h) school student this (get_or befores (n - 1) k) next later begun
beside_step h befores links rows school student this n least steps begun legal linked w pos f read k next later is cheap looked =
    let s = step h befores links rows student w.older n legal linked w.along pos in
    let fewer = one_fewer h befores links rows student w.older n legal linked w.along pos in
    record {
      older = s.rest;
      along = s.along k;
      value =
          w.value
          ∙ ap (λ (fs : List Filing). least_school (is_beside (reverse h) school student this) fs least) (next_first h befores links rows student w.older n legal linked w.along pos f read)
          ∙ ap (least_school (is_beside (reverse h) school student this) (first_enrollments s.rest student)) (sym is);
      few = let old = w.few in omega arith;
      counted = let old = w.counted in omega arith;
    }

pub beside_end : (past : List Filing) (school student : ℕ) (this : Term) (n least steps begun : ℕ) → IsLegal past → IsBesideWalk past school student this n least steps begun → n ≡ 0 →
    least ≡ least_code (is_paid_beside past school student (Some this)) (terms_on_file past)
beside_end past school student this n least steps begun legal w e =
    let all : least_school (is_beside past school student this) (first_enrollments past student) 0 ≡ least =
    w.value ∙ ap (λ (fs : List Filing). least_school (is_beside past school student this) fs least) (none_left past w.older student n w.along e) in
    sym all ∙ code_beside past legal student school this

pub beside_looks : (past : List Filing) (school student : ℕ) (this : Term) (n least steps begun : ℕ) → IsBesideWalk past school student this n least steps begun → n ≡ 0 →
    begun + 3 * places_of past student ≤ steps
beside_looks past school student this n least steps begun w e =
    let none : places_of w.older student ≡ 0 = ap (λ (fs : List Filing). length fs) (none_left past w.older student n w.along e) in
    let all = w.counted in
    omega arith

-- a walk for the first term over an award
pub record IsOverWalk (past : List Filing) (award student year position : ℕ) (first : Option Over) (steps begun : ℕ) : Type 0 where
  pub older : List Filing
  pub along : IsAlong (is_first_of student) past older position
  pub value : first_over (over_of past award student year) (first_enrollments past student) None ≡ first_over (over_of past award student year) (first_enrollments older student) first
  pub few : steps + 4 * places_of older student ≤ begun + 4 * places_of past student
  pub counted : begun + 3 * places_of past student ≤ steps + 3 * places_of older student

pub over_step : (h : List Filing) (befores : List ℕ) (links : List EnrollmentLink) (rows : List (StudentPlace × PlaceRow)) (award student year n : ℕ) (first : Option Over) (steps begun : ℕ) →
    IsLegal (reverse h) → AreLinked (reverse h) rows befores links → IsOverWalk (reverse h) award student year n first steps begun → 0 < n →
    (f : Filing) → f ≡ get_or h (n - 1) f → (k : ℕ) (next : Option Over) (later : ℕ) →
    next ≡ earlier_over (over_of (reverse h) award student year f) first →
    later ≤ steps + 4 → steps + 3 ≤ later → IsOverWalk (reverse h) award student year (get_or befores (n - 1) k) next later begun
over_step h befores links rows award student year n first steps begun legal linked w pos f read k next later is cheap looked =
    let s = step h befores links rows student w.older n legal linked w.along pos in
    let fewer = one_fewer h befores links rows student w.older n legal linked w.along pos in
    record {
      older = s.rest;
      along = s.along k;
      value =
          w.value
          ∙ ap (λ (fs : List Filing). first_over (over_of (reverse h) award student year) fs first) (next_first h befores links rows student w.older n legal linked w.along pos f read)
          ∙ ap (first_over (over_of (reverse h) award student year) (first_enrollments s.rest student)) (sym is);
      few = let old = w.few in omega arith;
      counted = let old = w.counted in omega arith;
    }

pub over_end : (past : List Filing) (award student year n : ℕ) (first : Option Over) (steps begun : ℕ) → IsLegal past → IsOverWalk past award student year n first steps begun → n ≡ 0 →
    refusal_of first ≡ term_over past award student year
over_end past award student year n first steps begun legal w e =
    let all : first_over (over_of past award student year) (first_enrollments past student) None ≡ first =
    w.value ∙ ap (λ (fs : List Filing). first_over (over_of past award student year) fs first) (none_left past w.older student n w.along e) in
    ap refusal_of (sym all) ∙ over_told past legal student award year

pub over_looks : (past : List Filing) (award student year n : ℕ) (first : Option Over) (steps begun : ℕ) → IsOverWalk past award student year n first steps begun → n ≡ 0 →
    begun + 3 * places_of past student ≤ steps
over_looks past award student year n first steps begun w e =
    let none : places_of w.older student ≡ 0 = ap (λ (fs : List Filing). length fs) (none_left past w.older student n w.along e) in
    let all = w.counted in
    omega arith
