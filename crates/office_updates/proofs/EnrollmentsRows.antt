-- What the link of an enrollment leads to: the row of its place, its term and its school.
use Rattle.std.proofs.Common.{◌≡◌, ℕ, zero, suc, ◌+◌, ◌-◌, ◌*◌, ◌<◌, ◌≤◌, refl, sym, ap, subst, ◌∙◌, arith, Bool, true, false, not, ◌&&◌, List, [], ◌∷◌, ◌++◌, get_or, length, reverse, Option, Some, None, eqb-true, lt-ltb}
use Rattle.std.specs.Prelude.{◌==◌, is_some, nat_lt, slice_index}
use Rattle.std.specs.List.{slice_get}
use Rattle.std.proofs.lemmas.Bool.Decides.{nat_tests}
use Rattle.std.proofs.lemmas.List.{length-reverse, reverse-append, reverse-reverse}
use Rattle.std.proofs.lemmas.Option.{get_or_from_slice_get, slice_get_within}
use Rattle.sorted_rows.specs.Places.{value_at}
use Rattle.aid_filings.specs.Calendars.{term_of}
use Rattle.aid_filings.specs.declared.filing.Filing.{Filing}
use Rattle.aid_filings.specs.declared.filing.SchoolFacts.{SchoolFacts}
use Rattle.aid_filings.specs.declared.filing.What.{What}
use Rattle.aid_filings.specs.declared.filing.What.TheVariants.{Book, School, Calendar, Prior, Apply, Enroll, Originate, Pay, Withdraw, Repay, Adjust, Cost, Sent, Amend}
use Rattle.aid_types.specs.declared.term.Term.{Term}
use Rattle.law_terms.specs.Terms.{intensity_of, payment_of}
use Rattle.office_history.specs.Answer.{IsLegal}
use Rattle.office_history.specs.Positions.{full_of, payment_at, terms_of}
use Rattle.office_history.specs.Net.{pell_term}
use Rattle.office_history.specs.Past.{at_school, credits, earlier, earliest, first_at, first_of_two, given, if_here, school_in, term_in, the_school, the_term}
use Rattle.office_history.proofs.Asked.{none_told, some_told}
use Rattle.office_history.proofs.Ranges.{credits_in_range}
use Rattle.office_history.specs.Rows.{is_enrollment, place_row}
use Rattle.office_history.specs.declared.rows.PlaceRow.{PlaceRow}
use Rattle.office_history.specs.Names.{place_cmp, place_name}
use Rattle.office_updates.specs.Enrollments.{IsEnrollment, if_own, is_beside, is_beside_in, is_term_beside, over_in, over_of, school_told, shares, term_over_in, term_told}
use Rattle.office_updates.specs.Placed.{ArePlaces, place_or}
use Rattle.office_updates.specs.Links.{is_enrolled}
use Rattle.office_updates.specs.declared.enrollments.Over.{Over}
use Rattle.office_updates.specs.declared.links.EnrollmentLink.{EnrollmentLink}
use Rattle.office_history.specs.declared.names.StudentPlace.{StudentPlace}

-- the first filing that answers stands at its position, and tells what is told earliest
pub record IsFirstTold {A : Type 0} (operation : Filing → Option A) (past : List Filing) (index : ℕ) : Type 0 where
  pub filing : Filing
  pub here : slice_get (reverse past) index ≡ Some filing
  pub tells : operation filing ≡ earliest operation past

stays : (xs ys : List Filing) (i : ℕ) (x : Filing) → slice_get xs i ≡ Some x → slice_get (xs ++ ys) i ≡ Some x
stays [] ys i x h = absurd cc
stays (z ∷ xs) ys zero x h = h
stays (z ∷ xs) ys (suc i) x h = stays xs ys i x h

comes : (xs : List Filing) (x : Filing) (i : ℕ) → i ≡ length xs → slice_get (xs ++ x ∷ []) i ≡ Some x
comes [] x i e = ap (slice_get (x ∷ [])) e
comes (z ∷ xs) x zero e = absurd (omega arith)
comes (z ∷ xs) x (suc i) e = comes xs x i (omega arith)

pub first_told : {A : Type 0} (operation : Filing → Option A) (past : List Filing) (n : ℕ) → first_at (λ f. is_some (operation f)) past ≡ suc n → IsFirstTold operation past n
first_told operation [] n h = absurd (omega arith)
first_told {A} operation (f ∷ past) n h =
    go (operation f) (first_at (λ f. is_some (operation f)) past) (earliest operation past) refl refl refl h (first_told operation past n) (none_told operation past) (some_told operation past)
  where
    kept : IsFirstTold operation past n → earlier (operation f) (earliest operation past) ≡ earliest operation past → IsFirstTold operation (f ∷ past) n
    kept w same = record {
      filing = w.filing;
      here = ap (λ (l : List Filing). slice_get l n) (reverse-append (f ∷ []) past) ∙ stays (reverse past) (f ∷ []) n w.filing w.here;
      tells = w.tells ∙ sym same;
    }

    go : (o : Option A) (k : ℕ) (e : Option A) → operation f ≡ o → first_at (λ f. is_some (operation f)) past ≡ k → earliest operation past ≡ e →
        first_of_two (is_some o) k (length past + 1) ≡ suc n → (first_at (λ f. is_some (operation f)) past ≡ suc n → IsFirstTold operation past n) →
        (first_at (λ f. is_some (operation f)) past ≡ 0 → earliest operation past ≡ None) →
        (0 < first_at (λ f. is_some (operation f)) past → is_some (earliest operation past) ≡ true) → IsFirstTold operation (f ∷ past) n
    go None k e told at old h ih none some = kept (ih (at ∙ h)) (ap (λ (o : Option A). earlier o (earliest operation past)) told)
    go (Some a) zero e told at old h ih none some = record {
      filing = f;
      here = ap (λ (l : List Filing). slice_get l n) (reverse-append (f ∷ []) past) ∙ comes (reverse past) f n (omega (arith, length-reverse past));
      tells = told ∙ sym (ap (λ (o : Option A). earlier (operation f) o) (none at) ∙ ap (λ (o : Option A). earlier o None) told);
    }
    go (Some a) (suc k) None told at old h ih none some = let bad : is_some (earliest operation past) ≡ true = some (omega arith) in absurd (not_some bad old)
      where
        not_some : {o : Option A} → is_some o ≡ true → o ≡ None → ⊥
        not_some bad old = let b = ap is_some old in cc
    go (Some a) (suc k) (Some b) told at old h ih none some =
        kept (ih (at ∙ h)) (ap (λ (o : Option A). earlier (operation f) o) old ∙ ap (λ (o : Option A). earlier o (Some b)) told ∙ sym old)

module _ {A : Type 0} (operation : Filing → Option A) (h : List Filing) (position : ℕ) (at : position ≡ first_at (λ f. is_some (operation f)) (reverse h)) (stands : 0 < position) where
  told : IsFirstTold operation (reverse h) (position - 1)
  told = first_told operation (reverse h) (position - 1) (omega arith)

  in_list : (w : IsFirstTold operation (reverse h) (position - 1)) → slice_get h (position - 1) ≡ Some w.filing
  in_list w = ap (λ (l : List Filing). slice_get l (position - 1)) (sym (reverse-reverse h)) ∙ w.here

  pub read_inside : position - 1 < length h
  read_inside = slice_get_within h (position - 1) told.filing (in_list told)

  pub read_tells : (d : Filing) → operation (get_or h (position - 1) d) ≡ earliest operation (reverse h)
  read_tells d = ap operation (get_or_from_slice_get h (position - 1) told.filing d (in_list told)) ∙ told.tells

-- the filing at a term's position files it, and the one at a school's position files that
pub term_filed : (school year number : ℕ) (f : Filing) (o : Option Term) → at_school school (term_in year number) f ≡ o → is_some o ≡ true → term_told f.what ≡ o
term_filed school year number f o h some = go f.what h
  where
    asked : (a b : Bool) (t : Term) (o : Option Term) → if_here a (given b t) ≡ o → is_some o ≡ true → Some t ≡ o
    asked true true t o h some = h
    asked true false t None h some = absurd cc
    asked true false t (Some u) h some = absurd cc
    asked false true t None h some = absurd cc
    asked false true t (Some u) h some = absurd cc
    asked false false t None h some = absurd cc
    asked false false t (Some u) h some = absurd cc

    none : (o : Option Term) → None ≡ o → is_some o ≡ true → ⊥
    none None h some = cc
    none (Some u) h some = cc

    go : (w : What) → if_here (f.key.school == school) (term_in year number w) ≡ o → term_told w ≡ o
    go (Calendar c) h = asked (f.key.school == school) (c.year == year && c.term == number) (term_of c) o h some
    go (Book b) h = absurd (none o h some)
    go (School b) h = absurd (none o h some)
    go (Prior b) h = absurd (none o h some)
    go (Apply b) h = absurd (none o h some)
    go (Enroll b) h = absurd (none o h some)
    go (Originate b) h = absurd (none o h some)
    go (Pay b) h = absurd (none o h some)
    go (Withdraw b) h = absurd (none o h some)
    go (Repay b) h = absurd (none o h some)
    go (Adjust b) h = absurd (none o h some)
    go (Cost b) h = absurd (none o h some)
    go (Sent b) h = absurd (none o h some)
    go (Amend b) h = absurd (none o h some)

pub school_filed : (code : ℕ) (w : What) (o : Option SchoolFacts) → school_in code w ≡ o → is_some o ≡ true → school_told w ≡ o
school_filed code w o h some = go w h
  where
    asked : (b : Bool) (s : SchoolFacts) (o : Option SchoolFacts) → given b s ≡ o → is_some o ≡ true → Some s ≡ o
    asked true s o h some = h
    asked false s None h some = absurd cc
    asked false s (Some u) h some = absurd cc

    none : (o : Option SchoolFacts) → None ≡ o → is_some o ≡ true → ⊥
    none None h some = cc
    none (Some u) h some = cc

    go : (w : What) → school_in code w ≡ o → school_told w ≡ o
    go (School s) h = asked (s.code == code) s o h some
    go (Book b) h = absurd (none o h some)
    go (Calendar b) h = absurd (none o h some)
    go (Prior b) h = absurd (none o h some)
    go (Apply b) h = absurd (none o h some)
    go (Enroll b) h = absurd (none o h some)
    go (Originate b) h = absurd (none o h some)
    go (Pay b) h = absurd (none o h some)
    go (Withdraw b) h = absurd (none o h some)
    go (Repay b) h = absurd (none o h some)
    go (Adjust b) h = absurd (none o h some)
    go (Cost b) h = absurd (none o h some)
    go (Sent b) h = absurd (none o h some)
    go (Amend b) h = absurd (none o h some)

module _ (h : List Filing) (rows : List (StudentPlace × PlaceRow)) (f : Filing) (l : EnrollmentLink) (e : IsEnrollment (reverse h) rows f l) where
  -- the position that the link tells of the term is inside, and the filing there tells the term
  pub term_inside : l.term_at - 1 < length h
  term_inside =
      read_inside (at_school f.key.school (term_in e.facts.year e.facts.term)) h l.term_at e.placed.term (subst (λ (n : ℕ). 0 < n) (sym e.placed.term) e.term_stands)

  pub term_read : (d : Filing) → term_told (get_or h (l.term_at - 1) d).what ≡ the_term (reverse h) f.key.school e.facts.year e.facts.term
  term_read d =
      term_filed f.key.school e.facts.year e.facts.term (get_or h (l.term_at - 1) d) (the_term (reverse h) f.key.school e.facts.year e.facts.term)
      (read_tells (at_school f.key.school (term_in e.facts.year e.facts.term)) h l.term_at e.placed.term (subst (λ (n : ℕ). 0 < n) (sym e.placed.term) e.term_stands) d)
      (some_told (at_school f.key.school (term_in e.facts.year e.facts.term)) (reverse h) e.term_stands)

  -- so are the school's, and the school
  pub school_inside : l.school_at - 1 < length h
  school_inside = read_inside (λ g. school_in f.key.school g.what) h l.school_at e.placed.school (subst (λ (n : ℕ). 0 < n) (sym e.placed.school) e.school_stands)

  pub school_read : (d : Filing) → school_told (get_or h (l.school_at - 1) d).what ≡ the_school (reverse h) f.key.school
  school_read d =
      school_filed f.key.school (get_or h (l.school_at - 1) d).what (the_school (reverse h) f.key.school)
      (read_tells (λ g. school_in f.key.school g.what) h l.school_at e.placed.school (subst (λ (n : ℕ). 0 < n) (sym e.placed.school) e.school_stands) d)
      (some_told (λ g. school_in f.key.school g.what) (reverse h) e.school_stands)

  -- the row at the slot that the link tells is the one of its place, and has its name
  pub name_read : (name : StudentPlace) (row : PlaceRow) → slice_get rows l.slot ≡ Some (name, row) → name ≡ place_name f.key.school e.facts
  name_read name row here = first_part (sym here ∙ e.placed.slot)
    where
      first_part : {x y : StudentPlace × PlaceRow} → ◌≡◌ {A = Option (StudentPlace × PlaceRow)} (Some x) (Some y) → x.0 ≡ y.0
      first_part {x} {y} e = let same : x ≡ y = cc in ap (λ (z : StudentPlace × PlaceRow). z.0) same

  pub row_read : ArePlaces (reverse h) rows → (name : StudentPlace) (row : PlaceRow) → slice_get rows l.slot ≡ Some (name, row) → value_at place_cmp name rows ≡ Some row →
      row ≡ place_row (reverse h) f.key.school e.facts.student e.facts.year e.facts.term
  row_read are name row here own =
      ap place_or (sym own) ∙ ap (λ (n : StudentPlace). place_or (value_at place_cmp n rows)) (name_read name row here) ∙ are f.key.school e.facts.student e.facts.year e.facts.term

  pub pell_read : (row : PlaceRow) → row ≡ place_row (reverse h) f.key.school e.facts.student e.facts.year e.facts.term →
      slice_index row.account.paid 3 - slice_index row.account.taken 3 ≡ pell_term (reverse h) f.key.school e.facts.student e.facts.year e.facts.term
  pell_read row same = ap (λ (r : PlaceRow). slice_index r.account.paid 3 - slice_index r.account.taken 3) same

  pub payment_read : (row : PlaceRow) → row ≡ place_row (reverse h) f.key.school e.facts.student e.facts.year e.facts.term →
      (o : Option SchoolFacts) → o ≡ the_school (reverse h) f.key.school → (award : ℕ) →
      100 * payment_of award (intensity_of row.credits (full_of o)) (terms_of o) ≡ payment_at (reverse h) award f.key.school e.facts.student e.facts.year e.facts.term
  payment_read row same o told award =
      ap (λ (r : PlaceRow). 100 * payment_of award (intensity_of r.credits (full_of o)) (terms_of o)) same
      ∙ ap
      (λ (s : Option SchoolFacts).
      100 * payment_of award (intensity_of (credits (reverse h) f.key.school e.facts.student e.facts.year e.facts.term) (full_of s)) (terms_of s))
      told

  pub few_credits : IsLegal (reverse h) → (row : PlaceRow) → row ≡ place_row (reverse h) f.key.school e.facts.student e.facts.year e.facts.term → row.credits ≤ 40
  few_credits legal row same =
      let few = credits_in_range (reverse h) legal f.key.school e.facts.student e.facts.year e.facts.term in
      let own : row.credits ≡ credits (reverse h) f.key.school e.facts.student e.facts.year e.facts.term = ap (λ (r : PlaceRow). r.credits) same in
      omega arith

-- a filing that is no school's tells none
pub no_school : (w : What) → ((s : SchoolFacts) → w ≡ School s → ⊥) → school_told w ≡ None
no_school (School s) h = absurd (h s refl)
no_school (Book b) h = refl
no_school (Calendar b) h = refl
no_school (Prior b) h = refl
no_school (Apply b) h = refl
no_school (Enroll b) h = refl
no_school (Originate b) h = refl
no_school (Pay b) h = refl
no_school (Withdraw b) h = refl
no_school (Repay b) h = refl
no_school (Adjust b) h = refl
no_school (Cost b) h = refl
no_school (Sent b) h = refl
no_school (Amend b) h = refl

-- an enrollment of a student is judged by its term
module _ (past : List Filing) (rows : List (StudentPlace × PlaceRow)) (f : Filing) (l : EnrollmentLink) (e : IsEnrollment past rows f l) (student : ℕ) (own : is_enrolled student f ≡ true) where
  own_student : (e.facts.student == student) ≡ true
  own_student = subst (λ (w : What). is_enrollment student w ≡ true) e.filed own

  beside_is : (school : ℕ) (this : Term) → is_beside past school student this f ≡ is_term_beside past school e.facts.student this f.key.school e.facts.year e.facts.term
  beside_is school this =
      ap (is_beside_in past school student this f.key.school) e.filed
      ∙ ap (λ (b : Bool). b && is_term_beside past school student this f.key.school e.facts.year e.facts.term) own_student
      ∙ ap (λ (s : ℕ). is_term_beside past school s this f.key.school e.facts.year e.facts.term) (sym (eqb-true e.facts.student student own_student))

  -- where no net Pell stands, and where some does at another school
  pub not_beside_unpaid : (school : ℕ) (this : Term) → pell_term past f.key.school e.facts.student e.facts.year e.facts.term ≡ 0 → false ≡ is_beside past school student this f
  not_beside_unpaid school this none =
      sym (beside_is school this
      ∙ ap (λ (n : ℕ). not (f.key.school == school) && (nat_lt 0 n && shares this (the_term past f.key.school e.facts.year e.facts.term))) none
      ∙ neither (not (f.key.school == school)))
    where
      neither : (b : Bool) → (b && false) ≡ false
      neither true = refl
      neither false = refl

  pub beside_shares : (school : ℕ) (this : Term) → (f.key.school == school) ≡ false → 0 < pell_term past f.key.school e.facts.student e.facts.year e.facts.term →
      (o : Option Term) → o ≡ the_term past f.key.school e.facts.year e.facts.term → shares this o ≡ is_beside past school student this f
  beside_shares school this other some o told =
      ap (shares this) told
      ∙ sym (beside_is school this
      ∙ ap (λ (b : Bool). not b && (nat_lt 0 (pell_term past f.key.school e.facts.student e.facts.year e.facts.term) && shares this (the_term past f.key.school e.facts.year e.facts.term))) other
      ∙ ap (λ (b : Bool). b && shares this (the_term past f.key.school e.facts.year e.facts.term)) (lt-ltb 0 (pell_term past f.key.school e.facts.student e.facts.year e.facts.term) some))

  -- what its term holds over an award
  over_is : (award year : ℕ) → over_of past award student year f
      ≡ if_own (e.facts.year == year) (term_over_in past award e.facts.student f.key.school year e.facts.term)
  over_is award year =
      ap (over_in past award student year f.key.school) e.filed
      ∙ ap (λ (b : Bool). if_own (b && e.facts.year == year) (term_over_in past award student f.key.school year e.facts.term)) own_student
      ∙ ap (λ (s : ℕ). if_own (e.facts.year == year) (term_over_in past award s f.key.school year e.facts.term)) (sym (eqb-true e.facts.student student own_student))

  over_here : (award year kept bound : ℕ) → (e.facts.year == year) ≡ true → kept ≡ pell_term past f.key.school e.facts.student e.facts.year e.facts.term →
      bound ≡ payment_at past award f.key.school e.facts.student e.facts.year e.facts.term →
      over_of past award student year f ≡ given (nat_lt bound kept) (record { school = f.key.school; term = e.facts.term; kept = kept; bound = bound })
  over_here award year kept bound same pell payment =
      over_is award year
      ∙ ap (λ (b : Bool). if_own b (term_over_in past award e.facts.student f.key.school year e.facts.term)) same
      ∙ ap (λ (y : ℕ). term_over_in past award e.facts.student f.key.school y e.facts.term) (sym (eqb-true e.facts.year year same))
      ∙ ap
      (λ (k : ℕ). given (nat_lt (payment_at past award f.key.school e.facts.student e.facts.year e.facts.term) k)
      (record { school = f.key.school; term = e.facts.term; kept = k; bound = payment_at past award f.key.school e.facts.student e.facts.year e.facts.term }))
      (sym pell)
      ∙ ap (λ (k : ℕ). given (nat_lt k kept) (record { school = f.key.school; term = e.facts.term; kept = kept; bound = k })) (sym payment)

  pub over_some : (award year school number kept bound : ℕ) → (e.facts.year == year) ≡ true → kept ≡ pell_term past f.key.school e.facts.student e.facts.year e.facts.term →
      bound ≡ payment_at past award f.key.school e.facts.student e.facts.year e.facts.term → bound < kept → school ≡ f.key.school → number ≡ e.facts.term →
      ◌≡◌ {A = Option Over} (Some (record { school = school; term = number; kept = kept; bound = bound })) (over_of past award student year f)
  over_some award year school number kept bound same pell payment more at_school of_number =
      ap (λ (s : ℕ). let o : Option Over = Some (record { school = s; term = number; kept = kept; bound = bound }) in o) at_school
      ∙ ap (λ (n : ℕ). let o : Option Over = Some (record { school = f.key.school; term = n; kept = kept; bound = bound }) in o) of_number
      ∙ sym (over_here award year kept bound same pell payment
      ∙ ap (λ (b : Bool). let o : Option Over = given b (record { school = f.key.school; term = e.facts.term; kept = kept; bound = bound }) in o) (lt-ltb bound kept more))

  pub over_none : (award year kept bound : ℕ) → (e.facts.year == year) ≡ true → kept ≡ pell_term past f.key.school e.facts.student e.facts.year e.facts.term →
      bound ≡ payment_at past award f.key.school e.facts.student e.facts.year e.facts.term → kept ≤ bound → None ≡ over_of past award student year f
  over_none award year kept bound same pell payment most =
      sym (over_here award year kept bound same pell payment
      ∙ ap (λ (b : Bool). let o : Option Over = given b (record { school = f.key.school; term = e.facts.term; kept = kept; bound = bound }) in o) (not_less bound kept most))
    where
      not_less : (a b : ℕ) → b ≤ a → nat_lt a b ≡ false
      not_less a b h = grind (arith, nat_tests)
