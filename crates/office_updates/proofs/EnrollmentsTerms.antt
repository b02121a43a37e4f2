-- A term that holds net Pell of a student has a first enrollment of the student, and an enrollment's term that does is on file. So
-- what the first enrollments tell is what the terms on file tell.
use Rattle.std.proofs.Common.{◌≡◌, ℕ, zero, suc, ◌+◌, ◌<◌, ◌≤◌, refl, sym, ap, subst, ◌∙◌, arith, Bool, true, false, not, ◌&&◌, ◌||◌, ◌⊎◌, inl, inr, List, [], ◌∷◌, length, Option, Some, None, eqb-true, eq-eqb, ltb-true}
use Rattle.std.specs.Prelude.{◌==◌, nat_lt}
use Rattle.std.specs.List.{Contains, list_any}
use Rattle.std.proofs.lemmas.Bool.{and_parts}
use Rattle.std.proofs.lemmas.Bool.Decides.{nat_tests}
use Rattle.std.proofs.lemmas.List.Elements.{All-contains, All-contains_itself, All-weaker}
use Rattle.aid_filings.specs.Calendars.{term_of}
use Rattle.aid_filings.specs.declared.filing.CalendarFacts.{CalendarFacts}
use Rattle.aid_filings.specs.declared.filing.Filing.{Filing}
use Rattle.aid_filings.specs.declared.filing.What.{What}
use Rattle.aid_filings.specs.declared.filing.What.TheVariants.{Book, School, Calendar, Prior, Apply, Enroll, Originate, Pay, Withdraw, Repay, Adjust, Cost, Sent, Amend}
use Rattle.aid_types.specs.declared.number.Key.{Key}
use Rattle.aid_types.specs.declared.term.Term.{Term}
use Rattle.law_terms.specs.Terms.{shares_day}
use Rattle.office_history.specs.Answer.{IsLegal, breaks}
use Rattle.office_history.specs.Rules.{rules_of}
use Rattle.office_history.specs.Positions.{is_over, is_paid_beside, least_code, payment_at, term_at, term_over, told_over}
use Rattle.office_history.specs.Least.{IsLeastNumber, NonePasses, is_before}
use Rattle.office_history.specs.Net.{cell_at, pell_term}
use Rattle.office_history.specs.Past.{FiledTerm, at_school, earlier, given, term_in, terms_on_file, the_term}
use Rattle.office_history.proofs.Among.{among_cases, among_head, among_rest}
use Rattle.office_history.proofs.Asked.{none_told}
use Rattle.aid_types.proofs.Holds.{all_hold, stands_holds}
use Rattle.office_history.proofs.Enrolled.{paid_enrolled}
use Rattle.office_history.proofs.Filed.{filed_holds, is_term}
use Rattle.office_history.proofs.LeastNumbers.{code_tells, told_least, told_none}
use Rattle.office_history.proofs.LeastTerms.{nothing_found}
use Rattle.office_history.proofs.TermsOnFile.{coded_terms, over_found}
use Rattle.office_updates.specs.Enrollments.{comes_before, first_over, if_own, is_beside, is_beside_in, is_term_beside, least_school, over_in, over_of, refusal_of, shares, term_over_in}
use Rattle.office_history.specs.FirstEnrollments.{first_enrollments}
use Rattle.office_updates.specs.declared.enrollments.Over.{Over}
use Rattle.office_updates.proofs.EnrollmentsFirst.{IsFirstEnrolled, first_enrolled}
use Rattle.office_updates.proofs.EnrollmentsLeast.{AreCoded, CodeFound, FirstFound, IsAtMost, IsNotBefore, code_below, code_found, first_below, first_found}

-- a term on file of a school, a year and a number
pub record Stands (past : List Filing) (school year number : ℕ) : Type 0 where
  pub term : FiledTerm
  pub among : Contains (terms_on_file past) term
  pub own_school : term.school ≡ school
  pub own_year : term.year ≡ year
  pub own_number : term.term.number ≡ number

one_passes : {X : Type 0} (p : X → Bool) (xs : List X) → list_any p xs ≡ true → (x : X) × Contains xs x × (p x ≡ true)
one_passes p [] h = absurd cc
one_passes {X} p (x ∷ xs) h = go (p x) refl h (one_passes p xs)
  where
    go : (b : Bool) → p x ≡ b → (b || list_any p xs) ≡ true → (list_any p xs ≡ true → (y : X) × Contains xs y × (p y ≡ true)) →
        (y : X) × Contains (x ∷ xs) y × (p y ≡ true)
    go true e h rest = (x, among_head x xs, e)
    go false e h rest = let w = rest h in (w.0, among_rest x xs w.0 w.1, w.2)

-- where a term holds net Pell it is on file
holding_stands : (past : List Filing) → IsLegal past → (school student year number : ℕ) → 0 < pell_term past school student year number → Stands past school year number
holding_stands past legal school student year number pos =
    let w = one_passes (is_term school year number) (terms_on_file past) (filed_holds past legal (cell_at school student year number 3) (omega arith)) in
    let a = and_parts (w.0.school == school) (w.0.year == year && w.0.term.number == number) w.2 in
    let b = and_parts (w.0.year == year) (w.0.term.number == number) a.1 in
    record {
      term = w.0;
      among = w.1;
      own_school = eqb-true w.0.school school a.0;
      own_year = eqb-true w.0.year year b.0;
      own_number = eqb-true w.0.term.number number b.1;
    }

-- what is told stays
told_stays : {A : Type 0} (new old : Option A) (a : A) → old ≡ Some a → earlier new old ≡ Some a
told_stays None old a h = h
told_stays (Some n) None a h = absurd cc
told_stays (Some n) (Some b) a h = h

-- in a legal history the term on file is the one that is told of its school, year and number
pub own_term : (past : List Filing) → IsLegal past → (t : FiledTerm) → Contains (terms_on_file past) t → the_term past t.school t.year t.term.number ≡ Some t.term
own_term [] legal t there = absurd (omega (arith, there.1))
own_term (f ∷ past) legal t there = go f.key f.what legal.2 there (own_term past legal.0 t)
  where
    calendar : (key : Key) (c : CalendarFacts) → breaks past (record { key = key; what = Calendar c }) ≡ None →
        (the_term past t.school t.year t.term.number ≡ Some t.term) ⊎ (record { school = key.school; year = c.year; position = length past + 1; term = term_of c } ≡ t) →
        the_term (record { key = key; what = Calendar c } ∷ past) t.school t.year t.term.number ≡ Some t.term
    calendar key c sound (inl old) = told_stays _ (the_term past t.school t.year t.term.number) t.term old
    calendar key c sound (inr same) =
        subst (λ (x : FiledTerm). the_term (record { key = key; what = Calendar c } ∷ past) x.school x.year x.term.number ≡ Some x.term) same
        (rw (none, eq-eqb key.school key.school refl, eq-eqb c.year c.year refl, eq-eqb c.term c.term refl) refl)
      where
        none : the_term past key.school c.year c.term ≡ None
        none =
            let k = all_hold (rules_of past key (Calendar c)) sound in
            none_told (at_school key.school (term_in c.year c.term)) past (stands_holds 20 (term_at past key.school c.year c.term) c.term k.1.1.0)

    go : (key : Key) (what : What) → breaks past (record { key = key; what = what }) ≡ None → Contains (terms_on_file (record { key = key; what = what } ∷ past)) t →
        (Contains (terms_on_file past) t → the_term past t.school t.year t.term.number ≡ Some t.term) →
        the_term (record { key = key; what = what } ∷ past) t.school t.year t.term.number ≡ Some t.term
    go key (Calendar c) sound there ih =
        elim (among_cases (record { school = key.school; year = c.year; position = length past + 1; term = term_of c }) (terms_on_file past) t there) [
          | inl same ↦ calendar key c sound (inr same)
          | inr rest ↦ calendar key c sound (inl (ih rest))
        ]
    go key (Book b) sound there ih = ih there
    go key (School b) sound there ih = ih there
    go key (Prior b) sound there ih = ih there
    go key (Apply b) sound there ih = ih there
    go key (Enroll b) sound there ih = ih there
    go key (Originate b) sound there ih = ih there
    go key (Pay b) sound there ih = ih there
    go key (Withdraw b) sound there ih = ih there
    go key (Repay b) sound there ih = ih there
    go key (Adjust b) sound there ih = ih there
    go key (Cost b) sound there ih = ih there
    go key (Sent b) sound there ih = ih there
    go key (Amend b) sound there ih = ih there

-- tests that all pass
both : (a b : Bool) → a ≡ true → b ≡ true → (a && b) ≡ true
both true b p q = q
both false b p q = p

-- what is at one school, year and number is at the same
at_place : {X : Type 0} (F : ℕ → ℕ → ℕ → X) (s y n t z m : ℕ) → s ≡ t → y ≡ z → n ≡ m → F s y n ≡ F t z m
at_place F s y n t z m a b c = ap (λ (x : ℕ). F x y n) a ∙ ap (λ (x : ℕ). F t x n) b ∙ ap (λ (x : ℕ). F t z x) c

module _ (past : List Filing) (legal : IsLegal past) (student : ℕ) where
  -- the student's first enrollments, of which each term that holds net Pell has one
  abbrev firsts : List Filing
  firsts = first_enrollments past student

  enrolled : (school year number : ℕ) → 0 < pell_term past school student year number → IsFirstEnrolled student school year number past
  enrolled school year number pos =
      let e = paid_enrolled past legal (cell_at school student year number 3) (omega arith) in
      first_enrolled student school year number past e.key e.facts e.stands e.student e.school e.year e.term

  module _ (school : ℕ) (this : Term) where
    -- a term beside this one is enrolled in
    beside_enrolled : (t : FiledTerm) → Contains (terms_on_file past) t → is_paid_beside past school student (Some this) t ≡ true →
        CodeFound (is_beside past school student this) firsts t.school
    beside_enrolled t there passes =
        let a = and_parts (not (t.school == school)) _ passes in
        let b = and_parts (shares_day this t.term) (nat_lt 0 (pell_term past t.school student t.year t.term.number)) a.1 in
        let e = enrolled t.school t.year t.term.number (ltb-true 0 (pell_term past t.school student t.year t.term.number) b.1) in
        let shared : shares this (the_term past t.school t.year t.term.number) ≡ true = ap (shares this) (own_term past legal t there) ∙ b.0 in
        let here : is_term_beside past school student this t.school t.year t.term.number ≡ true =
        both (not (t.school == school)) _ a.0 (both (nat_lt 0 (pell_term past t.school student t.year t.term.number)) _ b.1 shared) in
        let moved : is_term_beside past school student this e.key.school e.facts.year e.facts.term ≡ is_term_beside past school student this t.school t.year t.term.number =
        at_place (is_term_beside past school student this) e.key.school e.facts.year e.facts.term t.school t.year t.term.number e.own_school e.own_year e.own_term in
        (record { key = e.key; what = Enroll e.facts }, e.stands, both (e.facts.student == student) _ (eq-eqb e.facts.student student e.own_student) (moved ∙ here), e.own_school)

    -- and an enrollment beside it is in a term on file
    pub record Beside (code : ℕ) : Type 0 where
      pub term : FiledTerm
      pub among : Contains (terms_on_file past) term
      pub passes : is_paid_beside past school student (Some this) term ≡ true
      pub own_school : term.school ≡ code

    term_beside : (other year number : ℕ) → is_term_beside past school student this other year number ≡ true → Beside other
    term_beside other year number h =
        let a = and_parts (not (other == school)) _ h in
        let b = and_parts (nat_lt 0 (pell_term past other student year number)) (shares this (the_term past other year number)) a.1 in
        let s = holding_stands past legal other student year number (ltb-true 0 (pell_term past other student year number) b.0) in
        let told : the_term past other year number ≡ Some s.term.term =
        sym (at_place (the_term past) s.term.school s.term.year s.term.term.number other year number s.own_school s.own_year s.own_number)
        ∙ own_term past legal s.term s.among in
        let shared : shares_day this s.term.term ≡ true = ap (shares this) (sym told) ∙ b.1 in
        let holds : nat_lt 0 (pell_term past s.term.school student s.term.year s.term.term.number) ≡ true =
        at_place (λ (x y n : ℕ). nat_lt 0 (pell_term past x student y n)) s.term.school s.term.year s.term.term.number other year number s.own_school s.own_year s.own_number ∙ b.0 in
        let elsewhere : not (s.term.school == school) ≡ true = ap (λ (x : ℕ). not (x == school)) s.own_school ∙ a.0 in
        record {
          term = s.term;
          among = s.among;
          passes = both (not (s.term.school == school)) _ elsewhere (both (shares_day this s.term.term) _ shared holds);
          own_school = s.own_school;
        }

    beside_stands : (f : Filing) → is_beside past school student this f ≡ true → Beside f.key.school
    beside_stands f h = go f.key f.what h
      where
        go : (key : Key) (what : What) → is_beside_in past school student this key.school what ≡ true → Beside key.school
        go key (Enroll e) h = term_beside key.school e.year e.term (and_parts (e.student == student) (is_term_beside past school student this key.school e.year e.term) h).1
        go key (Book b) h = absurd cc
        go key (School b) h = absurd cc
        go key (Calendar b) h = absurd cc
        go key (Prior b) h = absurd cc
        go key (Apply b) h = absurd cc
        go key (Originate b) h = absurd cc
        go key (Pay b) h = absurd cc
        go key (Withdraw b) h = absurd cc
        go key (Repay b) h = absurd cc
        go key (Adjust b) h = absurd cc
        go key (Cost b) h = absurd cc
        go key (Sent b) h = absurd cc
        go key (Amend b) h = absurd cc

    coded : AreCoded (is_beside past school student this) firsts
    coded f there passes =
        let b = beside_stands f passes in
        let pos : 0 < b.term.school = All-contains (λ t. 0 < t.school) (terms_on_file past) b.term (coded_terms past legal) b.among in
        subst (λ (n : ℕ). 0 < n) b.own_school pos

    -- the least code of the terms is that of the enrollments
    pub code_beside : least_school (is_beside past school student this) (first_enrollments past student) 0 ≡ least_code (is_paid_beside past school student (Some this)) (terms_on_file past)
    code_beside = go (least_school (is_beside past school student this) firsts 0) refl
      where
        below : (n : ℕ) → least_school (is_beside past school student this) firsts 0 ≡ n → (t : FiledTerm) → Contains (terms_on_file past) t →
            is_paid_beside past school student (Some this) t ≡ true → IsAtMost t.school n
        below n e t there passes =
            let w = beside_enrolled t there passes in
            let most : IsAtMost w.0.key.school (least_school (is_beside past school student this) firsts 0) = code_below (is_beside past school student this) firsts 0 coded w.0 w.1 w.2 in
            subst (IsAtMost t.school) e (subst (λ (c : ℕ). IsAtMost c (least_school (is_beside past school student this) firsts 0)) w.3 most)

        none : least_school (is_beside past school student this) firsts 0 ≡ 0 → NonePasses (is_paid_beside past school student (Some this)) (terms_on_file past)
        none e =
            All-weaker (Contains (terms_on_file past)) (λ t. is_paid_beside past school student (Some this) t ≡ false)
            (λ t there. fails t there (is_paid_beside past school student (Some this) t) refl) (terms_on_file past) (All-contains_itself (terms_on_file past))
          where
            fails : (t : FiledTerm) → Contains (terms_on_file past) t → (b : Bool) → is_paid_beside past school student (Some this) t ≡ b → b ≡ false
            fails t there false d = refl
            fails t there true d = absurd (omega (arith, (below 0 e t there d).0))

        some : (n : ℕ) → 0 < n → least_school (is_beside past school student this) firsts 0 ≡ n →
            IsLeastNumber (λ t. t.school) (is_paid_beside past school student (Some this)) (terms_on_file past) n
        some n pos e = found (code_found (is_beside past school student this) firsts 0)
          where
            least : (t : FiledTerm) → t.school ≡ n → (u : FiledTerm) → Contains (terms_on_file past) u → is_paid_beside past school student (Some this) u ≡ true → nat_lt u.school t.school ≡ false
            least t own u there passes = not_less u.school t.school (let m = (below n e u there passes).1 in omega arith)
              where
                not_less : (a b : ℕ) → b ≤ a → nat_lt a b ≡ false
                not_less a b h = grind (arith, nat_tests)

            found : (least_school (is_beside past school student this) firsts 0 ≡ 0) ⊎ CodeFound (is_beside past school student this) firsts (least_school (is_beside past school student this) firsts 0) →
                IsLeastNumber (λ t. t.school) (is_paid_beside past school student (Some this)) (terms_on_file past) n
            found (inl first) = absurd (omega arith)
            found (inr w) =
                let b = beside_stands w.0 w.2 in
                let own : b.term.school ≡ n = b.own_school ∙ w.3 ∙ e in
                record {
                  thing = b.term;
                  least = record {
                    among = b.among;
                    accepted = b.passes;
                    least =
                        All-weaker (Contains (terms_on_file past)) (λ u. is_paid_beside past school student (Some this) u ≡ true → nat_lt u.school b.term.school ≡ false)
                        (least b.term own) (terms_on_file past) (All-contains_itself (terms_on_file past));
                  };
                  own = own;
                }

        go : (n : ℕ) → least_school (is_beside past school student this) firsts 0 ≡ n → n ≡ least_code (is_paid_beside past school student (Some this)) (terms_on_file past)
        go zero e = sym ((told_none (λ t. t.school) (is_paid_beside past school student (Some this)) (terms_on_file past) _ (code_tells (is_paid_beside past school student (Some this)) (terms_on_file past) (coded_terms past legal))).1 (none e))
        go (suc n) e =
            sym ((told_least (λ t. t.school) (is_paid_beside past school student (Some this)) (terms_on_file past) _ (suc n)
            (code_tells (is_paid_beside past school student (Some this)) (terms_on_file past) (coded_terms past legal)) (omega arith)).1 (some (suc n) (omega arith) e))

  module _ (award year : ℕ) where
    -- what is told of a term of the year
    abbrev told_of : FiledTerm → Over
    told_of t = record {
      school = t.school;
      term = t.term.number;
      kept = pell_term past t.school student year t.term.number;
      bound = payment_at past award t.school student year t.term.number;
    }

    owned : (b : Bool) (o : Option Over) → b ≡ true → if_own b o ≡ o
    owned true o e = refl
    owned false o e = absurd cc

    owned_some : (b : Bool) (o : Option Over) (a : Over) → if_own b o ≡ Some a → o ≡ Some a
    owned_some true o a e = e
    owned_some false o a e = absurd cc

    given_true : (b : Bool) (a : Over) → b ≡ true → given b a ≡ Some a
    given_true true a e = refl
    given_true false a e = absurd cc

    given_some : (b : Bool) (a o : Over) → given b a ≡ Some o → (b ≡ true) × (a ≡ o)
    given_some true a o e = (refl, cc)
    given_some false a o e = absurd cc

    -- a term over the award is enrolled in
    over_enrolled : (t : FiledTerm) → is_over past award student year t ≡ true → FirstFound (over_of past award student year) firsts (Some (told_of t))
    over_enrolled t passes =
        let a = and_parts (t.year == year) _ passes in
        let more = ltb-true (payment_at past award t.school student year t.term.number) (pell_term past t.school student year t.term.number) a.1 in
        let e = enrolled t.school year t.term.number (omega arith) in (
          record { key = e.key; what = Enroll e.facts },
          e.stands,
          owned (e.facts.student == student && e.facts.year == year) _
              (both (e.facts.student == student) _ (eq-eqb e.facts.student student e.own_student) (eq-eqb e.facts.year year e.own_year))
              ∙ at_place (λ (x z n : ℕ). term_over_in past award student x z n) e.key.school year e.facts.term t.school year t.term.number e.own_school refl e.own_term
              ∙ given_true _ (told_of t) a.1,
        )

    -- and an enrollment over it is in a term on file
    pub record OverTerm (a : Over) : Type 0 where
      pub term : FiledTerm
      pub among : Contains (terms_on_file past) term
      pub passes : is_over past award student year term ≡ true
      pub own : a ≡ told_of term

    term_over_it : (school number : ℕ) (a : Over) → term_over_in past award student school year number ≡ Some a → OverTerm a
    term_over_it school number a e =
        let told : Over = record {
          school = school;
          term = number;
          kept = pell_term past school student year number;
          bound = payment_at past award school student year number;
        } in
        let g = given_some (nat_lt (payment_at past award school student year number) (pell_term past school student year number)) told a e in
        let more = ltb-true (payment_at past award school student year number) (pell_term past school student year number) g.0 in
        let s = holding_stands past legal school student year number (omega arith) in
        let over : nat_lt (payment_at past award s.term.school student year s.term.term.number) (pell_term past s.term.school student year s.term.term.number) ≡ true =
        at_place (λ (x y n : ℕ). nat_lt (payment_at past award x student y n) (pell_term past x student y n)) s.term.school year s.term.term.number school year number
        s.own_school refl s.own_number ∙ g.0 in
        let same : told_of s.term ≡ told =
        at_place
        (λ (x y n : ℕ). let o : Over = record { school = x; term = n; kept = pell_term past x student y n; bound = payment_at past award x student y n } in o)
        s.term.school year s.term.term.number school year number s.own_school refl s.own_number in
        record {
          term = s.term;
          among = s.among;
          passes = both (s.term.year == year) _ (eq-eqb s.term.year year s.own_year) over;
          own = sym (same ∙ g.1);
        }

    over_stands : (f : Filing) (a : Over) → over_of past award student year f ≡ Some a → OverTerm a
    over_stands f a h = go f.key f.what h
      where
        go : (key : Key) (what : What) → over_in past award student year key.school what ≡ Some a → OverTerm a
        go key (Enroll e) h =
            term_over_it key.school e.term a
            (owned_some (e.student == student && e.year == year) (term_over_in past award student key.school year e.term) a h)
        go key (Book b) h = absurd cc
        go key (School b) h = absurd cc
        go key (Calendar b) h = absurd cc
        go key (Prior b) h = absurd cc
        go key (Apply b) h = absurd cc
        go key (Originate b) h = absurd cc
        go key (Pay b) h = absurd cc
        go key (Withdraw b) h = absurd cc
        go key (Repay b) h = absurd cc
        go key (Adjust b) h = absurd cc
        go key (Cost b) h = absurd cc
        go key (Sent b) h = absurd cc
        go key (Amend b) h = absurd cc

    -- no term over the award comes before the first that the enrollments tell
    below : (o : Option Over) → first_over (over_of past award student year) firsts None ≡ o → (t : FiledTerm) → is_over past award student year t ≡ true → IsNotBefore (told_of t) o
    below o e t passes =
        let w = over_enrolled t passes in
        subst (IsNotBefore (told_of t)) e (first_below (over_of past award student year) firsts None w.0 (told_of t) w.1 w.2)

    none_over : first_over (over_of past award student year) firsts None ≡ None → NonePasses (is_over past award student year) (terms_on_file past)
    none_over e =
        All-weaker (Contains (terms_on_file past)) (λ t. is_over past award student year t ≡ false)
        (λ t there. fails t (is_over past award student year t) refl) (terms_on_file past) (All-contains_itself (terms_on_file past))
      where
        fails : (t : FiledTerm) → (b : Bool) → is_over past award student year t ≡ b → b ≡ false
        fails t false d = refl
        fails t true d = absurd (below None e t d)

    some_over : (a : Over) → first_over (over_of past award student year) firsts None ≡ Some a → term_over past award student year ≡ refusal_of (Some a)
    some_over a e = found (first_found (over_of past award student year) firsts None)
      where
        told : (s : OverTerm a) → term_over past award student year ≡ refusal_of (Some a)
        told s =
            ap (told_over past award student year)
            (over_found past legal award student year s.term (record {
              among = s.among;
              accepted = s.passes;
              least =
                  All-weaker (Contains (terms_on_file past)) (λ u. is_over past award student year u ≡ true → is_before u s.term ≡ false)
                  (λ u there passes. subst (λ (x : Over). comes_before (told_of u) x ≡ false) s.own (below (Some a) e u passes))
                  (terms_on_file past) (All-contains_itself (terms_on_file past));
            }))
            ∙ ap (λ (x : Over). refusal_of (Some x)) (sym s.own)

        found : (first_over (over_of past award student year) firsts None ≡ None) ⊎ FirstFound (over_of past award student year) firsts (first_over (over_of past award student year) firsts None) →
            term_over past award student year ≡ refusal_of (Some a)
        found (inl none) = let bad : ◌≡◌ {A = Option Over} (Some a) None = sym e ∙ none in absurd cc
        found (inr w) = told (over_stands w.0 a (w.2 ∙ e))

    -- the first term over an award is that of the enrollments
    pub over_told : refusal_of (first_over (over_of past award student year) (first_enrollments past student) None) ≡ term_over past award student year
    over_told = go (first_over (over_of past award student year) firsts None) refl
      where
        go : (o : Option Over) → first_over (over_of past award student year) firsts None ≡ o → refusal_of o ≡ term_over past award student year
        go None e =
            sym (ap (told_over past award student year) (nothing_found (is_over past award student year) (terms_on_file past) (none_over e)))
        go (Some a) e = sym (some_over a e)

-- beside no term nothing is paid
pub none_beside : (past : List Filing) (school student : ℕ) (ts : List FiledTerm) → least_code (is_paid_beside past school student None) ts ≡ 0
none_beside past school student [] = refl
none_beside past school student (t ∷ ts) = none_beside past school student ts
