-- The first enrollments of a student: each term at a school that the student enrolled in has one.
use Rattle.std.proofs.Common.{◌≡◌, ℕ, refl, sym, ap, subst, ◌∙◌, arith, cond, Bool, true, false, ◌&&◌, ◌||◌, not, Option, Some, None, ◌⊎◌, inl, inr, List, [], ◌∷◌, eq-eqb, eqb-true}
use Rattle.std.specs.Prelude.{◌==◌, is_some, nat_lt}
use Rattle.std.specs.List.{Contains, list_any}
use Rattle.std.proofs.lemmas.Bool.{and_parts}
use Rattle.aid_types.specs.declared.number.Key.{Key}
use Rattle.aid_filings.specs.declared.filing.EnrollFacts.{EnrollFacts}
use Rattle.aid_filings.specs.declared.filing.Filing.{Filing}
use Rattle.aid_filings.specs.declared.filing.What.{What}
use Rattle.aid_filings.specs.declared.filing.What.TheVariants.{Book, School, Calendar, Prior, Apply, Enroll, Originate, Pay, Withdraw, Repay, Adjust, Cost, Sent, Amend}
use Rattle.office_history.specs.Answer.{IsLegal, breaks}
use Rattle.office_history.specs.Rules.{rules_of}
use Rattle.office_history.specs.Past.{amount_or, at_school, credits, credits_in, given, if_here, later, latest}
use Rattle.aid_types.proofs.Holds.{all_hold}
use Rattle.office_history.proofs.Among.{among_cases, among_head, among_rest}
use Rattle.office_history.specs.FirstEnrollments.{enrolls_in, first_enrollments, is_first, is_first_in, is_first_of}

-- an enrollment as a filing
abbrev enrolling : Key → EnrollFacts → Filing
enrolling key e = record { key = key; what = Enroll e }

module _ (student school year term : ℕ) where
  -- a first enrollment of the student in the term
  pub record IsFirstEnrolled (past : List Filing) : Type 0 where
    pub key : Key
    pub facts : EnrollFacts
    pub stands : Contains (first_enrollments past student) (enrolling key facts)
    pub own_student : facts.student ≡ student
    pub own_school : key.school ≡ school
    pub own_year : facts.year ≡ year
    pub own_term : facts.term ≡ term

  -- a later filing leaves it
  kept : (past : List Filing) (f : Filing) → IsFirstEnrolled past → IsFirstEnrolled (f ∷ past)
  kept past f w = record {
    key = w.key;
    facts = w.facts;
    stands = more (is_first_of student past f);
    own_student = w.own_student;
    own_school = w.own_school;
    own_year = w.own_year;
    own_term = w.own_term;
  }
    where
      more : (b : Bool) → Contains (cond b (f ∷ first_enrollments past student) (first_enrollments past student)) (enrolling w.key w.facts)
      more true = among_rest f (first_enrollments past student) (enrolling w.key w.facts) w.stands
      more false = w.stands

  -- an enrollment in the term is the first, or comes after the first
  filed : (past : List Filing) (key : Key) (e : EnrollFacts) → e.student ≡ student → key.school ≡ school → e.year ≡ year → e.term ≡ term →
      (list_any (enrolls_in school student year term) past ≡ true → IsFirstEnrolled past) → IsFirstEnrolled (enrolling key e ∷ past)
  filed past key e s k y t older = go (list_any (enrolls_in key.school e.student e.year e.term) past) refl
    where
      go : (b : Bool) → list_any (enrolls_in key.school e.student e.year e.term) past ≡ b → IsFirstEnrolled (enrolling key e ∷ past)
      go false none =
          let own : (e.student == student) ≡ true = eq-eqb e.student student s in
          let first : is_first past key.school e ≡ true = ap not none in
          record {
            key = key;
            facts = e;
            stands = rw (own, first) (among_head (enrolling key e) (first_enrollments past student));
            own_student = s;
            own_school = k;
            own_year = y;
            own_term = t;
          }
      go true some =
          kept past (enrolling key e)
          (older (sym (λ i. list_any (enrolls_in (k i) (s i) (y i) (t i)) past) ∙ some))

  -- after an enrollment in the term there is a first one
  by_any : (past : List Filing) → list_any (enrolls_in school student year term) past ≡ true → IsFirstEnrolled past
  by_any [] h = absurd cc
  by_any (f ∷ past) h = go f.key f.what h (by_any past)
    where
      new : (key : Key) (e : EnrollFacts) (s t y n : Bool) → (key.school == school) ≡ s → (e.student == student) ≡ t → (e.year == year) ≡ y → (e.term == term) ≡ n →
          (is_some (if_here s (given (t && (y && n)) e.credits)) || list_any (enrolls_in school student year term) past) ≡ true →
          (list_any (enrolls_in school student year term) past ≡ true → IsFirstEnrolled past) → IsFirstEnrolled (enrolling key e ∷ past)
      new key e true true true true a b d g h ih = filed past key e (eqb-true _ _ b) (eqb-true _ _ a) (eqb-true _ _ d) (eqb-true _ _ g) ih
      new key e false true true true a b d g h ih = kept past _ (ih h)
      new key e s false y n a b d g h ih = kept past _ (ih h)
      new key e s true false n a b d g h ih = kept past _ (ih h)
      new key e s true true false a b d g h ih = kept past _ (ih h)

      go : (key : Key) (what : What) → list_any (enrolls_in school student year term) (record { key = key; what = what } ∷ past) ≡ true →
          (list_any (enrolls_in school student year term) past ≡ true → IsFirstEnrolled past) → IsFirstEnrolled (record { key = key; what = what } ∷ past)
      go key (Enroll e) h ih =
          new key e (key.school == school) (e.student == student) (e.year == year) (e.term == term) refl refl refl refl h ih
      go key (Calendar b) h ih = kept past _ (ih h)
      go key (Book b) h ih = kept past _ (ih h)
      go key (School b) h ih = kept past _ (ih h)
      go key (Prior b) h ih = kept past _ (ih h)
      go key (Apply b) h ih = kept past _ (ih h)
      go key (Originate b) h ih = kept past _ (ih h)
      go key (Pay b) h ih = kept past _ (ih h)
      go key (Withdraw b) h ih = kept past _ (ih h)
      go key (Repay b) h ih = kept past _ (ih h)
      go key (Adjust b) h ih = kept past _ (ih h)
      go key (Cost b) h ih = kept past _ (ih h)
      go key (Sent b) h ih = kept past _ (ih h)
      go key (Amend b) h ih = kept past _ (ih h)

  -- where an enrollment stands in the term, so does a first one
  pub first_enrolled : (past : List Filing) (key : Key) (e : EnrollFacts) → Contains past (enrolling key e) →
      e.student ≡ student → key.school ≡ school → e.year ≡ year → e.term ≡ term → IsFirstEnrolled past
  first_enrolled [] key e there s k y t = absurd (omega (arith, there.1))
  first_enrolled (f ∷ past) key e there s k y t =
      go (among_cases f past (enrolling key e) there) (λ h. first_enrolled past key e h s k y t)
    where
      go : (f ≡ enrolling key e) ⊎ Contains past (enrolling key e) → (Contains past (enrolling key e) → IsFirstEnrolled past) → IsFirstEnrolled (f ∷ past)
      go (inl same) ih = subst (λ (g : Filing). IsFirstEnrolled (g ∷ past)) (sym same) (filed past key e s k y t (by_any past))
      go (inr older) ih = kept past f (ih older)

-- no credits are in force exactly where there is no enrollment, since none is admitted with no credits
module _ (school student year term : ℕ) where
  -- credits that are told are above 0
  abbrev AreSome : Option ℕ → Bool → Type 0
  AreSome told any = (amount_or told == 0) ≡ not any

  of_two : (new before : Option ℕ) (any : Bool) → AreSome new (is_some new) → AreSome before any → AreSome (later new before) (is_some new || any)
  of_two None before any h k = k
  of_two (Some n) before any h k = h

  here : (a b : Bool) (n : ℕ) → (n == 0 || nat_lt 40 n) ≡ false → AreSome (if_here a (given b n)) (is_some (if_here a (given b n)))
  here true true n h = above (n == 0) (nat_lt 40 n) h
    where
      above : (a b : Bool) → (a || b) ≡ false → a ≡ false
      above false b h = refl
      above true b h = absurd cc
  here true false n h = refl
  here false true n h = refl
  here false false n h = refl

  pub no_credits : (past : List Filing) → IsLegal past → (credits past school student year term == 0) ≡ not (list_any (enrolls_in school student year term) past)
  no_credits [] legal = refl
  no_credits (f ∷ past) legal =
      of_two (at_school school (credits_in student year term) f) (latest (at_school school (credits_in student year term)) past)
      (list_any (enrolls_in school student year term) past) (go f.key f.what legal.2) (no_credits past legal.0)
    where
      go : (key : Key) (what : What) → breaks past (record { key = key; what = what }) ≡ None →
          AreSome (at_school school (credits_in student year term) (record { key = key; what = what })) (enrolls_in school student year term (record { key = key; what = what }))
      go key (Enroll e) h =
          let k = all_hold (rules_of past key (Enroll e)) h in
          here (key.school == school) (e.student == student && (e.year == year && e.term == term)) e.credits k.1.1.1.0
      go key (Book b) h = refl
      go key (School b) h = refl
      go key (Calendar b) h = refl
      go key (Prior b) h = refl
      go key (Apply b) h = refl
      go key (Originate b) h = refl
      go key (Pay b) h = refl
      go key (Withdraw b) h = refl
      go key (Repay b) h = refl
      go key (Adjust b) h = refl
      go key (Cost b) h = refl
      go key (Sent b) h = refl
      go key (Amend b) h = refl

-- a first enrollment is one
pub enrolls : (student : ℕ) (past : List Filing) (school : ℕ) (w : What) → is_first_in student past school w ≡ true →
    (e : EnrollFacts) × (w ≡ Enroll e) × ((e.student == student) ≡ true)
enrolls student past school (Enroll e) h = (e, refl, (and_parts (e.student == student) (is_first past school e) h).0)
enrolls student past school (Book b) h = absurd cc
enrolls student past school (School b) h = absurd cc
enrolls student past school (Calendar b) h = absurd cc
enrolls student past school (Prior b) h = absurd cc
enrolls student past school (Apply b) h = absurd cc
enrolls student past school (Originate b) h = absurd cc
enrolls student past school (Pay b) h = absurd cc
enrolls student past school (Withdraw b) h = absurd cc
enrolls student past school (Repay b) h = absurd cc
enrolls student past school (Adjust b) h = absurd cc
enrolls student past school (Cost b) h = absurd cc
enrolls student past school (Sent b) h = absurd cc
enrolls student past school (Amend b) h = absurd cc
