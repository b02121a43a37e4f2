-- Originations of a student.
use Rattle.std.proofs.Common.{◌≡◌, ◌≢◌, ℕ, zero, suc, ◌+◌, ◌<◌, refl, sym, subst, ap, ◌∙◌, arith, Bool, true, false, ◌&&◌, List, [], ◌∷◌, length, reverse, get_or, Option, Some, None, eqb-true, eq-eqb}
use Rattle.std.specs.Prelude.{◌==◌, is_some}
use Rattle.std.proofs.lemmas.List.Elements.{All-contains}
use Rattle.std.proofs.lemmas.Option.{slice_get_within, get_or_from_slice_get}
use Rattle.aid_types.specs.Ranges.{IsBetween}
use Rattle.aid_types.specs.declared.number.Key.{Key}
use Rattle.aid_filings.specs.declared.filing.Filing.{Filing}
use Rattle.aid_filings.specs.declared.filing.OriginateFacts.{OriginateFacts}
use Rattle.aid_filings.specs.declared.filing.What.{What}
use Rattle.aid_filings.specs.declared.filing.What.TheVariants.{Book as BookFiled, School, Calendar, Prior, Apply, Enroll, Originate, Pay, Withdraw, Repay, Adjust, Cost, Sent, Amend}
use Rattle.office_history.specs.Answer.{breaks, IsLegal}
use Rattle.office_history.specs.Positions.{cost_at, full_of, school_at}
use Rattle.office_history.specs.Rules.{rules_of}
use Rattle.office_history.specs.Past.{at_school, first_of_two, given, if_here, originated_in, school_in, the_school}
use Rattle.office_history.proofs.Among.{among_reverse}
use Rattle.aid_types.proofs.Holds.{all_hold, lacks_holds}
use Rattle.office_history.proofs.FactsInRange.{school_in_range}
use Rattle.office_history.proofs.FirstFilings.{first_found, skipped}
use Rattle.office_rounds.specs.Candidates.{originated}
use Rattle.office_rounds.specs.declared.request.RoundRequest.{RoundRequest}

-- the filing originates the student at the school in the year
abbrev pub brings_cost : ℕ → ℕ → ℕ → Filing → Bool
brings_cost school student year f = is_some (at_school school (originated_in student year) f)

pub some_same : (m n : ℕ) → ◌≡◌ {A = Option ℕ} (Some m) (Some n) → m ≡ n
some_same m n e = cc (e)

-- an origination at the school in the year is one of its student
told : (r : RoundRequest) (student : ℕ) (key : Key) (what : What) → originated r key what ≡ Some student → brings_cost r.school student r.year (record { key = key; what = what }) ≡ true
told r student key (Originate o) h = go (key.school == r.school) (o.year == r.year) h
  where
    go : (b d : Bool) → given (b && d) o.student ≡ Some student → is_some (if_here b (given (o.student == student && d) o.cost)) ≡ true
    go true true h = let e : o.student ≡ student = some_same o.student student h in rw (eq-eqb o.student student e) refl
    go true false h = absurd (cc)
    go false d h = absurd (cc)
told r student key (BookFiled b) h = absurd (cc)
told r student key (School b) h = absurd (cc)
told r student key (Calendar b) h = absurd (cc)
told r student key (Prior b) h = absurd (cc)
told r student key (Apply b) h = absurd (cc)
told r student key (Enroll b) h = absurd (cc)
told r student key (Pay b) h = absurd (cc)
told r student key (Withdraw b) h = absurd (cc)
told r student key (Repay b) h = absurd (cc)
told r student key (Adjust b) h = absurd (cc)
told r student key (Cost b) h = absurd (cc)
told r student key (Sent b) h = absurd (cc)
told r student key (Amend b) h = absurd (cc)

-- and a filing that brings a cost of a student there is such an origination
tells : (r : RoundRequest) (student : ℕ) (key : Key) (what : What) → brings_cost r.school student r.year (record { key = key; what = what }) ≡ true → originated r key what ≡ Some student
tells r student key (Originate o) h = go (key.school == r.school) (o.student == student) (o.year == r.year) refl h
  where
    go : (b t d : Bool) → (o.student == student) ≡ t → is_some (if_here b (given (t && d) o.cost)) ≡ true → given (b && d) o.student ≡ Some student
    go true true true e h = ap Some (eqb-true o.student student e)
    go true true false e h = absurd (cc)
    go true false d e h = absurd (cc)
    go false true true e h = absurd (cc)
    go false true false e h = absurd (cc)
    go false false d e h = absurd (cc)
tells r student key (BookFiled b) h = absurd (cc)
tells r student key (School b) h = absurd (cc)
tells r student key (Calendar b) h = absurd (cc)
tells r student key (Prior b) h = absurd (cc)
tells r student key (Apply b) h = absurd (cc)
tells r student key (Enroll b) h = absurd (cc)
tells r student key (Pay b) h = absurd (cc)
tells r student key (Withdraw b) h = absurd (cc)
tells r student key (Repay b) h = absurd (cc)
tells r student key (Adjust b) h = absurd (cc)
tells r student key (Cost b) h = absurd (cc)
tells r student key (Sent b) h = absurd (cc)
tells r student key (Amend b) h = absurd (cc)

above : (n : ℕ) → n ≢ 0 → 0 < n
above zero h = absurd (h refl)
above (suc n) h = omega arith

-- the student of an origination among the filings has a cost on file
pub cost_on_file : (r : RoundRequest) (h : List Filing) (i : ℕ) (f : Filing) (student : ℕ) → i < length h → f ≡ get_or h i f → originated r f.key f.what ≡ Some student
    → 0 < cost_at (reverse h) r.school student r.year
cost_on_file r h i f student lt at is =
    above (cost_at (reverse h) r.school student r.year) (λ none.
    let p = brings_cost r.school student r.year in
    let no : p f ≡ false = All-contains (λ g. p g ≡ false) (reverse h) f (skipped p (reverse h) none) (among_reverse h f (i, lt, sym at)) in
    let yes : p f ≡ true = told r student f.key f.what is in absurd (cc))

-- and a student with a cost on file is one of an origination among them
pub record IsOriginated (r : RoundRequest) (h : List Filing) (student : ℕ) : Type 0 where
  pub index : ℕ
  pub filing : Filing
  pub inside : index < length h
  pub here : filing ≡ get_or h index filing
  pub is : originated r filing.key filing.what ≡ Some student

pub origination_of_cost : (r : RoundRequest) (h : List Filing) (student : ℕ) → 0 < cost_at (reverse h) r.school student r.year → IsOriginated r h student
origination_of_cost r h student some = go (cost_at (reverse h) r.school student r.year) refl some
  where
    go : (n : ℕ) → cost_at (reverse h) r.school student r.year ≡ n → 0 < n → IsOriginated r h student
    go zero e lt = absurd (omega arith)
    go (suc i) e lt =
        let first = first_found (brings_cost r.school student r.year) h i (e ∙ omega arith) in
        record {
          index = i;
          filing = first.filing;
          inside = slice_get_within h i first.filing first.here;
          here = sym (get_or_from_slice_get h i first.filing first.filing first.here);
          is = tells r student first.filing.key first.filing.what first.accepted;
        }

-- a school that has originated a student is on file
stays : (b : Bool) (k n : ℕ) → 0 < k → 0 < first_of_two b k n
stays false k n h = h
stays true zero n h = omega arith
stays true (suc k) n h = h

pub school_known : (past : List Filing) → IsLegal past → (school student year : ℕ) → 0 < cost_at past school student year → 0 < school_at past school
school_known [] legal school student year some = absurd (omega arith)
school_known (f ∷ past) legal school student year some =
    stays (is_some (school_in school f.what)) (school_at past school) (length past + 1)
    (go f.key f.what legal.2 some (school_known past legal.0 school student year))
  where
    there : (key : Key) (o : OriginateFacts) (b d : Bool) → (key.school == school) ≡ b → breaks past (record { key = key; what = Originate o }) ≡ None
        → 0 < first_of_two (is_some (if_here b (given d o.cost))) (cost_at past school student year) (length past + 1)
        → (0 < cost_at past school student year → 0 < school_at past school) → 0 < school_at past school
    there key o true d e rule some ih =
        let k = all_hold (rules_of past key (Originate o)) rule in
        subst (λ (s : ℕ). 0 < school_at past s) (eqb-true key.school school e) (lacks_holds 12 (school_at past key.school) key.school 0 k.1.0)
    there key o false true e rule some ih = ih some
    there key o false false e rule some ih = ih some

    go : (key : Key) (what : What) → breaks past (record { key = key; what = what }) ≡ None → 0 < cost_at (record { key = key; what = what } ∷ past) school student year
        → (0 < cost_at past school student year → 0 < school_at past school) → 0 < school_at past school
    go key (Originate o) rule some ih = there key o (key.school == school) (o.student == student && o.year == year) refl rule some ih
    go key (BookFiled b) rule some ih = ih some
    go key (School b) rule some ih = ih some
    go key (Calendar b) rule some ih = ih some
    go key (Prior b) rule some ih = ih some
    go key (Apply b) rule some ih = ih some
    go key (Enroll b) rule some ih = ih some
    go key (Pay b) rule some ih = ih some
    go key (Withdraw b) rule some ih = ih some
    go key (Repay b) rule some ih = ih some
    go key (Adjust b) rule some ih = ih some
    go key (Cost b) rule some ih = ih some
    go key (Sent b) rule some ih = ih some
    go key (Amend b) rule some ih = ih some

-- so its full-time credits are in their range
pub full_fits : (past : List Filing) → IsLegal past → (school student year : ℕ) → 0 < cost_at past school student year → (full : ℕ) → full ≡ full_of (the_school past school) → IsBetween 1 40 full
full_fits past legal school student year some full is =
    let known = school_known past legal school student year some in
    subst (IsBetween 1 40) (sym is) (school_in_range past school (λ none. absurd (omega (arith, known, none)))).1
