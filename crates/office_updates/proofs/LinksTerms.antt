-- A walk along the terms of a school: the older filings that are left may still tell what goes before what was found so far.
use Rattle.std.proofs.Common.{◌≡◌, ℕ, zero, suc, ◌+◌, ◌-◌, ◌*◌, ◌<◌, ◌≤◌, refl, sym, ap, ◌∙◌, arith, cond, Bool, true, false, ◌&&◌, not, List, [], ◌∷◌, length, reverse, get_or, Option, Some, None}
use Rattle.std.specs.Prelude.{◌==◌, count_by, is_some}
use Rattle.std.specs.List.{cons_option, filter}
use Rattle.std.proofs.lemmas.List.Sums.{count_by-le-length, sum_by-cons}
use Rattle.aid_filings.specs.Calendars.{term_of}
use Rattle.aid_types.specs.declared.number.Key.{Key}
use Rattle.aid_types.specs.declared.term.Term.{Term}
use Rattle.aid_filings.specs.declared.filing.CalendarFacts.{CalendarFacts}
use Rattle.aid_filings.specs.declared.filing.Filing.{Filing}
use Rattle.aid_filings.specs.declared.filing.What.{What}
use Rattle.aid_filings.specs.declared.filing.What.TheVariants.{Book, School, Calendar, Prior, Apply, Enroll, Originate, Pay, Withdraw, Repay, Adjust, Cost, Sent, Amend}
use Rattle.law_terms.specs.Terms.{shares_day}
use Rattle.office_history.specs.Positions.{term_at}
use Rattle.office_history.specs.Past.{FiledTerm, at_school, earlier, earliest, first_at, first_of_two, given, if_here, later, on_file, term_in, terms_on_file, the_term}
use Rattle.office_history.specs.FiledTerms.{is_main_term, is_overlapping}
use Rattle.office_history.specs.Rows.{calendar_row, term_row, terms_at}
use Rattle.office_history.specs.declared.rows.CalendarRow.{CalendarRow}
use Rattle.office_history.specs.declared.rows.TermRow.{TermRow}
use Rattle.office_history.proofs.FiledTerms.{overlap_place}
use Rattle.office_updates.specs.Links.{befores_of, is_calendar, is_term_of, last_at, newest_term}
use Rattle.office_updates.specs.Walks.{is_main, overlaps}
use Rattle.office_updates.proofs.LinksChain.{IsAlong, IsStep, along_end, along_start, along_step, skip, skip_all, terms_tell}

-- what was found so far, with one step more, where only filings that pass can be found
module _ (p : Filing → Bool) (h : List Filing) (befores : List ℕ) (older : List Filing) (n : ℕ) (s : IsStep (λ past. p) h befores older n) where
  pub walked_first : (q : Filing → Bool) → ((f : Filing) → p f ≡ false → q f ≡ false) → (total acc : ℕ) →
      total ≡ first_of_two true (first_at q older) acc → total ≡ first_of_two true (first_at q s.rest) (cond (q s.filing) n acc)
  walked_first q only total acc e =
      e
      ∙ ap (λ (k : ℕ). first_of_two true k acc)
      (ap (first_at q) s.split ∙ skip (first_at q) (λ past. p) (λ f past fails. rw (only f fails) refl) s.skipped (s.filing ∷ s.rest) s.none)
      ∙ one (q s.filing) (first_at q s.rest) (length s.rest + 1) s.place (omega arith)
    where
      one : (b : Bool) (r here : ℕ) → here ≡ n → 0 < here → first_of_two true (first_of_two b r here) acc ≡ first_of_two true r (cond b n acc)
      one false r here e pos = refl
      one true (suc r) here e pos = refl
      one true zero zero e pos = absurd (omega arith)
      one true zero (suc k) e pos = e

  pub walked_earliest : {A : Type 0} (operation : Filing → Option A) → ((f : Filing) → p f ≡ false → operation f ≡ None) → (total acc : Option A) →
      total ≡ earlier acc (earliest operation older) → total ≡ earlier (later (operation s.filing) acc) (earliest operation s.rest)
  walked_earliest {A} operation only total acc e =
      e
      ∙ ap (earlier acc) (ap (earliest operation) s.split ∙ skip (earliest operation) (λ past. p) (λ f past fails. rw (only f fails) refl) s.skipped (s.filing ∷ s.rest) s.none)
      ∙ one (operation s.filing) (earliest operation s.rest) acc
    where
      one : (new r acc : Option A) → earlier acc (earlier new r) ≡ earlier (later new acc) r
      one None r acc = refl
      one (Some a) None None = refl
      one (Some a) None (Some b) = refl
      one (Some a) (Some x) None = refl
      one (Some a) (Some x) (Some b) = refl

  pub walked_count : (q : Filing → Bool) → ((f : Filing) → p f ≡ false → q f ≡ false) → (total acc : ℕ) →
      total ≡ count_by q older + acc → total ≡ count_by q s.rest + (acc + cond (q s.filing) 1 0)
  walked_count q only total acc e =
      let there : count_by q older ≡ cond (q s.filing) 1 0 + count_by q s.rest =
      ap (count_by q) s.split ∙ skip (count_by q) (λ past. p) fewer s.skipped (s.filing ∷ s.rest) s.none ∙ sum_by-cons (λ g. cond (q g) 1 0) s.filing s.rest in
      joined total acc (count_by q older) (cond (q s.filing) 1 0) (count_by q s.rest) e there
    where
      fewer : (f : Filing) (past : List Filing) → p f ≡ false → count_by q (f ∷ past) ≡ count_by q past
      fewer f past fails = sum_by-cons (λ g. cond (q g) 1 0) f past ∙ ap (λ (b : Bool). cond b 1 0 + count_by q past) (only f fails) ∙ from_none (count_by q past)
        where
          from_none : (k : ℕ) → 0 + k ≡ k
          from_none k = omega arith

      joined : (total acc a b c : ℕ) → total ≡ a + acc → a ≡ b + c → total ≡ c + (acc + b)
      joined total acc a b c e k = omega arith

  -- the one of the step is the newest of those that are left
  pub walked_one : count_by p older ≡ count_by p s.rest + 1
  walked_one = one (p s.filing) (count_by p older) (count_by p s.rest) s.passes (walked_count p (λ f fails. fails) (count_by p older) 0 (omega arith))
    where
      one : (b : Bool) (m n : ℕ) → b ≡ true → m ≡ n + (0 + cond b 1 0) → m ≡ n + 1
      one true m n e h = omega arith
      one false m n e h = absurd cc

-- nothing found so far, and nothing left
found_none : (n : ℕ) → n ≡ first_of_two true n 0
found_none zero = refl
found_none (suc n) = refl

module _ (p : Filing → Bool) (older : List Filing) (over : last_at (λ past. p) older ≡ 0) where
  ended_first : (q : Filing → Bool) → ((f : Filing) → p f ≡ false → q f ≡ false) → (total acc : ℕ) →
      total ≡ first_of_two true (first_at q older) acc → total ≡ acc
  ended_first q only total acc e =
      e ∙ ap (λ (k : ℕ). first_of_two true k acc) (skip_all (first_at q) (λ past. p) (λ f past fails. rw (only f fails) refl) older over)

  ended_earliest : {A : Type 0} (operation : Filing → Option A) → ((f : Filing) → p f ≡ false → operation f ≡ None) → (total acc : Option A) →
      total ≡ earlier acc (earliest operation older) → total ≡ acc
  ended_earliest {A} operation only total acc e =
      e ∙ ap (earlier acc) (skip_all (earliest operation) (λ past. p) (λ f past fails. rw (only f fails) refl) older over) ∙ same acc
    where
      same : (acc : Option A) → earlier acc None ≡ acc
      same None = refl
      same (Some a) = refl

  ended_count : (q : Filing → Bool) → ((f : Filing) → p f ≡ false → q f ≡ false) → (total acc : ℕ) →
      total ≡ count_by q older + acc → total ≡ acc
  ended_count q only total acc e =
      let none : count_by q older ≡ 0 = skip_all (count_by q) (λ past. p) fewer older over in
      omega arith
    where
      fewer : (f : Filing) (past : List Filing) → p f ≡ false → count_by q (f ∷ past) ≡ count_by q past
      fewer f past fails = sum_by-cons (λ g. cond (q g) 1 0) f past ∙ ap (λ (b : Bool). cond b 1 0 + count_by q past) (only f fails) ∙ from_none (count_by q past)
        where
          from_none : (k : ℕ) → 0 + k ≡ k
          from_none k = omega arith

  -- so none is left to look at
  ended_none : count_by p older ≡ 0
  ended_none = ended_count p (λ f fails. fails) (count_by p older) 0 (omega arith)

-- terms on file are counted filing by filing
abbrev is_told : (FiledTerm → Bool) → Option FiledTerm → Bool
is_told q None = false
is_told q (Some t) = q t

counted : (q : FiledTerm → Bool) (r : Filing → Bool) → ((f : Filing) (here : ℕ) → is_told q (on_file f.key.school here f.what) ≡ r f) → (past : List Filing) →
    length (filter q (terms_on_file past)) ≡ count_by r past
counted q r same [] = refl
counted q r same (f ∷ past) =
    one (on_file f.key.school (length past + 1) f.what) (terms_on_file past)
    ∙ ap (λ (b : Bool). cond b 1 0 + length (filter q (terms_on_file past))) (same f (length past + 1))
    ∙ ap (λ (k : ℕ). cond (r f) 1 0 + k) (counted q r same past)
    ∙ sym (sum_by-cons (λ g. cond (r g) 1 0) f past)
  where
    more : (b : Bool) (t : FiledTerm) (ts : List FiledTerm) → length (cond b (t ∷ ts) ts) ≡ cond b 1 0 + length ts
    more true t ts = omega arith
    more false t ts = omega arith

    one : (o : Option FiledTerm) (ts : List FiledTerm) → length (filter q (cons_option o ts)) ≡ cond (is_told q o) 1 0 + length (filter q ts)
    one None ts = omega arith
    one (Some t) ts = more (q t) t (filter q ts)

pub terms_counted : (past : List Filing) (school : ℕ) → terms_at past school ≡ count_by (is_term_of school) past
terms_counted past school = counted (λ t. t.school == school) (is_term_of school) (λ f here. go f.key here f.what) past
  where
    mine : (b : Bool) → b ≡ cond b true false
    mine true = refl
    mine false = refl

    other : (b : Bool) → false ≡ cond b false false
    other true = refl
    other false = refl

    go : (key : Key) (here : ℕ) (w : What) → is_told (λ t. t.school == school) (on_file key.school here w) ≡ is_term_of school (record { key = key; what = w })
    go key here (Calendar c) = mine (key.school == school)
    go key here (Book b) = other (key.school == school)
    go key here (School b) = other (key.school == school)
    go key here (Prior b) = other (key.school == school)
    go key here (Apply b) = other (key.school == school)
    go key here (Enroll b) = other (key.school == school)
    go key here (Originate b) = other (key.school == school)
    go key here (Pay b) = other (key.school == school)
    go key here (Withdraw b) = other (key.school == school)
    go key here (Repay b) = other (key.school == school)
    go key here (Adjust b) = other (key.school == school)
    go key here (Cost b) = other (key.school == school)
    go key here (Sent b) = other (key.school == school)
    go key here (Amend b) = other (key.school == school)

pub mains_counted : (past : List Filing) (school year : ℕ) →
    length (filter (λ t. t.school == school && (t.year == year && not t.term.extra)) (terms_on_file past)) ≡ count_by (λ f. is_main_term school year f.key.school f.what) past
mains_counted past school year =
    counted (λ t. t.school == school && (t.year == year && not t.term.extra)) (λ f. is_main_term school year f.key.school f.what) (λ f here. go f.key here f.what) past
  where
    go : (key : Key) (here : ℕ) (w : What) →
        is_told (λ t. t.school == school && (t.year == year && not t.term.extra)) (on_file key.school here w) ≡ is_main_term school year key.school w
    go key here (Calendar c) = refl
    go key here (Book b) = refl
    go key here (School b) = refl
    go key here (Prior b) = refl
    go key here (Apply b) = refl
    go key here (Enroll b) = refl
    go key here (Originate b) = refl
    go key here (Pay b) = refl
    go key here (Withdraw b) = refl
    go key here (Repay b) = refl
    go key here (Adjust b) = refl
    go key here (Cost b) = refl
    go key here (Sent b) = refl
    go key here (Amend b) = refl

-- a filing that is no term of the school tells none, and of one that is a term the school is known
module _ (school : ℕ) where
  pub no_term : (year number : ℕ) (f : Filing) → is_term_of school f ≡ false → at_school school (term_in year number) f ≡ None
  no_term year number f h = go f.key f.what h
    where
      nothing : (b : Bool) (o : Option Term) → cond b true false ≡ false → if_here b o ≡ None
      nothing b None h = refl
      nothing false (Some t) h = refl
      nothing true (Some t) h = absurd cc

      go : (key : Key) (w : What) → is_term_of school (record { key = key; what = w }) ≡ false → at_school school (term_in year number) (record { key = key; what = w }) ≡ None
      go key (Calendar c) h = nothing (key.school == school) (given (c.year == year && c.term == number) (term_of c)) h
      go key (Book b) h = refl
      go key (School b) h = refl
      go key (Prior b) h = refl
      go key (Apply b) h = refl
      go key (Enroll b) h = refl
      go key (Originate b) h = refl
      go key (Pay b) h = refl
      go key (Withdraw b) h = refl
      go key (Repay b) h = refl
      go key (Adjust b) h = refl
      go key (Cost b) h = refl
      go key (Sent b) h = refl
      go key (Amend b) h = refl

  -- so a test on a calendar of the school fails
  no_other : (test : CalendarFacts → Bool) (r : ℕ → What → Bool) → ((filer : ℕ) (c : CalendarFacts) → r filer (Calendar c) ≡ (filer == school && test c)) →
      ((filer : ℕ) (w : What) → is_calendar w ≡ false → r filer w ≡ false) → (f : Filing) → is_term_of school f ≡ false → r f.key.school f.what ≡ false
  no_other test r of_calendar of_other f h = go f.key f.what h
    where
      nothing : (b x : Bool) → cond b true false ≡ false → (b && x) ≡ false
      nothing false x h = refl
      nothing true x h = absurd cc

      go : (key : Key) (w : What) → is_term_of school (record { key = key; what = w }) ≡ false → r key.school w ≡ false
      go key (Calendar c) h = of_calendar key.school c ∙ nothing (key.school == school) (test c) h
      go key (Book b) h = of_other key.school (Book b) refl
      go key (School b) h = of_other key.school (School b) refl
      go key (Prior b) h = of_other key.school (Prior b) refl
      go key (Apply b) h = of_other key.school (Apply b) refl
      go key (Enroll b) h = of_other key.school (Enroll b) refl
      go key (Originate b) h = of_other key.school (Originate b) refl
      go key (Pay b) h = of_other key.school (Pay b) refl
      go key (Withdraw b) h = of_other key.school (Withdraw b) refl
      go key (Repay b) h = of_other key.school (Repay b) refl
      go key (Adjust b) h = of_other key.school (Adjust b) refl
      go key (Cost b) h = of_other key.school (Cost b) refl
      go key (Sent b) h = of_other key.school (Sent b) refl
      go key (Amend b) h = of_other key.school (Amend b) refl

  pub filed_here : (f : Filing) → is_term_of school f ≡ true → (f.key.school == school) ≡ true
  filed_here f h = go (f.key.school == school) (is_calendar f.what) h
    where
      go : (b x : Bool) → cond b x false ≡ true → b ≡ true
      go true x h = refl
      go false x h = h

  pub asked_here : {A : Type 0} (operation : What → Option A) (f : Filing) → is_term_of school f ≡ true → at_school school operation f ≡ operation f.what
  asked_here {A} operation f h = go (f.key.school == school) (operation f.what) (filed_here f h)
    where
      go : (b : Bool) (o : Option A) → b ≡ true → if_here b o ≡ o
      go b None h = refl
      go true (Some a) h = refl
      go false (Some a) h = absurd cc

  no_overlap : (term : Term) (f : Filing) → is_term_of school f ≡ false → is_overlapping school term f.key.school f.what ≡ false
  no_overlap term = no_other (λ c. shares_day term (term_of c)) (is_overlapping school term) (λ filer c. refl) none
    where
      none : (filer : ℕ) (w : What) → is_calendar w ≡ false → is_overlapping school term filer w ≡ false
      none filer (Calendar c) h = absurd cc
      none filer (Book b) h = refl
      none filer (School b) h = refl
      none filer (Prior b) h = refl
      none filer (Apply b) h = refl
      none filer (Enroll b) h = refl
      none filer (Originate b) h = refl
      none filer (Pay b) h = refl
      none filer (Withdraw b) h = refl
      none filer (Repay b) h = refl
      none filer (Adjust b) h = refl
      none filer (Cost b) h = refl
      none filer (Sent b) h = refl
      none filer (Amend b) h = refl

  no_main : (year : ℕ) (f : Filing) → is_term_of school f ≡ false → is_main_term school year f.key.school f.what ≡ false
  no_main year = no_other (λ c. c.year == year && not c.extra) (is_main_term school year) (λ filer c. refl) none
    where
      none : (filer : ℕ) (w : What) → is_calendar w ≡ false → is_main_term school year filer w ≡ false
      none filer (Calendar c) h = absurd cc
      none filer (Book b) h = refl
      none filer (School b) h = refl
      none filer (Prior b) h = refl
      none filer (Apply b) h = refl
      none filer (Enroll b) h = refl
      none filer (Originate b) h = refl
      none filer (Pay b) h = refl
      none filer (Withdraw b) h = refl
      none filer (Repay b) h = refl
      none filer (Adjust b) h = refl
      none filer (Cost b) h = refl
      none filer (Sent b) h = refl
      none filer (Amend b) h = refl

  -- a term of the school is judged by its calendar
  overlap_here : (term : Term) (f : Filing) → is_term_of school f ≡ true → is_overlapping school term f.key.school f.what ≡ overlaps term f.what
  overlap_here term f h = go f.what (filed_here f h)
    where
      go : (w : What) → (f.key.school == school) ≡ true → is_overlapping school term f.key.school w ≡ overlaps term w
      go (Calendar c) e = rw e refl
      go (Book b) e = refl
      go (School b) e = refl
      go (Prior b) e = refl
      go (Apply b) e = refl
      go (Enroll b) e = refl
      go (Originate b) e = refl
      go (Pay b) e = refl
      go (Withdraw b) e = refl
      go (Repay b) e = refl
      go (Adjust b) e = refl
      go (Cost b) e = refl
      go (Sent b) e = refl
      go (Amend b) e = refl

  main_here : (year : ℕ) (f : Filing) → is_term_of school f ≡ true → is_main_term school year f.key.school f.what ≡ is_main year f.what
  main_here year f h = go f.what (filed_here f h)
    where
      go : (w : What) → (f.key.school == school) ≡ true → is_main_term school year f.key.school w ≡ is_main year w
      go (Calendar c) e = rw e refl
      go (Book b) e = refl
      go (School b) e = refl
      go (Prior b) e = refl
      go (Apply b) e = refl
      go (Enroll b) e = refl
      go (Originate b) e = refl
      go (Pay b) e = refl
      go (Withdraw b) e = refl
      go (Repay b) e = refl
      go (Adjust b) e = refl
      go (Cost b) e = refl
      go (Sent b) e = refl
      go (Amend b) e = refl

-- the term of the school at a position on its chain
pub term_at_hand : (h : List Filing) (befores : List ℕ) (school : ℕ) (older : List Filing) (n : ℕ) → befores ≡ befores_of (reverse h) →
    IsAlong (λ past. is_term_of school) (reverse h) older n → 0 < n → IsStep (λ past. is_term_of school) h befores older n
term_at_hand h befores school older n linked along pos = along_step (λ past. is_term_of school) h befores older n (terms_tell school) linked along pos

-- a walk for a term of a year and a number: what was found so far stands unless an older filing tells
pub record IsTermWalk (past : List Filing) (school year number position : ℕ) (row : TermRow) (steps begun : ℕ) : Type 0 where
  pub older : List Filing
  pub along : IsAlong (λ past. is_term_of school) past older position
  pub place : term_at past school year number ≡ first_of_two true (term_at older school year number) row.at
  pub term : the_term past school year number ≡ earlier row.term (the_term older school year number)
  pub rising : begun ≤ steps
  pub cost : steps + 2 * count_by (is_term_of school) older ≡ begun + 2 * terms_at past school

pub term_start : (past : List Filing) (school year number newest steps : ℕ) → newest ≡ newest_term past school →
    IsTermWalk past school year number newest (record { at = 0; term = None }) steps steps
term_start past school year number newest steps e = record {
  older = past;
  along = along_start (λ past. is_term_of school) past newest e;
  place = found_none (term_at past school year number);
  term = refl;
  rising = omega arith;
  cost = omega (arith, terms_counted past school);
}

pub term_step : (h : List Filing) (befores : List ℕ) (school year number n : ℕ) (row : TermRow) (steps begun : ℕ) →
    befores ≡ befores_of (reverse h) → (w : IsTermWalk (reverse h) school year number n row steps begun) → 0 < n →
    (f : Filing) → f ≡ get_or h (n - 1) f → (d : ℕ) (next : TermRow) (after : ℕ) → after ≡ steps + 2 →
    next.at ≡ cond (is_some (term_in year number f.what)) n row.at → next.term ≡ later (term_in year number f.what) row.term →
    IsTermWalk (reverse h) school year number (get_or befores (n - 1) d) next after begun
term_step h befores school year number n row steps begun linked w pos f read d next after two at_is term_is =
    let s = term_at_hand h befores school w.older n linked w.along pos in
    let same : f ≡ s.filing = read ∙ s.read f in
    let asked : at_school school (term_in year number) s.filing ≡ term_in year number f.what =
    asked_here school (term_in year number) s.filing s.passes ∙ ap (λ (x : Filing). term_in year number x.what) (sym same) in
    record {
      older = s.rest;
      along = s.along d;
      place =
          walked_first (is_term_of school) h befores w.older n s (λ x. is_some (at_school school (term_in year number) x))
          (λ x fails. ap is_some (no_term school year number x fails)) (term_at (reverse h) school year number) row.at w.place
          ∙ ap (λ (o : Option Term). first_of_two true (term_at s.rest school year number) (cond (is_some o) n row.at)) asked
          ∙ ap (λ (k : ℕ). first_of_two true (term_at s.rest school year number) k) (sym at_is);
      term =
          walked_earliest (is_term_of school) h befores w.older n s (at_school school (term_in year number)) (no_term school year number)
          (the_term (reverse h) school year number) row.term w.term
          ∙ ap (λ (o : Option Term). earlier (later o row.term) (the_term s.rest school year number)) asked
          ∙ ap (λ (o : Option Term). earlier o (the_term s.rest school year number)) (sym term_is);
      rising = let old = w.rising in omega arith;
      cost = let k = walked_one (is_term_of school) h befores w.older n s in let old = w.cost in omega arith;
    }

pub term_end : (past : List Filing) (school year number n : ℕ) (row : TermRow) (steps begun : ℕ) → IsTermWalk past school year number n row steps begun → n ≡ 0 →
    row ≡ term_row past school year number
term_end past school year number n row steps begun w e =
    let over = along_end (λ past. is_term_of school) past w.older n w.along e in
    let place : term_at past school year number ≡ row.at =
    ended_first (is_term_of school) w.older over (λ x. is_some (at_school school (term_in year number) x))
    (λ x fails. ap is_some (no_term school year number x fails)) (term_at past school year number) row.at w.place in
    let term : the_term past school year number ≡ row.term =
    ended_earliest (is_term_of school) w.older over (at_school school (term_in year number)) (no_term school year number)
    (the_term past school year number) row.term w.term in
    ap (λ (k : ℕ). record { at = k; term = row.term }) (sym place) ∙ ap (λ (o : Option Term). record { at = term_at past school year number; term = o }) (sym term)

pub term_looks : (past : List Filing) (school year number n : ℕ) (row : TermRow) (steps begun : ℕ) → IsTermWalk past school year number n row steps begun → n ≡ 0 →
    steps ≡ begun + 2 * terms_at past school
term_looks past school year number n row steps begun w e =
    let none = ended_none (is_term_of school) w.older (along_end (λ past. is_term_of school) past w.older n w.along e) in
    let all = w.cost in
    omega arith

-- a walk for what the terms say of a calendar
pub record IsCalendarWalk (past : List Filing) (school : ℕ) (c : CalendarFacts) (position : ℕ) (row : CalendarRow) (steps begun : ℕ) : Type 0 where
  pub older : List Filing
  pub along : IsAlong (λ past. is_term_of school) past older position
  pub place : term_at past school c.year c.term ≡ first_of_two true (term_at older school c.year c.term) row.term_at
  pub overlap : first_at (λ f. is_overlapping school (term_of c) f.key.school f.what) past
      ≡ first_of_two true (first_at (λ f. is_overlapping school (term_of c) f.key.school f.what) older) row.overlap_at
  pub mains : count_by (λ f. is_main_term school c.year f.key.school f.what) past ≡ count_by (λ f. is_main_term school c.year f.key.school f.what) older + row.main_terms
  pub cost : steps + 2 * count_by (is_term_of school) older ≡ begun + 2 * terms_at past school

pub calendar_start : (past : List Filing) (school : ℕ) (c : CalendarFacts) (newest steps : ℕ) → newest ≡ newest_term past school →
    IsCalendarWalk past school c newest (record { term_at = 0; overlap_at = 0; main_terms = 0 }) steps steps
calendar_start past school c newest steps e = record {
  older = past;
  along = along_start (λ past. is_term_of school) past newest e;
  place = found_none (term_at past school c.year c.term);
  overlap = found_none (first_at (λ f. is_overlapping school (term_of c) f.key.school f.what) past);
  mains = none_more (count_by (λ f. is_main_term school c.year f.key.school f.what) past);
  cost = omega (arith, terms_counted past school);
}
  where
    none_more : (k : ℕ) → k ≡ k + 0
    none_more k = omega arith

pub calendar_step : (h : List Filing) (befores : List ℕ) (school : ℕ) (c : CalendarFacts) (n : ℕ) (row : CalendarRow) (steps begun : ℕ) →
    befores ≡ befores_of (reverse h) → (w : IsCalendarWalk (reverse h) school c n row steps begun) → 0 < n →
    (f : Filing) → f ≡ get_or h (n - 1) f → (d : ℕ) (next : CalendarRow) (after : ℕ) → after ≡ steps + 2 →
    next.term_at ≡ cond (is_some (term_in c.year c.term f.what)) n row.term_at →
    next.overlap_at ≡ cond (overlaps (term_of c) f.what) n row.overlap_at →
    next.main_terms ≡ row.main_terms + cond (is_main c.year f.what) 1 0 →
    IsCalendarWalk (reverse h) school c (get_or befores (n - 1) d) next after begun
calendar_step h befores school c n row steps begun linked w pos f read d next after two at_is overlap_is mains_is =
    let s = term_at_hand h befores school w.older n linked w.along pos in
    let same : f ≡ s.filing = read ∙ s.read f in
    let asked : at_school school (term_in c.year c.term) s.filing ≡ term_in c.year c.term f.what =
    asked_here school (term_in c.year c.term) s.filing s.passes ∙ ap (λ (x : Filing). term_in c.year c.term x.what) (sym same) in
    let shared : is_overlapping school (term_of c) s.filing.key.school s.filing.what ≡ overlaps (term_of c) f.what =
    overlap_here school (term_of c) s.filing s.passes ∙ ap (λ (x : Filing). overlaps (term_of c) x.what) (sym same) in
    let main : is_main_term school c.year s.filing.key.school s.filing.what ≡ is_main c.year f.what =
    main_here school c.year s.filing s.passes ∙ ap (λ (x : Filing). is_main c.year x.what) (sym same) in
    record {
      older = s.rest;
      along = s.along d;
      place =
          walked_first (is_term_of school) h befores w.older n s (λ x. is_some (at_school school (term_in c.year c.term) x))
          (λ x fails. ap is_some (no_term school c.year c.term x fails)) (term_at (reverse h) school c.year c.term) row.term_at w.place
          ∙ ap (λ (o : Option Term). first_of_two true (term_at s.rest school c.year c.term) (cond (is_some o) n row.term_at)) asked
          ∙ ap (λ (k : ℕ). first_of_two true (term_at s.rest school c.year c.term) k) (sym at_is);
      overlap =
          walked_first (is_term_of school) h befores w.older n s (λ x. is_overlapping school (term_of c) x.key.school x.what)
          (no_overlap school (term_of c)) _ row.overlap_at w.overlap
          ∙ ap (λ (b : Bool). first_of_two true (first_at (λ x. is_overlapping school (term_of c) x.key.school x.what) s.rest) (cond b n row.overlap_at)) shared
          ∙ ap (λ (k : ℕ). first_of_two true (first_at (λ x. is_overlapping school (term_of c) x.key.school x.what) s.rest) k) (sym overlap_is);
      mains =
          walked_count (is_term_of school) h befores w.older n s (λ x. is_main_term school c.year x.key.school x.what)
          (no_main school c.year) _ row.main_terms w.mains
          ∙ ap (λ (b : Bool). count_by (λ x. is_main_term school c.year x.key.school x.what) s.rest + (row.main_terms + cond b 1 0)) main
          ∙ ap (λ (k : ℕ). count_by (λ x. is_main_term school c.year x.key.school x.what) s.rest + k) (sym mains_is);
      cost = let k = walked_one (is_term_of school) h befores w.older n s in let old = w.cost in omega arith;
    }

-- the main terms found so far are no more than the filings
pub mains_few : (past : List Filing) (school : ℕ) (c : CalendarFacts) (n : ℕ) (row : CalendarRow) (steps begun : ℕ) → IsCalendarWalk past school c n row steps begun →
    row.main_terms ≤ length past
mains_few past school c n row steps begun w =
    let m = w.mains in
    let k = count_by-le-length (λ f. is_main_term school c.year f.key.school f.what) past in
    omega arith

pub calendar_end : (past : List Filing) (school : ℕ) (c : CalendarFacts) (n : ℕ) (row : CalendarRow) (steps begun : ℕ) → IsCalendarWalk past school c n row steps begun → n ≡ 0 →
    row ≡ calendar_row past school c
calendar_end past school c n row steps begun w e =
    let over = along_end (λ past. is_term_of school) past w.older n w.along e in
    let place : term_at past school c.year c.term ≡ row.term_at =
    ended_first (is_term_of school) w.older over (λ x. is_some (at_school school (term_in c.year c.term) x))
    (λ x fails. ap is_some (no_term school c.year c.term x fails)) (term_at past school c.year c.term) row.term_at w.place in
    let overlap : (calendar_row past school c).overlap_at ≡ row.overlap_at =
    sym (overlap_place school (term_of c) past)
    ∙ ended_first (is_term_of school) w.older over (λ x. is_overlapping school (term_of c) x.key.school x.what) (no_overlap school (term_of c)) _ row.overlap_at w.overlap in
    let mains : (calendar_row past school c).main_terms ≡ row.main_terms =
    mains_counted past school c.year
    ∙ ended_count (is_term_of school) w.older over (λ x. is_main_term school c.year x.key.school x.what) (no_main school c.year) _ row.main_terms w.mains in
    ap (λ (k : ℕ). record { term_at = k; overlap_at = row.overlap_at; main_terms = row.main_terms }) (sym place)
    ∙ ap (λ (k : ℕ). record { term_at = term_at past school c.year c.term; overlap_at = k; main_terms = row.main_terms }) (sym overlap)
    ∙ ap (λ (k : ℕ). record { term_at = term_at past school c.year c.term; overlap_at = (calendar_row past school c).overlap_at; main_terms = k }) (sym mains)

pub calendar_looks : (past : List Filing) (school : ℕ) (c : CalendarFacts) (n : ℕ) (row : CalendarRow) (steps begun : ℕ) → IsCalendarWalk past school c n row steps begun → n ≡ 0 →
    steps ≡ begun + 2 * terms_at past school
calendar_looks past school c n row steps begun w e =
    let none = ended_none (is_term_of school) w.older (along_end (λ past. is_term_of school) past w.older n w.along e) in
    let all = w.cost in
    omega arith
