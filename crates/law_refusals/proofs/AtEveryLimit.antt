-- A list of filings that stands at each limit: a student has a term at one school, and from the day after it a term and an extra one at
-- another. No student stands above a limit in it.
use Rattle.std.proofs.Common.{◌≡◌, ◌≢◌, ℕ, ◌+◌, ◌-◌, ◌*◌, ◌≤◌, ◌<◌, refl, sym, ap, subst, ◌∙◌, arith, cond, Bool, true, false, ◌&&◌, List, [], ◌∷◌, Option, Some, IsTrue, eq-eqb, ne_eqb, eqb-true, zero, suc, ◌⊎◌, inl, inr}
use Rattle.std.specs.Prelude.{◌==◌}
use Rattle.aid_types.specs.Ranges.{IsBetween}
use Rattle.aid_types.specs.declared.application.Application.{Application}
use Rattle.aid_types.specs.declared.number.Key.{Key}
use Rattle.aid_types.specs.declared.number.Program.{Program}
use Rattle.aid_types.specs.declared.number.Program.TheVariants.{Unsub, Sub, Pell}
use Rattle.aid_types.specs.declared.term.Term.{Term}
use Rattle.aid_types.specs.Nearest.{half_up}
use Rattle.aid_books.specs.declared.book.Book.{Book}
use Rattle.aid_filings.specs.Calendars.{term_of}
use Rattle.aid_filings.specs.declared.filing.Amount.{Amount}
use Rattle.aid_filings.specs.declared.filing.CalendarFacts.{CalendarFacts}
use Rattle.aid_filings.specs.declared.filing.EnrollFacts.{EnrollFacts}
use Rattle.aid_filings.specs.declared.filing.Filing.{Filing}
use Rattle.aid_filings.specs.declared.filing.OriginateFacts.{OriginateFacts}
use Rattle.aid_filings.specs.declared.filing.SchoolFacts.{SchoolFacts}
use Rattle.aid_filings.specs.declared.filing.What.TheVariants as whats
use Rattle.law_terms.specs.Terms.{intensity_of, payment_of, shares_day}
use Rattle.law_terms.specs.Used.{use_of}
use Rattle.office_history.specs.Award.{scheduled}
use Rattle.office_history.specs.Net.{Cell, all_years, at_school_in_year, cell_at, in_main_terms, in_year, is_cell, net, net_at, paid, pell_main, pell_term, pell_year, sum_over, taken, use_in, used}
use Rattle.office_history.specs.Past.{cost, credits, the_term}
use Rattle.office_history.specs.Positions.{payment_at}
use Rattle.office_history.specs.Within.{IsWithinEveryLimit}
use Rattle.office_history.proofs.Cells.{same_cell}
use Rattle.office_history.proofs.Lifetime.{but, years_but_one}
use Rattle.law_refusals.specs.Reached.{HasAward}

sum_of_none : (g : ℕ → ℕ) → ((year : ℕ) → g year ≡ 0) → (years : List ℕ) → sum_over g years ≡ 0
sum_of_none g none [] = refl
sum_of_none g none (year ∷ years) = rw (none year, sum_of_none g none years) refl

but_none : (b : Bool) → ◌≡◌ {A = ℕ} (cond b 0 0) 0
but_none true = refl
but_none false = refl

abbrev key : (school number : ℕ) → IsBetween 1 999999999999 number → Key
key school number fits = record { school = school; number = number; in_range = fits }

abbrev two_terms : (code : ℕ) → IsBetween 1 999999 code → SchoolFacts
two_terms code fits = record { code = code; terms = 2; full = 12; in_range = (fits, (omega arith, omega arith), (omega arith, omega arith)) }

-- the filings, by their book and their application
module _ (b : Book) (a : Application) where
  abbrev term : (number : ℕ) → IsBetween 1 8 number → Bool → (first last : ℕ) → CalendarFacts
  term number fits extra first last = record { year = a.year; term = number; extra = extra; first = first; last = last; breaks = []; in_range = fits }

  abbrev full_time : (number : ℕ) → IsBetween 1 8 number → EnrollFacts
  full_time number fits = record { student = a.student; year = a.year; term = number; credits = 12; in_range = fits }

  abbrev costs : (dollars : ℕ) → dollars ≤ 999999 → OriginateFacts
  costs dollars few = record { student = a.student; year = a.year; cost = dollars; in_range = few }

  abbrev amount : (number : ℕ) → IsBetween 1 8 number → Program → (cents : ℕ) → cents ≤ 99999999 → Amount
  amount number fits program cents few = record { student = a.student; year = a.year; term = number; program = program; cents = cents; in_range = (fits, few) }

  -- the terms: 2025-09-01 to 2025-12-12, and 2025-12-13 to 2026-03-20; the extra one to 2026-06-26
  abbrev pub first_term : CalendarFacts
  first_term = term 1 (omega arith, omega arith) false 45899 46001

  abbrev pub second_term : CalendarFacts
  second_term = term 2 (omega arith, omega arith) false 46002 46099

  abbrev third_term : CalendarFacts
  third_term = term 3 (omega arith, omega arith) true 46100 46197

  -- before any money moves
  abbrev pub filed : List Filing
  filed =
      record { key = key 120 6 (omega arith, omega arith); what = whats.Enroll (full_time 3 (omega arith, omega arith)) }
      ∷ record { key = key 120 5 (omega arith, omega arith); what = whats.Enroll (full_time 2 (omega arith, omega arith)) }
      ∷ record { key = key 120 4 (omega arith, omega arith); what = whats.Originate (costs 7395 (omega arith)) }
      ∷ record { key = key 120 3 (omega arith, omega arith); what = whats.Calendar third_term }
      ∷ record { key = key 120 2 (omega arith, omega arith); what = whats.Calendar second_term }
      ∷ record { key = key 110 4 (omega arith, omega arith); what = whats.Enroll (full_time 1 (omega arith, omega arith)) }
      ∷ record { key = key 110 3 (omega arith, omega arith); what = whats.Originate (costs 3898 (omega arith)) }
      ∷ record { key = key 110 2 (omega arith, omega arith); what = whats.Apply a }
      ∷ record { key = key 110 1 (omega arith, omega arith); what = whats.Calendar first_term }
      ∷ record { key = key 0 3 (omega arith, omega arith); what = whats.School (two_terms 120 (omega arith, omega arith)) }
      ∷ record { key = key 0 2 (omega arith, omega arith); what = whats.School (two_terms 110 (omega arith, omega arith)) }
      ∷ record { key = key 0 1 (omega arith, omega arith); what = whats.Book b } ∷ []

  -- and then: in the first term two loans as well, of which one is taken back
  abbrev pub at_limits : List Filing
  at_limits =
      record { key = key 110 8 (omega arith, omega arith); what = whats.Adjust (amount 1 (omega arith, omega arith) Unsub 500 (omega arith)) }
      ∷ record { key = key 120 8 (omega arith, omega arith); what = whats.Pay (amount 3 (omega arith, omega arith) Pell 369750 (omega arith)) }
      ∷ record { key = key 120 7 (omega arith, omega arith); what = whats.Pay (amount 2 (omega arith, omega arith) Pell 369700 (omega arith)) }
      ∷ record { key = key 110 7 (omega arith, omega arith); what = whats.Pay (amount 1 (omega arith, omega arith) Pell 369800 (omega arith)) }
      ∷ record { key = key 110 6 (omega arith, omega arith); what = whats.Pay (amount 1 (omega arith, omega arith) Sub 20000 (omega arith)) }
      ∷ record { key = key 110 5 (omega arith, omega arith); what = whats.Pay (amount 1 (omega arith, omega arith) Unsub 500 (omega arith)) } ∷ filed

  -- where the money stands
  abbrev loan : Cell
  loan = cell_at 110 a.student a.year 1 0

  abbrev other_loan : Cell
  other_loan = cell_at 110 a.student a.year 1 1

  abbrev one : Cell
  one = cell_at 110 a.student a.year 1 3

  abbrev two : Cell
  two = cell_at 120 a.student a.year 2 3

  abbrev three : Cell
  three = cell_at 120 a.student a.year 3 3

  net_is : (sel : Cell → Bool)
      → net at_limits sel ≡ cond (sel one) 369800 0 + (cond (sel two) 369700 0 + (cond (sel three) 369750 0 + cond (sel other_loan) 20000 0))
  net_is sel = rest (cond (sel three) 369750 0) (cond (sel two) 369700 0) (cond (sel one) 369800 0) (cond (sel other_loan) 20000 0) (cond (sel loan) 500 0)
    where
      rest : (three two one other loan : ℕ) → (three + (two + (one + (other + (loan + 0))))) - (loan + 0) ≡ one + (two + (three + other))
      rest three two one other loan = omega arith

  nets_hold : (sel : Cell → Bool) → taken at_limits sel ≤ paid at_limits sel
  nets_hold sel = rest (cond (sel three) 369750 0) (cond (sel two) 369700 0) (cond (sel one) 369800 0) (cond (sel other_loan) 20000 0) (cond (sel loan) 500 0)
    where
      rest : (three two one other loan : ℕ) → loan + 0 ≤ three + (two + (one + (other + (loan + 0))))
      rest three two one other loan = omega arith

  -- the tests of the student and the year
  own_student : (a.student == a.student) ≡ true
  own_student = eq-eqb a.student a.student refl

  own_year : (a.year == a.year) ≡ true
  own_year = eq-eqb a.year a.year refl

  -- what holds of the student in the year, and of others and other years
  own_or : (G : ℕ → ℕ → Type 0) → G a.student a.year
      → ((student year : ℕ) → (s t : Bool) → (a.student == student) ≡ s → (a.year == year) ≡ t → (s && t) ≡ false → G student year) → (student year : ℕ) → G student year
  own_or G own others student year = go (a.student == student) (a.year == year) refl refl
    where
      go : (s t : Bool) → (a.student == student) ≡ s → (a.year == year) ≡ t → G student year
      go true true e f =
          let es : a.student ≡ student = eqb-true a.student student e in
          let et : a.year ≡ year = eqb-true a.year year f in
          subst (λ (y : ℕ). G student y) et (subst (λ (s : ℕ). G s a.year) es own)
      go true false e f = others student year true false e f refl
      go false t e f = others student year false t e f refl

  elsewhere : (s : Bool) (y : ℕ) → y ≢ a.year → (s && (a.year == y)) ≡ false
  elsewhere false y differs = refl
  elsewhere true y differs = ne_eqb a.year y (λ e. differs (sym e))

  -- others have nothing
  nothing : (student year program : ℕ) (s t : Bool) → (a.student == student) ≡ s → (a.year == year) ≡ t → (s && t) ≡ false → net at_limits (in_year student year program) ≡ 0
  nothing student year program true true e f off = absurd cc
  nothing student year program true false e f off = net_is (in_year student year program) ∙ rw (e, f) refl
  nothing student year program false t e f off = net_is (in_year student year program) ∙ rw e refl

  -- the sums of the year
  pub year_sum : pell_year at_limits a.student a.year ≡ 1109250
  year_sum = net_is (in_year a.student a.year 3) ∙ rw (own_student, own_year) refl

  pub main_sum : pell_main at_limits a.student a.year ≡ 739500
  main_sum = net_is (in_main_terms at_limits a.student a.year 3) ∙ rw (own_student, own_year) refl

  -- those of the terms
  pub first_pell : pell_term at_limits 110 a.student a.year 1 ≡ 369800
  first_pell = net_is (is_cell one) ∙ rw (own_student, own_year) refl

  pub second_pell : pell_term at_limits 120 a.student a.year 2 ≡ 369700
  second_pell = net_is (is_cell two) ∙ rw (own_student, own_year) refl

  third_pell : pell_term at_limits 120 a.student a.year 3 ≡ 369750
  third_pell = net_is (is_cell three) ∙ rw (own_student, own_year) refl

  pub loan_paid : paid at_limits (is_cell loan) ≡ 500
  loan_paid = rw (own_student, own_year) refl

  pub loan_taken : taken at_limits (is_cell loan) ≡ 500
  loan_taken = rw (own_student, own_year) refl

  -- of a loan
  pub loan_stands : net_at at_limits (cell_at 110 a.student a.year 1 1) ≡ 20000
  loan_stands = net_is (is_cell other_loan) ∙ rw (own_student, own_year) refl

  -- those of the schools
  pub first_school : net at_limits (at_school_in_year 110 a.student a.year) ≡ 389800
  first_school = net_is (at_school_in_year 110 a.student a.year) ∙ rw (own_student, own_year) refl

  second_school : net at_limits (at_school_in_year 120 a.student a.year) ≡ 739450
  second_school = net_is (at_school_in_year 120 a.student a.year) ∙ rw (own_student, own_year) refl

  -- what is in force
  pub first_credits : credits at_limits 110 a.student a.year 1 ≡ 12
  first_credits = rw (own_student, own_year) refl

  second_credits : credits at_limits 120 a.student a.year 2 ≡ 12
  second_credits = rw (own_student, own_year) refl

  third_credits : credits at_limits 120 a.student a.year 3 ≡ 12
  third_credits = rw (own_student, own_year) refl

  pub first_cost : cost at_limits 110 a.student a.year ≡ 3898
  first_cost = rw (own_student, own_year) refl

  second_cost : cost at_limits 120 a.student a.year ≡ 7395
  second_cost = rw (own_student, own_year) refl

  pub first_filed : the_term at_limits 110 a.year 1 ≡ Some (term_of first_term)
  first_filed = rw own_year refl

  pub second_filed : the_term at_limits 120 a.year 2 ≡ Some (term_of second_term)
  second_filed = rw own_year refl

  third_filed : the_term at_limits 120 a.year 3 ≡ Some (term_of third_term)
  third_filed = rw own_year refl

  -- nor in the main terms, at a school, or of Supplemental Grants
  nothing_main : (student year : ℕ) (s t : Bool) → (a.student == student) ≡ s → (a.year == year) ≡ t → (s && t) ≡ false → pell_main at_limits student year ≡ 0
  nothing_main student year true true e f off = absurd cc
  nothing_main student year true false e f off = net_is (in_main_terms at_limits student year 3) ∙ rw (e, f) refl
  nothing_main student year false t e f off = net_is (in_main_terms at_limits student year 3) ∙ rw e refl

  nothing_school : (school student year : ℕ) (s t : Bool) → (a.student == student) ≡ s → (a.year == year) ≡ t → (s && t) ≡ false
      → net at_limits (at_school_in_year school student year) ≡ 0
  nothing_school school student year s t e f off = net_is (at_school_in_year school student year) ∙ go (110 == school) (120 == school) ((a.student == student) && (a.year == year)) (rw (e, f) off)
    where
      go : (x y off : Bool) → off ≡ false → cond (x && off) 369800 0 + (cond (y && off) 369700 0 + (cond (y && off) 369750 0 + cond (x && off) 20000 0)) ≡ 0
      go true true off e = rw e refl
      go true false off e = rw e refl
      go false true off e = rw e refl
      go false false off e = refl

  fseog_holds : (student year : ℕ) → net at_limits (in_year student year 4) ≤ 400000
  fseog_holds student year = let e = net_is (in_year student year 4) in let n = none (a.student == student) (a.year == year) in omega (arith, e, n)
    where
      none : (s t : Bool) → cond (s && (t && false)) 369800 0 + (cond (s && (t && false)) 369700 0 + (cond (s && (t && false)) 369750 0 + cond (s && (t && false)) 20000 0)) ≡ 0
      none true true = refl
      none true false = refl
      none false t = refl

  -- where net Pell stands
  abbrev IsPaid : Cell → Type 0
  IsPaid c = (one ≡ c) ⊎ ((two ≡ c) ⊎ (three ≡ c))

  no_loan : (c : Cell) → c.program ≡ 3 → is_cell c other_loan ≡ false
  no_loan c pell = rw pell (off (a.student == c.student) (110 == c.school) (a.year == c.year) (1 == c.term))
    where
      off : (x y z w : Bool) → (x && (y && (z && (w && false)))) ≡ false
      off true true true true = refl
      off true true true false = refl
      off true true false w = refl
      off true false z w = refl
      off false y z w = refl

  stands : (c : Cell) → c.program ≡ 3 → 0 < net at_limits (is_cell c) → IsPaid c
  stands c pell some = go (is_cell c one) (is_cell c two) (is_cell c three) refl refl refl
    where
      go : (x y z : Bool) → is_cell c one ≡ x → is_cell c two ≡ y → is_cell c three ≡ z → IsPaid c
      go true y z e f g = inl (same_cell c one e)
      go false true z e f g = inr (inl (same_cell c two f))
      go false false true e f g = inr (inr (same_cell c three g))
      go false false false e f g = let none : net at_limits (is_cell c) ≡ 0 = net_is (is_cell c) ∙ rw (e, f, g, no_loan c pell) refl in absurd (omega (arith, some, none))

  -- the term of a cell is the one filed
  abbrev term_there : Cell → Option Term
  term_there c = the_term at_limits c.school c.year c.term

  told : (c d : Cell) (t : Term) (x : CalendarFacts) → d ≡ c → term_there d ≡ Some (term_of x) → term_there c ≡ Some t → t ≡ term_of x
  told c d t x at own is = let same : Some t ≡ Some (term_of x) = sym is ∙ ap term_there (sym at) ∙ own in cc

  -- such terms of different schools share no day
  no_day : (c d : Cell) (t u : Term) → IsPaid c → IsPaid d → term_there c ≡ Some t → term_there d ≡ Some u → c.school ≢ d.school → shares_day t u ≡ false
  no_day c d t u (inl p) (inl q) is is' differ = absurd (differ (ap (λ (x : Cell). x.school) (sym p ∙ q)))
  no_day c d t u (inl p) (inr (inl q)) is is' differ = (λ i. shares_day (told c one t first_term p first_filed is i) (told d two u second_term q second_filed is' i))
  no_day c d t u (inl p) (inr (inr q)) is is' differ = (λ i. shares_day (told c one t first_term p first_filed is i) (told d three u third_term q third_filed is' i))
  no_day c d t u (inr (inl p)) (inl q) is is' differ = (λ i. shares_day (told c two t second_term p second_filed is i) (told d one u first_term q first_filed is' i))
  no_day c d t u (inr (inr p)) (inl q) is is' differ = (λ i. shares_day (told c three t third_term p third_filed is i) (told d one u first_term q first_filed is' i))
  no_day c d t u (inr (inl p)) (inr (inl q)) is is' differ = absurd (differ (ap (λ (x : Cell). x.school) (sym p ∙ q)))
  no_day c d t u (inr (inl p)) (inr (inr q)) is is' differ = absurd (differ (ap (λ (x : Cell). x.school) (sym p) ∙ ap (λ (x : Cell). x.school) q))
  no_day c d t u (inr (inr p)) (inr (inl q)) is is' differ = absurd (differ (ap (λ (x : Cell). x.school) (sym p) ∙ ap (λ (x : Cell). x.school) q))
  no_day c d t u (inr (inr p)) (inr (inr q)) is is' differ = absurd (differ (ap (λ (x : Cell). x.school) (sym p ∙ q)))

  apart_holds : (student school year number school' year' number' : ℕ) (t u : Term) → the_term at_limits school year number ≡ Some t
      → the_term at_limits school' year' number' ≡ Some u → school ≢ school' → IsTrue (shares_day t u)
      → 0 < pell_term at_limits school student year number → pell_term at_limits school' student year' number' ≡ 0
  apart_holds student school year number school' year' number' t u is is' differ shared some = go (pell_term at_limits school' student year' number') refl
    where
      go : (n : ℕ) → pell_term at_limits school' student year' number' ≡ n → n ≡ 0
      go zero e = refl
      go (suc n) e =
          let c = cell_at school student year number 3 in
          let d = cell_at school' student year' number' 3 in
          let none = no_day c d t u (stands c refl some) (stands d refl (omega (arith, e))) is is' differ in
          let no : ◌≡◌ {A = Bool} false true = subst (λ (b : Bool). IsTrue b) none shared in
          absurd cc

  -- with the award
  module _ (has : HasAward b a 7395) where
    pub award_is : scheduled at_limits a.student a.year ≡ 7395
    award_is =
        let own_book : (b.year == a.year) ≡ true = eq-eqb b.year a.year (sym has.0) in
        rw (own_student, own_year, own_book) has.1

    -- the payments of the terms at it
    first_most : payment_at at_limits (scheduled at_limits a.student a.year) 110 a.student a.year 1 ≡ 369800
    unfolding payment_of intensity_of half_up
    first_most = rw (award_is, first_credits) refl

    second_most : payment_at at_limits (scheduled at_limits a.student a.year) 120 a.student a.year 2 ≡ 369800
    unfolding payment_of intensity_of half_up
    second_most = rw (award_is, second_credits) refl

    third_most : payment_at at_limits (scheduled at_limits a.student a.year) 120 a.student a.year 3 ≡ 369800
    unfolding payment_of intensity_of half_up
    third_most = rw (award_is, third_credits) refl

    -- a term within its payment, by its cell
    abbrev TermHolds : Cell → Type 0
    TermHolds c = net at_limits (is_cell c) ≤ payment_at at_limits (scheduled at_limits c.student c.year) c.school c.student c.year c.term

    first_holds : TermHolds one
    first_holds = omega (arith, first_pell, first_most)

    second_holds : TermHolds two
    second_holds = omega (arith, second_pell, second_most)

    third_holds : TermHolds three
    third_holds = omega (arith, third_pell, third_most)

    term_holds : (c : Cell) → c.program ≡ 3 → TermHolds c
    term_holds c pell = go (is_cell c one) (is_cell c two) (is_cell c three) refl refl refl
      where
        go : (x y z : Bool) → is_cell c one ≡ x → is_cell c two ≡ y → is_cell c three ≡ z → TermHolds c
        go true y z e f g = subst TermHolds (same_cell c one e) first_holds
        go false true z e f g = subst TermHolds (same_cell c two f) second_holds
        go false false true e f g = subst TermHolds (same_cell c three g) third_holds
        go false false false e f g = let none : net at_limits (is_cell c) ≡ 0 = net_is (is_cell c) ∙ rw (e, f, g, no_loan c pell) refl in omega (arith, none)

    year_holds : (student year : ℕ) → pell_year at_limits student year ≤ 150 * scheduled at_limits student year
    year_holds =
        own_or (λ student year. pell_year at_limits student year ≤ 150 * scheduled at_limits student year) (omega (arith, year_sum, award_is))
        (λ student year s t e f off. let none = nothing student year 3 s t e f off in omega (arith, none))

    main_holds : (student year : ℕ) → pell_main at_limits student year ≤ 100 * scheduled at_limits student year
    main_holds =
        own_or (λ student year. pell_main at_limits student year ≤ 100 * scheduled at_limits student year) (omega (arith, main_sum, award_is))
        (λ student year s t e f off. let none = nothing_main student year s t e f off in omega (arith, none))

    -- what is used of a lifetime
    used_own : use_in at_limits a.student a.year ≡ 150000
    unfolding use_of half_up
    used_own = rw (year_sum, award_is) refl

    used_else : (student year : ℕ) (s t : Bool) → (a.student == student) ≡ s → (a.year == year) ≡ t → (s && t) ≡ false → use_in at_limits student year ≡ 0
    unfolding use_of
    used_else student year s t e f off = rw (nothing student year 3 s t e f off) refl

    lifetime_holds : (student : ℕ) → used at_limits student ≤ 600000
    lifetime_holds student =
        let one_year = own_or (λ student year. use_in at_limits student year ≤ 150000) (omega (arith, used_own))
        (λ student year s t e f off. let none = used_else student year s t e f off in omega (arith, none)) student a.year in
        let others = years_but_one (λ (y : ℕ). 0) (use_in at_limits student) a.year
        (λ y differs. let none = used_else student y (a.student == student) (a.year == y) refl refl (elsewhere (a.student == student) y differs) in omega (arith, none)) in
        let none = sum_of_none (but a.year (λ (y : ℕ). 0)) (λ y. but_none (y == a.year)) all_years in
        omega (arith, one_year, others, none)

    -- a school within its cost
    abbrev CostHolds : ℕ → Type 0
    CostHolds school = net at_limits (at_school_in_year school a.student a.year) ≤ 100 * cost at_limits school a.student a.year

    cost_own : (school : ℕ) → CostHolds school
    cost_own school = go (110 == school) (120 == school) refl refl
      where
        go : (x y : Bool) → (110 == school) ≡ x → (120 == school) ≡ y → CostHolds school
        go true y e f = let own : CostHolds 110 = omega (arith, first_school, first_cost) in subst CostHolds (eqb-true 110 school e) own
        go false true e f = let own : CostHolds 120 = omega (arith, second_school, second_cost) in subst CostHolds (eqb-true 120 school f) own
        go false false e f =
            let none : net at_limits (at_school_in_year school a.student a.year) ≡ 0 = net_is (at_school_in_year school a.student a.year) ∙ rw (e, f) refl in
            omega (arith, none)

    cost_holds : (school student year : ℕ) → net at_limits (at_school_in_year school student year) ≤ 100 * cost at_limits school student year
    cost_holds school =
        own_or (λ student year. net at_limits (at_school_in_year school student year) ≤ 100 * cost at_limits school student year) (cost_own school)
        (λ student year s t e f off. let none = nothing_school school student year s t e f off in omega (arith, none))

    pub all_within : IsWithinEveryLimit at_limits
    all_within = record {
      term = λ school student year number. term_holds (cell_at school student year number 3) refl;
      year = year_holds;
      main = main_holds;
      fseog = fseog_holds;
      lifetime = lifetime_holds;
      cost = cost_holds;
      nets = nets_hold;
      apart = apart_holds;
    }
