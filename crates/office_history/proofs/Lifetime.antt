-- In a legal history no student stands above the lifetime limit.
use Rattle.std.proofs.Common.{◌≡◌, ◌≢◌, ℕ, zero, suc, ◌+◌, ◌≤◌, ◌<◌, refl, sym, arith, subst, cond, Bool, true, false, ◌&&◌, List, [], ◌∷◌, length, Some, None, zero-le, ◌⊎◌, inl, inr, eqb-true, ne_eqb, eq-eqb, ap}
use Rattle.std.specs.Prelude.{◌==◌}
use Rattle.std.specs.List.{range_with_len}
use Rattle.aid_types.specs.declared.number.Key.{Key}
use Rattle.aid_filings.specs.declared.filing.Amount.{Amount}
use Rattle.aid_books.specs.declared.book.Book.{Book}
use Rattle.aid_filings.specs.declared.filing.PriorFacts.{PriorFacts}
use Rattle.aid_types.specs.declared.application.Application.{Application}
use Rattle.aid_filings.specs.declared.filing.Filing.{Filing}
use Rattle.aid_filings.specs.declared.filing.What.{What}
use Rattle.aid_filings.specs.declared.filing.What.TheVariants.{Book as BookFiled, School, Calendar, Prior, Apply, Enroll, Originate, Pay, Withdraw, Repay, Adjust, Cost, Sent, Amend}
use Rattle.law_terms.specs.Used.{use_of}
use Rattle.aid_types.specs.Programs.{rank}
use Rattle.office_history.specs.Past.{earliest, earlier, given, amount_or, prior_units, prior_in, pell_payment_in, the_book}
use Rattle.office_history.specs.Award.{award_under, scheduled}
use Rattle.office_history.specs.Net.{cell_of, net, paid, in_year, payments_in, pell_year, sum_over, all_years, use_in, used_else, used}
use Rattle.office_history.specs.FactsOf.{facts_of}
use Rattle.office_history.specs.Positions.{prior_at, pell_at}
use Rattle.office_history.specs.Rules.{rules_of}
use Rattle.office_history.specs.Answer.{breaks, IsLegal}
use Rattle.aid_types.proofs.Holds.{all_hold, over_holds, stands_holds}
use Rattle.office_history.proofs.Numbers.{use_mono, use_none}
use Rattle.office_history.proofs.PayRules.{affords}
use Rattle.office_history.proofs.Nets.{none_before}
use Rattle.office_history.proofs.Steps.{net_unpaid, net_paid}
use Rattle.office_history.proofs.Asked.{none_told}
use Rattle.office_history.proofs.Awards.{award_by_book, award_by_application, correction, YearHolds, year_holds}

-- a sum rises with its parts
pub sum_mono : (g g' : ℕ → ℕ) (ys : List ℕ) → ((y : ℕ) → g' y ≤ g y) → sum_over g' ys ≤ sum_over g ys
sum_mono g g' [] h = zero-le
sum_mono g g' (y ∷ ys) h = let k = h y in let r = sum_mono g g' ys h in omega arith

abbrev pub but : ℕ → (ℕ → ℕ) → ℕ → ℕ
but year g y = cond (y == year) 0 (g y)

-- past a year the sum without it is the whole one
but_past : (g g' : ℕ → ℕ) (year a n : ℕ) → year < a → ((y : ℕ) → y ≢ year → g' y ≤ g y) →
    sum_over g' (range_with_len a n) ≤ sum_over (but year g) (range_with_len a n)
but_past g g' year a zero h up = zero-le
but_past g g' year a (suc n) h up =
    let r = but_past g g' year (a + 1) n (omega arith) up in
    let k = up a (λ e. omega arith) in
    let e : (a == year) ≡ false = ne_eqb a year (λ e. omega arith) in
    let b : but year g a ≡ g a = rw e refl in
    omega arith

-- a sum over years is at most its part at one year and the sum of the others
pub but_one : (g g' : ℕ → ℕ) (year a n : ℕ) → ((y : ℕ) → y ≢ year → g' y ≤ g y) →
    sum_over g' (range_with_len a n) ≤ sum_over (but year g) (range_with_len a n) + g' year
but_one g g' year a zero up = zero-le
but_one g g' year a (suc n) up = go (but_one g g' year (a + 1) n up) (a == year) refl
  where
    go : sum_over g' (range_with_len (a + 1) n) ≤ sum_over (but year g) (range_with_len (a + 1) n) + g' year →
        (b : Bool) → (a == year) ≡ b →
        g' a + sum_over g' (range_with_len (a + 1) n) ≤ cond b 0 (g a) + sum_over (but year g) (range_with_len (a + 1) n) + g' year
    go r false e = let k = up a (λ q. absurd (differ q e)) in omega arith
      where
        differ : a ≡ year → (a == year) ≡ false → ⊥
        differ q e = let t : (a == year) ≡ true = eq-eqb a year q in cc
    go r true e =
        let q : a ≡ year = eqb-true a year e in
        let k = but_past g g' year (a + 1) n (omega arith) up in
        let s : g' a ≡ g' year = ap g' q in
        omega arith

pub years_but_one : (g g' : ℕ → ℕ) (year : ℕ) → ((y : ℕ) → y ≢ year → g' y ≤ g y) → sum_over g' all_years ≤ sum_over (but year g) all_years + g' year
unfolding all_years
years_but_one g g' year up = but_one g g' year 2000 100 up

abbrev pub LifetimeHolds : List Filing → Type 0
LifetimeHolds past = (student : ℕ) → used past student ≤ 600000

-- where neither prior units nor the use of a year rises
lifetime_kept : (past : List Filing) (f : Filing) → LifetimeHolds past →
    ((student : ℕ) → prior_units (f ∷ past) student ≤ prior_units past student) →
    ((student year : ℕ) → use_in (f ∷ past) student year ≤ use_in past student year) → LifetimeHolds (f ∷ past)
lifetime_kept past f ih prior uses student =
    let a = prior student in
    let b = sum_mono (use_in past student) (use_in (f ∷ past) student) all_years (uses student) in
    let old = ih student in
    omega arith

-- less net Pell under the same award
use_lower : (past : List Filing) (key : Key) (what : What) (student year : ℕ) → payments_in key what ≡ [] →
    use_of (net (record { key = key; what = what } ∷ past) (in_year student year 3)) (scheduled past student year) ≤ use_in past student year
use_lower past key what student year none =
    use_mono (net (record { key = key; what = what } ∷ past) (in_year student year 3)) (pell_year past student year) (scheduled past student year)
    (net_unpaid past key what (in_year student year 3) none)

-- without a Pell payment nothing is used
no_pell : (past : List Filing) (student year : ℕ) → pell_at past student ≡ 0 → paid past (in_year student year 3) ≡ 0
no_pell [] student year h = refl
no_pell (f ∷ past) student year h =
    let q : (pell_at past student ≡ 0) × (pell_payment_in student f.what ≡ false) =
    none_before (pell_at past student) (pell_payment_in student f.what) (length past) h in
    go f.key f.what q.1 (no_pell past student year q.0)
  where
    off : (a b c : Bool) (n : ℕ) → (a && c) ≡ false → cond (a && (b && c)) n 0 ≡ 0
    off false b c n h = refl
    off true b true n h = cc
    off true false false n h = refl
    off true true false n h = refl

    go : (key : Key) (what : What) → pell_payment_in student what ≡ false → paid past (in_year student year 3) ≡ 0 →
        paid (record { key = key; what = what } ∷ past) (in_year student year 3) ≡ 0
    go key (Pay a) e ih =
        let k = off (a.student == student) (a.year == year) (rank a.program == 3) a.cents e in omega arith
    go key (BookFiled b) e ih = ih
    go key (School b) e ih = ih
    go key (Calendar b) e ih = ih
    go key (Prior b) e ih = ih
    go key (Apply b) e ih = ih
    go key (Enroll b) e ih = ih
    go key (Originate b) e ih = ih
    go key (Withdraw b) e ih = ih
    go key (Repay b) e ih = ih
    go key (Adjust b) e ih = ih
    go key (Cost b) e ih = ih
    go key (Sent b) e ih = ih
    go key (Amend b) e ih = ih

sum_none : (g : ℕ → ℕ) (ys : List ℕ) → ((y : ℕ) → g y ≡ 0) → sum_over g ys ≡ 0
sum_none g [] h = refl
sum_none g (y ∷ ys) h = let k = h y in let r = sum_none g ys h in omega arith

prior_step : (past : List Filing) (key : Key) (p : PriorFacts) → LifetimeHolds past → breaks past (record { key = key; what = Prior p }) ≡ None →
    LifetimeHolds (record { key = key; what = Prior p } ∷ past)
prior_step past key p ih h student = go (p.student == student) refl
  where
    go : (t : Bool) → (p.student == student) ≡ t →
        amount_or (earlier (given t p.units) (earliest (λ f. prior_in student f.what) past)) + sum_over (use_in past student) all_years ≤ 600000
    go false e = ih student
    go true e =
        let k = all_hold (rules_of past key (Prior p)) h in
        let s : p.student ≡ student = eqb-true p.student student e in
        let units : p.units ≤ 600000 = over_holds 81 p.units 600000 k.1.1.0 in
        let none : earliest (λ f. prior_in student f.what) past ≡ None =
        subst (λ z. earliest (λ f. prior_in z f.what) past ≡ None) s
        (none_told (λ f. prior_in p.student f.what) past (stands_holds 80 (prior_at past p.student) p.student k.1.1.1.0)) in
        let unpaid : pell_at past student ≡ 0 = subst (λ z. pell_at past z ≡ 0) s (stands_holds 82 (pell_at past p.student) p.student k.1.1.1.1.0) in
        let uses : sum_over (use_in past student) all_years ≡ 0 =
        sum_none (use_in past student) all_years (λ y.
        let z : pell_year past student y ≡ 0 = let n = no_pell past student y unpaid in omega arith in
        rw z (use_none (scheduled past student y))) in
        rw (none, uses) (omega arith)

off_year : (a b c : Bool) → b ≡ false → (a && (b && c)) ≡ false
off_year true b c h = rw h refl
off_year false b c h = refl

off_student : (a b c : Bool) → a ≡ false → (a && (b && c)) ≡ false
off_student a b c h = rw h refl

off_program : (a b c : Bool) → c ≡ false → (a && (b && c)) ≡ false
off_program true true c h = h
off_program true false c h = refl
off_program false b c h = refl

-- a payment leaves the use of a year that it isn't Pell of
use_beside : (past : List Filing) (key : Key) (a : Amount) (student y : ℕ) → (a.student == student && (a.year == y && rank a.program == 3)) ≡ false →
    use_in (record { key = key; what = Pay a } ∷ past) student y ≤ use_in past student y
use_beside past key a student y e =
    use_mono (net (record { key = key; what = Pay a } ∷ past) (in_year student y 3)) (pell_year past student y) (scheduled past student y)
    (let n : net (record { key = key; what = Pay a } ∷ past) (in_year student y 3) ≤ cond false a.cents 0 + pell_year past student y =
    subst (λ (b : Bool). net (record { key = key; what = Pay a } ∷ past) (in_year student y 3) ≤ cond b a.cents 0 + pell_year past student y) e
    (net_paid past key a (in_year student y 3)) in
    omega arith)

-- a Pell payment keeps its own student within
pell_paid : (past : List Filing) (key : Key) (a : Amount) → breaks past (record { key = key; what = Pay a }) ≡ None → rank a.program ≡ 3 →
    used (record { key = key; what = Pay a } ∷ past) a.student ≤ 600000
pell_paid past key a h e =
    let rule : used_else past a.student a.year + use_of (pell_year past a.student a.year + a.cents) (scheduled past a.student a.year) ≤ 600000 =
    (affords (facts_of past key (Pay a)) key a h).lifetime e in
    let x : cond (in_year a.student a.year 3 (cell_of key a)) a.cents 0 ≤ a.cents = cond_below (in_year a.student a.year 3 (cell_of key a)) a.cents in
    let n = net_paid past key a (in_year a.student a.year 3) in
    let here : use_in (record { key = key; what = Pay a } ∷ past) a.student a.year ≤ use_of (pell_year past a.student a.year + a.cents) (scheduled past a.student a.year) =
    use_mono (net (record { key = key; what = Pay a } ∷ past) (in_year a.student a.year 3)) (pell_year past a.student a.year + a.cents) (scheduled past a.student a.year) (omega arith) in
    let all = years_but_one (use_in past a.student) (use_in (record { key = key; what = Pay a } ∷ past) a.student) a.year
    (λ y d. use_beside past key a a.student y (off_year (a.student == a.student) (a.year == y) (rank a.program == 3) (ne_eqb a.year y (λ q. d (sym q))))) in
    omega arith
  where
    cond_below : (b : Bool) (n : ℕ) → cond b n 0 ≤ n
    cond_below true n = omega arith
    cond_below false n = zero-le

lifetime_paid : (past : List Filing) (key : Key) (a : Amount) → LifetimeHolds past → breaks past (record { key = key; what = Pay a }) ≡ None →
    LifetimeHolds (record { key = key; what = Pay a } ∷ past)
lifetime_paid past key a ih h student = go (a.student == student) (rank a.program == 3) refl refl
  where
    beside : ((y : ℕ) → (a.student == student && (a.year == y && rank a.program == 3)) ≡ false) → used (record { key = key; what = Pay a } ∷ past) student ≤ 600000
    beside off =
        let b = sum_mono (use_in past student) (use_in (record { key = key; what = Pay a } ∷ past) student) all_years (λ y. use_beside past key a student y (off y)) in
        let old = ih student in omega arith

    go : (t u : Bool) → (a.student == student) ≡ t → (rank a.program == 3) ≡ u → used (record { key = key; what = Pay a } ∷ past) student ≤ 600000
    go false u e d = beside (λ y. off_student (a.student == student) (a.year == y) (rank a.program == 3) e)
    go true false e d = beside (λ y. off_program (a.student == student) (a.year == y) (rank a.program == 3) d)
    go true true e d =
        subst (λ z. used (record { key = key; what = Pay a } ∷ past) z ≤ 600000) (eqb-true a.student student e) (pell_paid past key a h (eqb-true (rank a.program) 3 d))

-- a book gives an award only where nothing is paid yet
lifetime_book : (past : List Filing) (key : Key) (b : Book) → YearHolds past → LifetimeHolds past → breaks past (record { key = key; what = BookFiled b }) ≡ None →
    LifetimeHolds (record { key = key; what = BookFiled b } ∷ past)
lifetime_book past key b year ih h =
    lifetime_kept past (record { key = key; what = BookFiled b }) ih (λ student. omega arith) (λ student y. go student y (award_by_book past key b student y h))
  where
    go : (student y : ℕ) → (scheduled past student y ≡ 0) ⊎ (scheduled (record { key = key; what = BookFiled b } ∷ past) student y ≡ scheduled past student y) →
        use_in (record { key = key; what = BookFiled b } ∷ past) student y ≤ use_in past student y
    go student y (inl z) =
        let none : pell_year past student y ≡ 0 = let k = year student y in omega arith in
        let used_none : use_in (record { key = key; what = BookFiled b } ∷ past) student y ≡ 0 =
        rw none (use_none (scheduled (record { key = key; what = BookFiled b } ∷ past) student y)) in
        omega arith
    go student y (inr e) =
        let same : use_in (record { key = key; what = BookFiled b } ∷ past) student y ≡ use_in past student y = ap (use_of (pell_year past student y)) e in
        omega arith

-- an application changes the use of its own student and year alone
lifetime_applied : (past : List Filing) (key : Key) (a : Application) → LifetimeHolds past → breaks past (record { key = key; what = Apply a }) ≡ None →
    LifetimeHolds (record { key = key; what = Apply a } ∷ past)
lifetime_applied past key a ih h student = go (a.student == student) refl
  where
    same : (y : ℕ) → (a.student == student && a.year == y) ≡ false → use_in (record { key = key; what = Apply a } ∷ past) student y ≤ use_in past student y
    same y off = pick (award_by_application past key a student y h)
      where
        pick : ((a.student ≡ student) × (a.year ≡ y)
            × (scheduled (record { key = key; what = Apply a } ∷ past) student y ≡ award_under (the_book past a.year) (Some a)))
            ⊎ (((a.student == student && a.year == y) ≡ false)
            × (scheduled (record { key = key; what = Apply a } ∷ past) student y ≡ scheduled past student y)) →
            use_in (record { key = key; what = Apply a } ∷ past) student y ≤ use_in past student y
        pick (inl w) =
            let t : (a.student == student) ≡ true = eq-eqb a.student student w.0 in
            let u : (a.year == y) ≡ true = eq-eqb a.year y w.1 in
            absurd (clash (a.student == student) (a.year == y) t u off)
          where
            clash : (t u : Bool) → t ≡ true → u ≡ true → (t && u) ≡ false → ⊥
            clash true true e d k = cc
            clash true false e d k = cc
            clash false u e d k = cc
        pick (inr w) =
            let k : use_in (record { key = key; what = Apply a } ∷ past) student y ≡ use_in past student y = ap (use_of (pell_year past student y)) w.1 in
            omega arith

    go : (t : Bool) → (a.student == student) ≡ t → used (record { key = key; what = Apply a } ∷ past) student ≤ 600000
    go false e =
        let b = sum_mono (use_in past student) (use_in (record { key = key; what = Apply a } ∷ past) student) all_years
        (λ y. same y (rw e refl)) in
        let old = ih student in omega arith
    go true e =
        let s : a.student ≡ student = eqb-true a.student student e in
        let rule : used_else past student a.year + use_of (pell_year past student a.year) (award_under (the_book past a.year) (Some a)) ≤ 600000 =
        subst (λ z. used_else past z a.year + use_of (pell_year past z a.year) (award_under (the_book past a.year) (Some a)) ≤ 600000) s
        (correction past key a h).lifetime in
        let here : use_in (record { key = key; what = Apply a } ∷ past) student a.year ≤ use_of (pell_year past student a.year) (award_under (the_book past a.year) (Some a)) =
        at_own (award_by_application past key a student a.year h) in
        let all = years_but_one (use_in past student) (use_in (record { key = key; what = Apply a } ∷ past) student) a.year
        (λ y d. same y (off_second (a.student == student) (a.year == y) (ne_eqb a.year y (λ q. d (sym q))))) in
        omega arith
      where
        off_second : (t u : Bool) → u ≡ false → (t && u) ≡ false
        off_second true u k = k
        off_second false u k = refl

        at_own : ((a.student ≡ student) × (a.year ≡ a.year)
            × (scheduled (record { key = key; what = Apply a } ∷ past) student a.year ≡ award_under (the_book past a.year) (Some a)))
            ⊎ (((a.student == student && a.year == a.year) ≡ false)
            × (scheduled (record { key = key; what = Apply a } ∷ past) student a.year ≡ scheduled past student a.year)) →
            use_in (record { key = key; what = Apply a } ∷ past) student a.year ≤ use_of (pell_year past student a.year) (award_under (the_book past a.year) (Some a))
        at_own (inl w) =
            let k : use_in (record { key = key; what = Apply a } ∷ past) student a.year ≡ use_of (pell_year past student a.year) (award_under (the_book past a.year) (Some a)) =
            ap (use_of (pell_year past student a.year)) w.2 in
            omega arith
        at_own (inr w) = absurd (clash (a.student == student) (a.year == a.year) e (eq-eqb a.year a.year refl) w.0)
          where
            clash : (t u : Bool) → t ≡ true → u ≡ true → (t && u) ≡ false → ⊥
            clash true true e d k = cc
            clash true false e d k = cc
            clash false u e d k = cc

pub lifetime_step : (past : List Filing) (key : Key) (what : What) → YearHolds past → LifetimeHolds past →
    breaks past (record { key = key; what = what }) ≡ None → LifetimeHolds (record { key = key; what = what } ∷ past)
lifetime_step past key (Pay a) year ih h = lifetime_paid past key a ih h
lifetime_step past key (Prior p) year ih h = prior_step past key p ih h
lifetime_step past key (School b) year ih h = ih
lifetime_step past key (Calendar b) year ih h = ih
lifetime_step past key (Enroll b) year ih h = ih
lifetime_step past key (Originate b) year ih h = ih
lifetime_step past key (Withdraw b) year ih h = lifetime_kept past (record { key = key; what = Withdraw b }) ih (λ student. omega arith) (λ student y. use_lower past key (Withdraw b) student y refl)
lifetime_step past key (Repay b) year ih h = lifetime_kept past (record { key = key; what = Repay b }) ih (λ student. omega arith) (λ student y. use_lower past key (Repay b) student y refl)
lifetime_step past key (Adjust b) year ih h = lifetime_kept past (record { key = key; what = Adjust b }) ih (λ student. omega arith) (λ student y. use_lower past key (Adjust b) student y refl)
lifetime_step past key (Cost b) year ih h = ih
lifetime_step past key (Sent b) year ih h = ih
lifetime_step past key (Amend b) year ih h = ih
lifetime_step past key (BookFiled b) year ih h = lifetime_book past key b year ih h
lifetime_step past key (Apply a) year ih h = lifetime_applied past key a ih h

pub lifetime_holds : (past : List Filing) → IsLegal past → LifetimeHolds past
lifetime_holds [] h = none_used
  where
    none_used : (student : ℕ) → used [] student ≤ 600000
    none_used student = let k = sum_none (use_in [] student) all_years (λ y. use_none 0) in omega arith
lifetime_holds (f ∷ past) h = lifetime_step past f.key f.what (year_holds past h.0) (lifetime_holds past h.0) h.2
