-- How a filing changes the Scheduled Award, and the line of the year's net Pell.
use Rattle.std.proofs.Common.{◌≡◌, ℕ, ◌+◌, ◌-◌, ◌*◌, ◌≤◌, ◌<◌, refl, arith, subst, cond, Bool, true, false, ◌&&◌, List, [], ◌∷◌, ◌++◌, Option, Some, None, zero-le, ◌⊎◌, inl, inr, leb-false, lt-ltb, eqb-true, ap}
use Rattle.std.specs.Prelude.{◌==◌, nat_lt}
use Rattle.aid_types.specs.declared.number.Key.{Key}
use Rattle.aid_books.specs.declared.book.Book.{Book}
use Rattle.aid_types.specs.declared.application.Application.{Application}
use Rattle.law_rules.specs.declared.facts.Facts.{Facts}
use Rattle.aid_filings.specs.declared.filing.Filing.{Filing}
use Rattle.aid_types.specs.declared.award.Refusal.{Refusal}
use Rattle.aid_filings.specs.declared.filing.What.{What}
use Rattle.aid_filings.specs.declared.filing.What.TheVariants.{Book as BookFiled, School, Calendar, Prior, Apply, Enroll, Originate, Pay, Withdraw, Repay, Adjust, Cost, Sent, Amend}
use Rattle.law_terms.specs.Terms.{intensity_of}
use Rattle.law_terms.specs.Used.{use_of}
use Rattle.aid_types.specs.Programs.{rank}
use Rattle.office_history.specs.Past.{earlier, given, the_book, book_in, application, higher}
use Rattle.office_history.specs.Award.{award_under, scheduled, unfit_under}
use Rattle.office_history.specs.Net.{cell_of, in_year, payments_in, pell_year}
use Rattle.aid_types.specs.declared.line.RuleLine.{RuleLine}
use Rattle.aid_types.specs.RuleLines.{only, told, lacks, over}
use Rattle.law_rules.specs.Rules.{rule_91, is_half_time_extra}
use Rattle.law_rules.specs.Lines.{lines_of, rule_93, year_limit}
use Rattle.office_history.specs.FactsOf.{facts_of, apply_facts}
use Rattle.office_history.specs.Positions.{book_at, transaction_of, if_fit}
use Rattle.office_history.specs.Rules.{rules_of}
use Rattle.office_history.specs.Answer.{breaks, IsLegal}
use Rattle.office_history.proofs.Asked.{none_told}
use Rattle.aid_types.proofs.Holds.{AllHold, all_hold, over_holds, stands_holds, hold_front, hold_back, told_holds}
use Rattle.office_history.proofs.PayRules.{affords}
use Rattle.office_history.proofs.Steps.{net_unpaid, net_paid, within_year}

-- a book that is filed is its year's first
pub book_new : (past : List Filing) (key : Key) (b : Book) → breaks past (record { key = key; what = BookFiled b }) ≡ None → the_book past b.year ≡ None
book_new past key b h =
    let k = all_hold (rules_of past key (BookFiled b)) h in
    none_told (λ f. book_in b.year f.what) past (stands_holds 11 (book_at past b.year) b.year k.1.1.0)

-- a book changes no award above 0
pub award_by_book : (past : List Filing) (key : Key) (b : Book) (student year : ℕ) → breaks past (record { key = key; what = BookFiled b }) ≡ None →
    (scheduled past student year ≡ 0) ⊎ (scheduled (record { key = key; what = BookFiled b } ∷ past) student year ≡ scheduled past student year)
award_by_book past key b student year h = go (b.year == year) refl
  where
    go : (t : Bool) → (b.year == year) ≡ t →
        (award_under (the_book past year) (application past student year) ≡ 0)
        ⊎ (award_under (earlier (given t b) (the_book past year)) (application past student year) ≡ award_under (the_book past year) (application past student year))
    go false e = inr refl
    go true e =
        let none : the_book past year ≡ None = subst (λ y. the_book past y ≡ None) (eqb-true b.year year e) (book_new past key b h) in
        inl (rw none refl)

-- what an application that breaks no rule tells of the facts
pub record Corrects (f : Facts) (transaction : ℕ) : Type 0 where
  pub above : f.transaction < transaction
  pub fit : f.unfit ≡ None
  pub terms : f.term_over ≡ None
  pub main : f.pell_main ≤ 100 * f.next_scheduled
  pub year : f.pell_year ≤ 150 * f.next_scheduled
  pub lifetime : f.used_else + use_of f.pell_year f.next_scheduled ≤ 600000

pub corrects : (f : Facts) (key : Key) (a : Application) → AllHold (lines_of f key.school (Apply a)) → Corrects f a.transaction
corrects f key a k =
    let l3 : List RuleLine = over 93 f.pell_main (100 * f.next_scheduled) ∷ over 93 f.pell_year (150 * f.next_scheduled)
    ∷ over 93 (f.used_else + use_of f.pell_year f.next_scheduled) 600000 ∷ [] in
    let r = hold_back (only (nat_lt 0 key.school) (lacks 12 f.school_at key.school 0 ∷ [])) (lacks 10 f.book_at a.year 0 ∷ told f.unfit ++ (rule_91 a.transaction f.transaction ∷ rule_93 f)) k.1 in
    let q = hold_back (told f.unfit) (rule_91 a.transaction f.transaction ∷ rule_93 f) r.1 in
    let t = hold_back (told f.term_over) l3 q.1 in
    record {
      fit = told_holds f.unfit (hold_front (told f.unfit) (rule_91 a.transaction f.transaction ∷ rule_93 f) r.1);
      above = leb-false a.transaction f.transaction q.0;
      terms = told_holds f.term_over (hold_front (told f.term_over) l3 q.1);
      main = over_holds 93 f.pell_main (100 * f.next_scheduled) t.0;
      year = over_holds 93 f.pell_year (150 * f.next_scheduled) t.1.0;
      lifetime = over_holds 93 (f.used_else + use_of f.pell_year f.next_scheduled) 600000 t.1.1.0;
    }

pub higher_wins : (a : Application) (o : Option Application) → transaction_of o < a.transaction → higher (Some a) o ≡ Some a
higher_wins a None h = refl
higher_wins a (Some b) h = rw (lt-ltb b.transaction a.transaction h) refl

pub correction :
    (past : List Filing) (key : Key) (a : Application) → breaks past (record { key = key; what = Apply a }) ≡ None →
    Corrects (apply_facts past key.school a (award_under (the_book past a.year) (Some a))) a.transaction
correction past key a h =
    let k = corrects (facts_of past key (Apply a)) key a (all_hold (rules_of past key (Apply a)) h) in
    let e : if_fit (unfit_under (the_book past a.year) a) (award_under (the_book past a.year) (Some a)) ≡ award_under (the_book past a.year) (Some a) =
    ap (λ (o : Option Refusal). if_fit o (award_under (the_book past a.year) (Some a))) k.fit in
    subst (λ n. Corrects (apply_facts past key.school a n) a.transaction) e k

-- an application changes the award of its own student and year alone, to what it gives
pub award_by_application : (past : List Filing) (key : Key) (a : Application) (student year : ℕ) → breaks past (record { key = key; what = Apply a }) ≡ None →
    ((a.student ≡ student) × (a.year ≡ year)
    × (scheduled (record { key = key; what = Apply a } ∷ past) student year ≡ award_under (the_book past a.year) (Some a)))
    ⊎ (((a.student == student && a.year == year) ≡ false)
    × (scheduled (record { key = key; what = Apply a } ∷ past) student year ≡ scheduled past student year))
award_by_application past key a student year h = go (a.student == student) (a.year == year) refl refl
  where
    go : (t u : Bool) → (a.student == student) ≡ t → (a.year == year) ≡ u →
        ((a.student ≡ student) × (a.year ≡ year)
        × (award_under (the_book past year) (higher (given (t && u) a) (application past student year)) ≡ award_under (the_book past a.year) (Some a)))
        ⊎ (((t && u) ≡ false)
        × (award_under (the_book past year) (higher (given (t && u) a) (application past student year)) ≡ award_under (the_book past year) (application past student year)))
    go false u e d = inr (refl, refl)
    go true false e d = inr (refl, refl)
    go true true e d =
        let s : a.student ≡ student = eqb-true a.student student e in
        let y : a.year ≡ year = eqb-true a.year year d in
        let above : transaction_of (application past student year) < a.transaction =
        subst (λ z. transaction_of (application past student z) < a.transaction) y
        (subst (λ z. transaction_of (application past z a.year) < a.transaction) s (correction past key a h).above) in
        let wins : higher (Some a) (application past student year) ≡ Some a = higher_wins a (application past student year) above in
        inl (s, y, rw (wins, y) refl)

abbrev pub YearHolds : List Filing → Type 0
YearHolds past = (student year : ℕ) → pell_year past student year ≤ 150 * scheduled past student year

-- a year's limit is at most one and a half awards
limit_below : (f : Facts) → year_limit f ≤ 150 * f.scheduled
limit_below f = go (is_half_time_extra f.term (intensity_of f.credits f.full))
  where
    go : (b : Bool) → cond b 150 100 * f.scheduled ≤ 150 * f.scheduled
    go true = omega arith
    go false = omega arith

-- a filing that pays nothing and leaves the award
year_kept : (past : List Filing) (key : Key) (what : What) → YearHolds past → payments_in key what ≡ [] →
    ((student year : ℕ) → scheduled past student year ≤ scheduled (record { key = key; what = what } ∷ past) student year) →
    YearHolds (record { key = key; what = what } ∷ past)
year_kept past key what ih none up student year =
    let n = net_unpaid past key what (in_year student year 3) none in
    let old = ih student year in
    let u = up student year in
    omega arith

year_step : (past : List Filing) (key : Key) (what : What) → YearHolds past → breaks past (record { key = key; what = what }) ≡ None →
    YearHolds (record { key = key; what = what } ∷ past)
year_step past key (Pay a) ih h = λ student year.
    let f = facts_of past key (Pay a) in
    let rule : rank a.program ≡ 3 → pell_year past a.student a.year + a.cents ≤ 150 * scheduled past a.student a.year =
    λ e. let r = (affords f key a h).year e in let l = limit_below f in omega arith in
    let x : cond (in_year student year 3 (cell_of key a)) a.cents 0 ≤ 150 * scheduled past student year - pell_year past student year =
    within_year (λ s y. 150 * scheduled past s y - pell_year past s y) student year 3 (cell_of key a) a.cents (λ e. let r = rule e in omega arith) in
    let n = net_paid past key a (in_year student year 3) in
    let old = ih student year in
    omega arith
year_step past key (BookFiled b) ih h = year_kept past key (BookFiled b) ih refl (λ student year. up student year (award_by_book past key b student year h))
  where
    up : (student year : ℕ) → (scheduled past student year ≡ 0) ⊎ (scheduled (record { key = key; what = BookFiled b } ∷ past) student year ≡ scheduled past student year) →
        scheduled past student year ≤ scheduled (record { key = key; what = BookFiled b } ∷ past) student year
    up student year (inl z) = omega arith
    up student year (inr e) = omega arith
year_step past key (Apply a) ih h = λ student year. go student year (award_by_application past key a student year h)
  where
    go : (student year : ℕ) →
        ((a.student ≡ student) × (a.year ≡ year)
        × (scheduled (record { key = key; what = Apply a } ∷ past) student year ≡ award_under (the_book past a.year) (Some a)))
        ⊎ (((a.student == student && a.year == year) ≡ false)
        × (scheduled (record { key = key; what = Apply a } ∷ past) student year ≡ scheduled past student year)) →
        pell_year past student year ≤ 150 * scheduled (record { key = key; what = Apply a } ∷ past) student year
    go student year (inl w) =
        let y : pell_year past student year ≤ 150 * award_under (the_book past a.year) (Some a) =
        subst (λ z. pell_year past student z ≤ 150 * award_under (the_book past a.year) (Some a)) w.1
        (subst (λ z. pell_year past z a.year ≤ 150 * award_under (the_book past a.year) (Some a)) w.0 (correction past key a h).year) in
        omega arith
    go student year (inr w) = let old = ih student year in let e = w.1 in omega arith
year_step past key (School b) ih h = ih
year_step past key (Calendar b) ih h = ih
year_step past key (Prior b) ih h = ih
year_step past key (Enroll b) ih h = ih
year_step past key (Originate b) ih h = ih
year_step past key (Withdraw b) ih h = year_kept past key (Withdraw b) ih refl (λ student year. omega arith)
year_step past key (Repay b) ih h = year_kept past key (Repay b) ih refl (λ student year. omega arith)
year_step past key (Adjust b) ih h = year_kept past key (Adjust b) ih refl (λ student year. omega arith)
year_step past key (Cost b) ih h = ih
year_step past key (Sent b) ih h = ih
year_step past key (Amend b) ih h = ih

pub year_holds : (past : List Filing) → IsLegal past → YearHolds past
year_holds [] h = λ student year. zero-le
year_holds (f ∷ past) h = year_step past f.key f.what (year_holds past h.0) h.2
