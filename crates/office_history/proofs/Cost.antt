-- In a legal history the lines of cost and of FSEOG hold.
use Rattle.std.proofs.Common.{◌≡◌, ℕ, ◌+◌, ◌-◌, ◌*◌, ◌≤◌, ◌<◌, refl, sym, ap, subst, arith, cond, Bool, true, false, ◌&&◌, List, [], ◌∷◌, length, Option, None, eqb-true, zero-le}
use Rattle.std.specs.Prelude.{◌==◌, is_some}
use Rattle.std.specs.List.{AllByRecursion}
use Rattle.aid_types.specs.declared.number.Key.{Key}
use Rattle.aid_filings.specs.declared.filing.Filing.{Filing}
use Rattle.aid_filings.specs.declared.filing.What.{What}
use Rattle.aid_filings.specs.declared.filing.OriginateFacts.{OriginateFacts}
use Rattle.aid_filings.specs.declared.filing.What.TheVariants.{Book as BookFiled, School, Calendar, Prior, Apply, Enroll, Originate, Pay, Withdraw, Repay, Adjust, Cost, Sent, Amend}
use Rattle.aid_types.specs.Programs.{rank}
use Rattle.aid_types.proofs.Holds.{all_hold, lacks_holds, over_holds, stands_holds}
use Rattle.office_history.specs.Past.{amount_or, at_school, cost, cost_in, earlier, earliest, given, if_here, later, latest, originated_in}
use Rattle.office_history.specs.Positions.{cost_at}
use Rattle.office_history.specs.Rules.{rules_of}
use Rattle.office_history.specs.Net.{cell_of, net, at_school_in_year, in_year}
use Rattle.office_history.specs.FactsOf.{facts_of}
use Rattle.office_history.specs.Answer.{breaks, IsLegal}
use Rattle.office_history.proofs.PayRules.{affords}
use Rattle.office_history.proofs.Nets.{none_before}
use Rattle.office_history.proofs.Steps.{by_payment, net_unpaid, net_paid, within_school_year, within_year}

abbrev pub CostHolds : List Filing → Type 0
CostHolds past = (school student year : ℕ) → net past (at_school_in_year school student year) ≤ 100 * cost past school student year

-- ---- what a filing of another school, student or year says changes nothing
other_stays : (a b : Bool) (n : ℕ) (old : Option ℕ) → is_some (if_here a (given b n)) ≡ false → later (if_here a (given b n)) old ≡ old
other_stays true true n old h = absurd cc
other_stays true false n old h = refl
other_stays false true n old h = refl
other_stays false false n old h = refl

-- without an origination no cost is in force: each changed one comes after it
pub cost_unfiled : (past : List Filing) → IsLegal past → (school student year : ℕ) → cost_at past school student year ≡ 0 → latest (at_school school (cost_in student year)) past ≡ None
cost_unfiled [] legal school student year none = refl
cost_unfiled (f ∷ past) legal school student year none =
    let before : (cost_at past school student year ≡ 0) × (is_some (at_school school (originated_in student year) f) ≡ false) =
    none_before (cost_at past school student year) (is_some (at_school school (originated_in student year) f)) (length past) none in
    go f.key f.what legal.2 before.1 before.0 (cost_unfiled past legal.0 school student year before.0)
  where
    go : (key : Key) (what : What) → breaks past (record { key = key; what = what }) ≡ None → is_some (at_school school (originated_in student year) (record { key = key; what = what })) ≡ false →
        cost_at past school student year ≡ 0 → latest (at_school school (cost_in student year)) past ≡ None →
        latest (at_school school (cost_in student year)) (record { key = key; what = what } ∷ past) ≡ None
    go key (Originate o) h other at ih = rw (other_stays (key.school == school) (o.student == student && o.year == year) o.cost (latest (at_school school (cost_in student year)) past) other) ih
    go key (Cost o) h other at ih = changed (key.school == school) (o.student == student) (o.year == year) refl refl refl
      where
        changed : (a b c : Bool) → (key.school == school) ≡ a → (o.student == student) ≡ b → (o.year == year) ≡ c →
            later (if_here a (given (b && c) o.cost)) (latest (at_school school (cost_in student year)) past) ≡ None
        changed true true true ea eb ec =
            let own = lacks_holds 50 (cost_at past key.school o.student o.year) o.student key.school (all_hold (rules_of past key (Cost o)) h).1.1.0 in
            let there = subst (λ y. 0 < cost_at past school student y) (eqb-true o.year year ec)
            (subst (λ s. 0 < cost_at past school s o.year) (eqb-true o.student student eb)
            (subst (λ c. 0 < cost_at past c o.student o.year) (eqb-true key.school school ea) own)) in
            absurd (omega (arith, there, at))
        changed true true false ea eb ec = ih
        changed true false c ea eb ec = ih
        changed false true true ea eb ec = ih
        changed false true false ea eb ec = ih
        changed false false c ea eb ec = ih
    go key (BookFiled b) h other at ih = ih
    go key (School b) h other at ih = ih
    go key (Calendar b) h other at ih = ih
    go key (Prior b) h other at ih = ih
    go key (Apply b) h other at ih = ih
    go key (Enroll b) h other at ih = ih
    go key (Pay b) h other at ih = ih
    go key (Withdraw b) h other at ih = ih
    go key (Repay b) h other at ih = ih
    go key (Adjust b) h other at ih = ih
    go key (Sent b) h other at ih = ih
    go key (Amend b) h other at ih = ih

-- what stands at a school in a year stays within its cost, where the net is what it was
cost_stays : (past : List Filing) → IsLegal past → (key : Key) (what : What) → breaks past (record { key = key; what = what }) ≡ None → (school student year : ℕ) →
    net past (at_school_in_year school student year) ≤ 100 * cost past school student year →
    net past (at_school_in_year school student year) ≤ 100 * cost (record { key = key; what = what } ∷ past) school student year
cost_stays past legal key (Originate o) h school student year old = go (key.school == school) (o.student == student) (o.year == year) refl refl refl
  where
    go : (a b c : Bool) → (key.school == school) ≡ a → (o.student == student) ≡ b → (o.year == year) ≡ c →
        net past (at_school_in_year school student year) ≤ 100 * amount_or (later (if_here a (given (b && c) o.cost)) (latest (at_school school (cost_in student year)) past))
    go true true true ea eb ec =
        let own : cost_at past key.school o.student o.year ≡ 0 = stands_holds 41 (cost_at past key.school o.student o.year) o.year (all_hold (rules_of past key (Originate o)) h).1.1.1.0 in
        let none = subst (λ y. cost_at past school student y ≡ 0) (eqb-true o.year year ec)
        (subst (λ s. cost_at past school s o.year ≡ 0) (eqb-true o.student student eb)
        (subst (λ c. cost_at past c o.student o.year ≡ 0) (eqb-true key.school school ea) own)) in
        let nothing : cost past school student year ≡ 0 = ap amount_or (cost_unfiled past legal school student year none) in
        omega (arith, old, nothing)
    go true true false ea eb ec = old
    go true false c ea eb ec = old
    go false true true ea eb ec = old
    go false true false ea eb ec = old
    go false false c ea eb ec = old
cost_stays past legal key (Cost o) h school student year old = go (key.school == school) (o.student == student) (o.year == year) refl refl refl
  where
    go : (a b c : Bool) → (key.school == school) ≡ a → (o.student == student) ≡ b → (o.year == year) ≡ c →
        net past (at_school_in_year school student year) ≤ 100 * amount_or (later (if_here a (given (b && c) o.cost)) (latest (at_school school (cost_in student year)) past))
    go true true true ea eb ec =
        let own : net past (at_school_in_year key.school o.student o.year) ≤ 100 * o.cost =
        over_holds 45 (net past (at_school_in_year key.school o.student o.year)) (100 * o.cost) (all_hold (rules_of past key (Cost o)) h).1.1.1.1.0 in
        subst (λ y. net past (at_school_in_year school student y) ≤ 100 * o.cost) (eqb-true o.year year ec)
        (subst (λ s. net past (at_school_in_year school s o.year) ≤ 100 * o.cost) (eqb-true o.student student eb)
        (subst (λ c. net past (at_school_in_year c o.student o.year) ≤ 100 * o.cost) (eqb-true key.school school ea) own))
    go true true false ea eb ec = old
    go true false c ea eb ec = old
    go false true true ea eb ec = old
    go false true false ea eb ec = old
    go false false c ea eb ec = old
cost_stays past legal key (BookFiled b) h school student year old = old
cost_stays past legal key (School b) h school student year old = old
cost_stays past legal key (Calendar b) h school student year old = old
cost_stays past legal key (Prior b) h school student year old = old
cost_stays past legal key (Apply b) h school student year old = old
cost_stays past legal key (Enroll b) h school student year old = old
cost_stays past legal key (Pay b) h school student year old = old
cost_stays past legal key (Withdraw b) h school student year old = old
cost_stays past legal key (Repay b) h school student year old = old
cost_stays past legal key (Adjust b) h school student year old = old
cost_stays past legal key (Sent b) h school student year old = old
cost_stays past legal key (Amend b) h school student year old = old

cost_step : (past : List Filing) → IsLegal past → (key : Key) → CostHolds past → (what : What) → breaks past (record { key = key; what = what }) ≡ None →
    CostHolds (record { key = key; what = what } ∷ past)
cost_step past legal key ih = by_payment (λ what. breaks past (record { key = key; what = what }) ≡ None → CostHolds (record { key = key; what = what } ∷ past)) key
    (λ a h school student year.
    let rule : net past (at_school_in_year key.school a.student a.year) + a.cents ≤ 100 * cost past key.school a.student a.year =
    (affords (facts_of past key (Pay a)) key a h).cost in
    let x : cond (at_school_in_year school student year (cell_of key a)) a.cents 0
    ≤ 100 * cost past school student year - net past (at_school_in_year school student year) =
    within_school_year (λ c s y. 100 * cost past c s y - net past (at_school_in_year c s y)) school student year (cell_of key a) a.cents (omega arith) in
    let n = net_paid past key a (at_school_in_year school student year) in
    let old = ih school student year in
    omega arith)
    (λ what none h school student year.
    let n = net_unpaid past key what (at_school_in_year school student year) none in
    let old = ih school student year in
    let stays = cost_stays past legal key what h school student year old in
    omega arith)

pub cost_holds : (past : List Filing) → IsLegal past → CostHolds past
cost_holds [] h = λ school student year. zero-le
cost_holds (f ∷ past) h = cost_step past h.0 f.key (cost_holds past h.0) f.what h.2

-- ---- where no cost was changed the one in force is that of the origination
pub unchanged : (past : List Filing) → IsLegal past → AllByRecursion (λ f. (o : OriginateFacts) → f.what ≡ Cost o → ⊥) past → (school student year : ℕ) →
    latest (at_school school (cost_in student year)) past ≡ earliest (at_school school (originated_in student year)) past
unchanged [] legal none school student year = refl
unchanged (f ∷ past) legal none school student year = go f.key f.what legal.2 none.0 (unchanged past legal.0 none.1 school student year)
  where
    go : (key : Key) (what : What) → breaks past (record { key = key; what = what }) ≡ None → ((o : OriginateFacts) → what ≡ Cost o → ⊥) →
        latest (at_school school (cost_in student year)) past ≡ earliest (at_school school (originated_in student year)) past →
        latest (at_school school (cost_in student year)) (record { key = key; what = what } ∷ past) ≡ earliest (at_school school (originated_in student year)) (record { key = key; what = what } ∷ past)
    go key (Cost o) h not ih = absurd (not o refl)
    go key (Originate o) h not ih = first (key.school == school) (o.student == student) (o.year == year) refl refl refl
      where
        first : (a b c : Bool) → (key.school == school) ≡ a → (o.student == student) ≡ b → (o.year == year) ≡ c →
            later (if_here a (given (b && c) o.cost)) (latest (at_school school (cost_in student year)) past) ≡ earlier (if_here a (given (b && c) o.cost)) (earliest (at_school school (originated_in student year)) past)
        first true true true ea eb ec =
            let own : cost_at past key.school o.student o.year ≡ 0 = stands_holds 41 (cost_at past key.school o.student o.year) o.year (all_hold (rules_of past key (Originate o)) h).1.1.1.0 in
            let at = subst (λ y. cost_at past school student y ≡ 0) (eqb-true o.year year ec)
            (subst (λ s. cost_at past school s o.year ≡ 0) (eqb-true o.student student eb)
            (subst (λ c. cost_at past c o.student o.year ≡ 0) (eqb-true key.school school ea) own)) in
            rw (sym ih, cost_unfiled past legal.0 school student year at) refl
        first true true false ea eb ec = ih
        first true false c ea eb ec = ih
        first false true true ea eb ec = ih
        first false true false ea eb ec = ih
        first false false c ea eb ec = ih
    go key (BookFiled b) h not ih = ih
    go key (School b) h not ih = ih
    go key (Calendar b) h not ih = ih
    go key (Prior b) h not ih = ih
    go key (Apply b) h not ih = ih
    go key (Enroll b) h not ih = ih
    go key (Pay b) h not ih = ih
    go key (Withdraw b) h not ih = ih
    go key (Repay b) h not ih = ih
    go key (Adjust b) h not ih = ih
    go key (Sent b) h not ih = ih
    go key (Amend b) h not ih = ih

abbrev pub FseogHolds : List Filing → Type 0
FseogHolds past = (student year : ℕ) → net past (in_year student year 4) ≤ 400000

fseog_step : (past : List Filing) (key : Key) → FseogHolds past → (what : What) → breaks past (record { key = key; what = what }) ≡ None →
    FseogHolds (record { key = key; what = what } ∷ past)
fseog_step past key ih = by_payment (λ what. breaks past (record { key = key; what = what }) ≡ None → FseogHolds (record { key = key; what = what } ∷ past)) key
    (λ a h student year.
    let rule : rank a.program ≡ 4 → net past (in_year a.student a.year 4) + a.cents ≤ 400000 =
    (affords (facts_of past key (Pay a)) key a h).fseog in
    let x : cond (in_year student year 4 (cell_of key a)) a.cents 0 ≤ 400000 - net past (in_year student year 4) =
    within_year (λ s y. 400000 - net past (in_year s y 4)) student year 4 (cell_of key a) a.cents (λ e. let r = rule e in omega arith) in
    let n = net_paid past key a (in_year student year 4) in
    let old = ih student year in
    omega arith)
    (λ what none h student year.
    let n = net_unpaid past key what (in_year student year 4) none in
    let old = ih student year in
    omega arith)

pub fseog_holds : (past : List Filing) → IsLegal past → FseogHolds past
fseog_holds [] h = λ student year. zero-le
fseog_holds (f ∷ past) h = fseog_step past f.key (fseog_holds past h.0) f.what h.2
