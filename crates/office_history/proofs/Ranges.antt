-- The ranges of what a legal history holds.
use Rattle.std.proofs.Common.{◌+◌, ◌≡◌, ℕ, ◌*◌, ◌≤◌, arith, refl, Bool, true, false, ◌&&◌, ◌||◌, List, [], ◌∷◌, Option, Some, None, zero-le, cond, length, ◌<◌, not, ◌++◌, subst, leb-false, eqb-true, ltb-false}
use Rattle.std.specs.Prelude.{◌==◌, nat_lt, is_some, nat_le, sum, slice_index}
use Rattle.std.proofs.lemmas.Bool.Decides.{nat_tests}
use Rattle.aid_types.specs.Programs.{six}
use Rattle.aid_types.specs.declared.number.Key.{Key}
use Rattle.aid_filings.specs.declared.filing.What.{What}
use Rattle.aid_filings.specs.declared.filing.What.TheVariants.{Book as BookFiled, School, Calendar, Prior, Apply, Enroll, Originate, Pay, Withdraw, Repay, Adjust, Cost, Sent, Amend}
use Rattle.law_rules.specs.Lines.{rule_63, past_payment, past_year, past_lifetime, past_fseog, past_cost}
use Rattle.aid_types.specs.RuleLines.{stands, where_true, only, over, too_early}
use Rattle.law_rules.specs.Rules.{rule_21, rule_23, rule_24, rule_62}
use Rattle.aid_filings.specs.declared.filing.Filing.{Filing}
use Rattle.office_history.specs.Past.{amount_or, at_school, cost, cost_in, credits, credits_in, given, if_here, later, latest, FiledTerm, terms_on_file, the_school, the_withdrawal, the_term}
use Rattle.office_history.specs.Net.{Cell, is_cell, paid, net_at, at_school_in_year, Move, onto, cell_of, paid_after, repaid, returned, sent, sent_cell, used_else, use_in, all_years, net, taken, owed, post, sheet, days_of, last_of, withdrawn_cell}
use Rattle.office_history.specs.FactsOf.{facts_of}
use Rattle.office_history.specs.Positions.{terms_of}
use Rattle.office_history.specs.Rules.{rules_of}
use Rattle.office_history.specs.Answer.{breaks, IsLegal}
use Rattle.aid_types.proofs.Holds.{all_hold, hold_back, hold_only, AllHold, over_holds}
use Rattle.office_history.proofs.Main.{of_sort, not_of_sort, paid_parts, taken_parts, paid_same, taken_same}
use Rattle.office_history.proofs.AnyNets.{any_net_stands, covered_all}
use Rattle.office_history.proofs.Cost.{cost_holds}
use Rattle.office_history.proofs.Sendings.{returned_is_taken}
use Rattle.std.specs.List.{filter}
use Rattle.aid_filings.specs.Calendars.{term_of}
use Rattle.aid_filings.specs.declared.filing.SchoolFacts.{SchoolFacts}
use Rattle.aid_filings.specs.declared.filing.CalendarFacts.{CalendarFacts}
use Rattle.office_history.proofs.Lifetime.{lifetime_holds, sum_mono}
use Rattle.aid_filings.specs.declared.filing.WithdrawFacts.{WithdrawFacts}
use Rattle.office_history.proofs.Sheets.{post_below}

-- a cell's net is at most what the student has at the school in the year, so at most 100 times the cost
pub cell_within_cost : (past : List Filing) → IsLegal past → (c : Cell) → net_at past c ≤ 100 * cost past c.school c.student c.year
cell_within_cost past legal c =
    let a = paid_parts past (at_school_in_year c.school c.student c.year) (is_cell c) in
    let b = taken_parts past (at_school_in_year c.school c.student c.year) (is_cell c) in
    let s = any_net_stands past legal (not_of_sort (at_school_in_year c.school c.student c.year) (is_cell c)) in
    let p = paid_same past (is_cell c) (of_sort (at_school_in_year c.school c.student c.year) (is_cell c)) inside in
    let t = taken_same past (is_cell c) (of_sort (at_school_in_year c.school c.student c.year) (is_cell c)) inside in
    let k = cost_holds past legal c.school c.student c.year in
    omega arith
  where
    inside : (d : Cell) → is_cell c d ≡ of_sort (at_school_in_year c.school c.student c.year) (is_cell c) d
    inside d = go (d.student == c.student) (d.school == c.school) (d.year == c.year) (d.term == c.term) (d.program == c.program)
      where
        go : (a b e f g : Bool) → (a && (b && (e && (f && g)))) ≡ ((b && (a && e)) && (a && (b && (e && (f && g)))))
        go true true true f g = refl
        go true true false f g = refl
        go true false e f g = refl
        go false true e f g = refl
        go false false e f g = refl

last_of_two : (bound : ℕ) (new before : Option ℕ) → amount_or new ≤ bound → amount_or before ≤ bound → amount_or (later new before) ≤ bound
last_of_two bound None before h k = k
last_of_two bound (Some a) before h k = h

told_here : (bound : ℕ) (a b : Bool) (n : ℕ) → n ≤ bound → amount_or (if_here a (given b n)) ≤ bound
told_here bound true true n h = h
told_here bound true false n h = zero-le
told_here bound false true n h = zero-le
told_here bound false false n h = zero-le

-- a cost is one that was filed
pub cost_is_small : (past : List Filing) (school student year : ℕ) → cost past school student year ≤ 999999
cost_is_small [] school student year = zero-le
cost_is_small (f ∷ past) school student year =
    last_of_two 999999 (at_school school (cost_in student year) f) (latest (at_school school (cost_in student year)) past) (go f.key f.what)
    (cost_is_small past school student year)
  where
    go : (key : Key) (what : What) → amount_or (at_school school (cost_in student year) (record { key = key; what = what })) ≤ 999999
    go key (Originate o) = told_here 999999 (key.school == school) (o.student == student && o.year == year) o.cost o.in_range
    go key (BookFiled b) = zero-le
    go key (School b) = zero-le
    go key (Calendar b) = zero-le
    go key (Prior b) = zero-le
    go key (Apply b) = zero-le
    go key (Enroll b) = zero-le
    go key (Pay b) = zero-le
    go key (Withdraw b) = zero-le
    go key (Repay b) = zero-le
    go key (Adjust b) = zero-le
    go key (Cost o) = told_here 999999 (key.school == school) (o.student == student && o.year == year) o.cost o.in_range
    go key (Sent o) = zero-le
    go key (Amend o) = zero-le

-- the net at a cell is below a million dollars
pub net_is_small : (past : List Filing) → IsLegal past → (c : Cell) → net_at past c ≤ 99999999
net_is_small past legal c =
    let k = cell_within_cost past legal c in
    let s = cost_is_small past c.school c.student c.year in
    omega arith

-- the credits that are filed are 1 to 40
few_credits : (n : ℕ) → (n == 0 || nat_lt 40 n) ≡ false → n ≤ 40
few_credits n h = grind (arith, nat_tests)

-- credits in force are at most 40
pub credits_in_range : (past : List Filing) → IsLegal past → (school student year term : ℕ) → credits past school student year term ≤ 40
credits_in_range [] legal school student year term = zero-le
credits_in_range (f ∷ past) legal school student year term =
    last_of_two 40 (at_school school (credits_in student year term) f) (latest (at_school school (credits_in student year term)) past) (go f.key f.what legal.2)
    (credits_in_range past legal.0 school student year term)
  where
    go : (key : Key) (what : What) → breaks past (record { key = key; what = what }) ≡ None →
        amount_or (at_school school (credits_in student year term) (record { key = key; what = what })) ≤ 40
    go key (Enroll e) h =
        let k = all_hold (rules_of past key (Enroll e)) h in
        told_here 40 (key.school == school) (e.student == student && (e.year == year && e.term == term)) e.credits (few_credits e.credits k.1.1.1.0)
    go key (BookFiled b) h = zero-le
    go key (School b) h = zero-le
    go key (Calendar b) h = zero-le
    go key (Prior b) h = zero-le
    go key (Apply b) h = zero-le
    go key (Originate b) h = zero-le
    go key (Pay b) h = zero-le
    go key (Withdraw b) h = zero-le
    go key (Repay b) h = zero-le
    go key (Adjust b) h = zero-le
    go key (Cost b) h = zero-le
    go key (Sent b) h = zero-le
    go key (Amend b) h = zero-le

-- what a test keeps of an amount is at most the amount
kept_below : (b : Bool) (n bound : ℕ) → n ≤ bound → cond b n 0 ≤ bound
kept_below true n bound h = h
kept_below false n bound h = zero-le

-- each filing pays, and repays, less than a million dollars
pub paid_is_small : (past : List Filing) (sel : Cell → Bool) → paid past sel ≤ 99999999 * length past
paid_is_small [] sel = zero-le
paid_is_small (f ∷ past) sel = go f.key f.what (paid_is_small past sel)
  where
    go : (key : Key) (what : What) → paid past sel ≤ 99999999 * length past →
        paid (record { key = key; what = what } ∷ past) sel ≤ 99999999 * length (f ∷ past)
    go key (Pay a) ih = let k = kept_below (sel (cell_of key a)) a.cents 99999999 a.in_range.1 in omega arith
    go key (BookFiled b) ih = omega arith
    go key (School b) ih = omega arith
    go key (Calendar b) ih = omega arith
    go key (Prior b) ih = omega arith
    go key (Apply b) ih = omega arith
    go key (Enroll b) ih = omega arith
    go key (Originate b) ih = omega arith
    go key (Withdraw b) ih = omega arith
    go key (Repay b) ih = omega arith
    go key (Adjust b) ih = omega arith
    go key (Cost b) ih = omega arith
    go key (Sent b) ih = omega arith
    go key (Amend b) ih = omega arith

pub repaid_is_small : (past : List Filing) (sel : Cell → Bool) → repaid past sel ≤ 99999999 * length past
repaid_is_small [] sel = zero-le
repaid_is_small (f ∷ past) sel = go f.key f.what (repaid_is_small past sel)
  where
    go : (key : Key) (what : What) → repaid past sel ≤ 99999999 * length past →
        repaid (record { key = key; what = what } ∷ past) sel ≤ 99999999 * length (f ∷ past)
    go key (Repay a) ih = let k = kept_below (sel (cell_of key a)) a.cents 99999999 a.in_range.1 in omega arith
    go key (BookFiled b) ih = omega arith
    go key (School b) ih = omega arith
    go key (Calendar b) ih = omega arith
    go key (Prior b) ih = omega arith
    go key (Apply b) ih = omega arith
    go key (Enroll b) ih = omega arith
    go key (Originate b) ih = omega arith
    go key (Pay b) ih = omega arith
    go key (Withdraw b) ih = omega arith
    go key (Adjust b) ih = omega arith
    go key (Cost b) ih = omega arith
    go key (Sent b) ih = omega arith
    go key (Amend b) ih = omega arith

pub sent_is_small : (past : List Filing) (sel : Cell → Bool) → sent past sel ≤ 99999999 * length past
sent_is_small [] sel = zero-le
sent_is_small (f ∷ past) sel = go f.key f.what (sent_is_small past sel)
  where
    go : (key : Key) (what : What) → sent past sel ≤ 99999999 * length past →
        sent (record { key = key; what = what } ∷ past) sel ≤ 99999999 * length (f ∷ past)
    go key (Sent s) ih = let k = kept_below (sel (sent_cell key s)) s.cents 99999999 s.in_range.1 in omega arith
    go key (BookFiled b) ih = omega arith
    go key (School b) ih = omega arith
    go key (Calendar b) ih = omega arith
    go key (Prior b) ih = omega arith
    go key (Apply b) ih = omega arith
    go key (Enroll b) ih = omega arith
    go key (Originate b) ih = omega arith
    go key (Pay b) ih = omega arith
    go key (Withdraw b) ih = omega arith
    go key (Repay b) ih = omega arith
    go key (Adjust b) ih = omega arith
    go key (Cost b) ih = omega arith
    go key (Amend b) ih = omega arith

-- what was paid after withdrawals is a part of what was paid
pub after_is_paid : (past : List Filing) (sel : Cell → Bool) → paid_after past sel ≤ paid past sel
after_is_paid [] sel = zero-le
after_is_paid (f ∷ past) sel = go f.key f.what (after_is_paid past sel)
  where
    some : (b : Bool) (m : Move) → paid_after past sel ≤ paid past sel →
        onto sel (cond b (m ∷ []) []) (paid_after past sel) ≤ cond (sel m.at) m.cents 0 + paid past sel
    some true m ih = omega arith
    some false m ih = omega arith

    go : (key : Key) (what : What) → paid_after past sel ≤ paid past sel →
        paid_after (record { key = key; what = what } ∷ past) sel ≤ paid (record { key = key; what = what } ∷ past) sel
    go key (Pay a) ih = some (is_some (the_withdrawal past key.school a.student a.year a.term)) (record { at = cell_of key a; cents = a.cents }) ih
    go key (BookFiled b) ih = ih
    go key (School b) ih = ih
    go key (Calendar b) ih = ih
    go key (Prior b) ih = ih
    go key (Apply b) ih = ih
    go key (Enroll b) ih = ih
    go key (Originate b) ih = ih
    go key (Withdraw b) ih = ih
    go key (Repay b) ih = ih
    go key (Adjust b) ih = ih
    go key (Cost b) ih = ih
    go key (Sent b) ih = ih
    go key (Amend b) ih = ih

-- what was taken back, and what is still owed
pub taken_is_small : (past : List Filing) → IsLegal past → (sel : Cell → Bool) → taken past sel ≤ 99999999 * length past
taken_is_small past legal sel =
    let p = paid_is_small past sel in
    let k = any_net_stands past legal sel in
    omega arith

-- what withdrawals return is a part of it
pub returned_is_small : (past : List Filing) → IsLegal past → (sel : Cell → Bool) → returned past sel ≤ 99999999 * length past
returned_is_small past legal sel = omega (arith, returned_is_taken past sel, taken_is_small past legal sel)

pub owed_is_small : (past : List Filing) → IsLegal past → (sel : Cell → Bool) → owed past sel ≤ 199999998 * length past
owed_is_small past legal sel =
    let p = paid_is_small past sel in
    let r = repaid_is_small past sel in
    let k = covered_all past legal sel in
    omega arith

-- what a withdrawal leaves to be disbursed is within the cost
posted : (past : List Filing) (key : Key) (w : WithdrawFacts) → breaks past (record { key = key; what = Withdraw w }) ≡ None → (sheet past key w).post ≤ 99999999
posted past key w h =
    let f = facts_of past key (Withdraw w) in
    let pell = slice_index w.could 3 in
    let fseog = slice_index w.could 4 in
    let first = only (nat_lt 0 pell) (past_payment 63 f pell ∷ past_year 63 f pell ∷ past_lifetime 63 f pell ∷ []) in
    let second = only (nat_lt 0 fseog) (past_fseog 63 f fseog ∷ []) in
    let third = only (nat_lt 0 (sum w.could)) (past_cost 63 f (sum w.could) ∷ []) in
    let k = (all_hold (rules_of past key (Withdraw w)) h).1.1.1.1.1.1.1 in
    let r = hold_back (rule_62 w.last (the_term past key.school w.year w.term)) (too_early 21 w.determined w.last ∷ rule_63 f w.could) k in
    let line = hold_back second third (hold_back first (second ++ third) r.1) in
    let below = post_below (days_of (the_term past key.school w.year w.term) w.last)
    (days_of (the_term past key.school w.year w.term) (last_of (the_term past key.school w.year w.term))) w.charges
    (six (λ p. net_at past (withdrawn_cell key w p))) w.could in
    let most = within (sum w.could) (net past (at_school_in_year key.school w.student w.year)) (cost past key.school w.student w.year)
    (cost_is_small past key.school w.student w.year) (nat_lt 0 (sum w.could)) refl line in
    omega arith
  where
    within : (could net cost : ℕ) → cost ≤ 999999 → (b : Bool) → nat_lt 0 could ≡ b → AllHold (only b (over 63 (net + could) (100 * cost) ∷ [])) → could ≤ 99999999
    within could net cost small true e h = let k = over_holds 63 (net + could) (100 * cost) h.0 in omega arith
    within could net cost small false e h = let k = ltb-false 0 could e in omega arith

pub post_is_small : (past : List Filing) → IsLegal past → (sel : Cell → Bool) → post past sel ≤ 99999999 * length past
post_is_small [] legal sel = zero-le
post_is_small (f ∷ past) legal sel = go f.key f.what legal.2 (post_is_small past legal.0 sel)
  where
    go : (key : Key) (what : What) → breaks past (record { key = key; what = what }) ≡ None → post past sel ≤ 99999999 * length past →
        post (record { key = key; what = what } ∷ past) sel ≤ 99999999 * length (f ∷ past)
    go key (Withdraw w) h ih = let k = kept_below (sel (withdrawn_cell key w 0)) (sheet past key w).post 99999999 (posted past key w h) in omega arith
    go key (BookFiled b) h ih = omega arith
    go key (School b) h ih = omega arith
    go key (Calendar b) h ih = omega arith
    go key (Prior b) h ih = omega arith
    go key (Apply b) h ih = omega arith
    go key (Enroll b) h ih = omega arith
    go key (Originate b) h ih = omega arith
    go key (Pay b) h ih = omega arith
    go key (Repay b) h ih = omega arith
    go key (Adjust b) h ih = omega arith
    go key (Cost b) h ih = omega arith
    go key (Sent b) h ih = omega arith
    go key (Amend b) h ih = omega arith

-- lifetime use but of one year
pub used_else_within : (past : List Filing) → IsLegal past → (student year : ℕ) → used_else past student year ≤ 600000
used_else_within past legal student year =
    let all = lifetime_holds past legal student in
    let part = sum_mono (use_in past student) (λ y. cond (y == year) 0 (use_in past student y)) all_years (λ y. go (y == year) (use_in past student y)) in
    omega arith
  where
    go : (b : Bool) (n : ℕ) → cond b 0 n ≤ n
    go true n = zero-le
    go false n = omega arith

-- the main terms of a school's year that are on file
abbrev pub main_terms : List Filing → ℕ → ℕ → List FiledTerm
main_terms past school year = filter (λ t. t.school == school && (t.year == year && not t.term.extra)) (terms_on_file past)

-- a school has at most three main terms in a year
pub main_terms_are_few : (past : List Filing) → IsLegal past → (school year : ℕ) →
    length (main_terms past school year) ≤ 3
main_terms_are_few [] legal school year = zero-le
main_terms_are_few (f ∷ past) legal school year = go f.key f.what legal.2 (main_terms_are_few past legal.0 school year)
  where
    few_terms : (o : Option SchoolFacts) → terms_of o ≤ 3
    few_terms None = zero-le
    few_terms (Some s) = s.in_range.1.1

    room_for_one : (key : Key) (c : CalendarFacts) → breaks past (record { key = key; what = Calendar c }) ≡ None → not c.extra ≡ true →
        length (main_terms past key.school c.year) < 3
    room_for_one key c h main =
        let f = facts_of past key (Calendar c) in
        let t = term_of c in
        let k = (all_hold (rules_of past key (Calendar c)) h).1.1.1 in
        let after_21 = hold_back (rule_21 t) (rule_23 t ++ (stands 22 f.overlap_at c.term ∷ rule_24 t f.main_terms f.terms)) k in
        let after_23 = hold_back (rule_23 t) (stands 22 f.overlap_at c.term ∷ rule_24 t f.main_terms f.terms) after_21 in
        let line = hold_only (not c.extra) (where_true 24 (nat_le f.terms f.main_terms) f.main_terms f.terms ∷ []) main after_23.1 in
        let below = leb-false f.terms f.main_terms line.0 in
        let most = few_terms (the_school past key.school) in
        omega arith

    counted : (key : Key) (c : CalendarFacts) (x : FiledTerm) (a b d : Bool) → (key.school == school) ≡ a → (c.year == year) ≡ b → not c.extra ≡ d →
        breaks past (record { key = key; what = Calendar c }) ≡ None →
        length (main_terms past school year) ≤ 3 →
        length (cond (a && (b && d)) (x ∷ main_terms past school year) (main_terms past school year)) ≤ 3
    counted key c x false b d ea eb ed h ih = ih
    counted key c x true false d ea eb ed h ih = ih
    counted key c x true true false ea eb ed h ih = ih
    counted key c x true true true ea eb ed h ih =
        let here = subst (λ (y : ℕ). length (main_terms past school y) < 3) (eqb-true c.year year eb)
        (subst (λ (s : ℕ). length (main_terms past s c.year) < 3) (eqb-true key.school school ea)
        (room_for_one key c h ed)) in
        omega arith

    go : (key : Key) (what : What) → breaks past (record { key = key; what = what }) ≡ None →
        length (main_terms past school year) ≤ 3 →
        length (main_terms (record { key = key; what = what } ∷ past) school year) ≤ 3
    go key (Calendar c) h ih =
        counted key c (record { school = key.school; year = c.year; position = length past + 1; term = term_of c }) (key.school == school) (c.year == year) (not c.extra) refl refl refl h ih
    go key (BookFiled b) h ih = ih
    go key (School b) h ih = ih
    go key (Prior b) h ih = ih
    go key (Apply b) h ih = ih
    go key (Enroll b) h ih = ih
    go key (Originate b) h ih = ih
    go key (Pay b) h ih = ih
    go key (Withdraw b) h ih = ih
    go key (Repay b) h ih = ih
    go key (Adjust b) h ih = ih
    go key (Cost b) h ih = ih
    go key (Sent b) h ih = ih
    go key (Amend b) h ih = ih
