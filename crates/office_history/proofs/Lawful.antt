-- In a legal history each term on file is lawful, so a withdrawal that breaks no rule can be worked out.
use Rattle.std.proofs.Common.{◌≡◌, ℕ, ◌+◌, ◌<◌, refl, arith, subst, ap, Bool, true, false, ◌&&◌, ◌||◌, List, [], ◌∷◌, ◌++◌, All, Option, Some, None, ltb-false, leb-false}
use Rattle.std.specs.Prelude.{is_some, nat_le, ◌==◌}
use Rattle.std.proofs.lemmas.List.Elements.{All-cons}
use Rattle.aid_filings.specs.Calendars.{term_of}
use Rattle.aid_types.specs.declared.number.Key.{Key}
use Rattle.aid_types.specs.declared.term.Term.{Term}
use Rattle.aid_filings.specs.declared.filing.CalendarFacts.{CalendarFacts}
use Rattle.aid_filings.specs.declared.filing.WithdrawFacts.{WithdrawFacts}
use Rattle.aid_filings.specs.declared.filing.Filing.{Filing}
use Rattle.aid_filings.specs.declared.filing.What.{What}
use Rattle.aid_filings.specs.declared.filing.What.TheVariants.{Book as BookFiled, School, Calendar, Prior, Apply, Enroll, Originate, Pay, Withdraw, Repay, Adjust, Cost, Sent, Amend}
use Rattle.law_terms.specs.Terms.{AreAfter, IsLawful}
use Rattle.aid_types.specs.RuleLines.{stands, too_early}
use Rattle.law_rules.specs.Rules.{breaks_in_order, breaks_inside, rule_21, rule_23, rule_24, rule_62, first_break_in_order}
use Rattle.law_rules.specs.Lines.{rule_63}
use Rattle.office_history.specs.Past.{at_school, if_here, given, earlier, term_in, the_school, the_term}
use Rattle.office_history.specs.FactsOf.{facts_of}
use Rattle.office_history.specs.Positions.{term_at, overlap_at, main_term_count, terms_of}
use Rattle.office_history.specs.Sheets.{CanBeWorkedOut}
use Rattle.office_history.specs.Rules.{rules_of}
use Rattle.office_history.specs.Answer.{breaks, IsLegal}
use Rattle.office_history.proofs.Asked.{some_told}
use Rattle.aid_types.proofs.Holds.{AllHold, all_hold, hold_front, hold_back, over_holds, lacks_holds}

-- breaks each after the one before
in_order : (before : ℕ) (bs : List (ℕ × ℕ)) → AllHold (breaks_in_order before bs) → AreAfter before bs
in_order before [] h = tt
in_order before (b ∷ bs) h = (leb-false b.0 before h.0, ltb-false b.1 b.0 h.1.0, in_order b.1 bs h.1.1)

neither : (a b : Bool) → (a || b) ≡ false → (a ≡ false) × (b ≡ false)
neither true b h = cc
neither false b h = (refl, h)

-- a break inside a term
inside_one : (t : Term) (b : ℕ × ℕ) → (nat_le b.0 t.first || nat_le t.last b.1) ≡ false → (t.first < b.0) × (b.1 < t.last)
inside_one t b h =
    let k = neither (nat_le b.0 t.first) (nat_le t.last b.1) h in
    (leb-false b.0 t.first k.0, leb-false t.last b.1 k.1)

all_inside : (t : Term) (n : ℕ) (bs : List (ℕ × ℕ)) → AllHold (breaks_inside t n bs) → All (λ b. b.1 < t.last) bs
all_inside t n [] h = λ k d lt. absurd (omega arith)
all_inside t n (b ∷ bs) h = All-cons (λ b. b.1 < t.last) b bs (inside_one t b h.0).1 (all_inside t (n + 1) bs h.1)

-- days that break neither rule are lawful
lawful_days : (t : Term) → AllHold (rule_21 t) → AllHold (rule_23 t) → IsLawful t
lawful_days t order inside = record {
  ordered = ltb-false t.last t.first order.0;
  breaks = go t.breaks order.1 inside;
  inside = all_inside t 1 t.breaks inside;
}
  where
    go : (bs : List (ℕ × ℕ)) → AllHold (first_break_in_order bs) → AllHold (breaks_inside t 1 bs) → AreAfter t.first bs
    go [] h k = tt
    go (b ∷ bs) h k = ((inside_one t b k.0).0, ltb-false b.1 b.0 h.0, in_order b.1 bs h.1)

-- a term that is filed and breaks no rule
lawful_filed : (past : List Filing) (key : Key) (c : CalendarFacts) → breaks past (record { key = key; what = Calendar c }) ≡ None → IsLawful (term_of c)
lawful_filed past key c h =
    let t = term_of c in
    let k = (all_hold (rules_of past key (Calendar c)) h).1.1.1 in
    let rest = hold_back (rule_21 t) (rule_23 t ++ (stands 22 (overlap_at past key.school t) c.term ∷ rule_24 t (main_term_count past key.school c.year) (terms_of (the_school past key.school)))) k in
    lawful_days t (hold_front (rule_21 t) (rule_23 t ++ (stands 22 (overlap_at past key.school t) c.term ∷ rule_24 t (main_term_count past key.school c.year) (terms_of (the_school past key.school)))) k) (hold_front (rule_23 t) (stands 22 (overlap_at past key.school t) c.term ∷ rule_24 t (main_term_count past key.school c.year) (terms_of (the_school past key.school))) rest)

-- each term on file is lawful
pub term_is_lawful : (past : List Filing) → IsLegal past → (school year number : ℕ) (t : Term) → the_term past school year number ≡ Some t → IsLawful t
term_is_lawful [] h school year number t e = cc
term_is_lawful (f ∷ past) h school year number t e = go f.key f.what h.2 e (term_is_lawful past h.0 school year number t)
  where
    pick : (new before : Option Term) → (new ≡ Some t → IsLawful t) → (before ≡ Some t → IsLawful t) → earlier new before ≡ Some t → IsLawful t
    pick None before is ih e = ih e
    pick (Some x) None is ih e = is e
    pick (Some x) (Some y) is ih e = ih e

    filed : (a b : Bool) (x : Term) → IsLawful x → if_here a (given b x) ≡ Some t → IsLawful t
    filed true true x is e = let k : x ≡ t = cc in subst IsLawful k is
    filed true false x is e = cc
    filed false true x is e = cc
    filed false false x is e = cc

    go : (key : Key) (what : What) → breaks past (record { key = key; what = what }) ≡ None →
        the_term (record { key = key; what = what } ∷ past) school year number ≡ Some t → (the_term past school year number ≡ Some t → IsLawful t) → IsLawful t
    go key (Calendar c) rule e ih =
        pick (at_school school (term_in year number) (record { key = key; what = Calendar c })) (the_term past school year number)
        (filed (key.school == school) (c.year == year && c.term == number) (term_of c) (lawful_filed past key c rule)) ih e
    go key (BookFiled b) rule e ih = ih e
    go key (School b) rule e ih = ih e
    go key (Prior b) rule e ih = ih e
    go key (Apply b) rule e ih = ih e
    go key (Enroll b) rule e ih = ih e
    go key (Originate b) rule e ih = ih e
    go key (Pay b) rule e ih = ih e
    go key (Withdraw b) rule e ih = ih e
    go key (Repay b) rule e ih = ih e
    go key (Adjust b) rule e ih = ih e
    go key (Cost b) rule e ih = ih e
    go key (Sent b) rule e ih = ih e
    go key (Amend b) rule e ih = ih e

worked_out : (past : List Filing) (key : Key) (w : WithdrawFacts) → IsLegal past → breaks past (record { key = key; what = Withdraw w }) ≡ None → CanBeWorkedOut past key w
worked_out past key w legal h = go (the_term past key.school w.year w.term) refl
  where
    go : (o : Option Term) → the_term past key.school w.year w.term ≡ o → CanBeWorkedOut past key w
    go None e =
        let k = all_hold (rules_of past key (Withdraw w)) h in
        let some = some_told (at_school key.school (term_in w.year w.term)) past
        (lacks_holds 30 (term_at past key.school w.year w.term) w.term 0 k.1.1.0) in
        let none : is_some (the_term past key.school w.year w.term) ≡ false = ap (λ (o : Option Term). is_some o) e in
        cc
    go (Some t) e =
        let k = all_hold (rules_of past key (Withdraw w)) h in
        let within : AllHold (rule_62 w.last (the_term past key.school w.year w.term)) =
        hold_front (rule_62 w.last (the_term past key.school w.year w.term)) (too_early 21 w.determined w.last ∷ rule_63 (facts_of past key (Withdraw w)) w.could) k.1.1.1.1.1.1.1 in
        let both = subst (λ (o : Option Term). AllHold (rule_62 w.last o)) e within in
        record {
          term = t;
          on_file = e;
          lawful = term_is_lawful past legal key.school w.year w.term t e;
          begun = ltb-false w.last t.first both.0;
          inside = over_holds 62 w.last t.last both.1.0;
        }

-- a withdrawal that breaks no rule can be worked out
pub can_be_worked_out : (past : List Filing) (f : Filing) (w : WithdrawFacts) → IsLegal past → f.what ≡ Withdraw w → breaks past f ≡ None → CanBeWorkedOut past f.key w
can_be_worked_out past f w legal is h =
    worked_out past f.key w legal (subst (λ (what : What). breaks past (record { key = f.key; what = what }) ≡ None) is h)
