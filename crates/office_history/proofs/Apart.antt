-- In a legal history no two terms of different schools that share a day both hold net Pell of a student.
use Rattle.std.proofs.Common.{◌≡◌, ◌≢◌, ℕ, zero, suc, ◌+◌, ◌≤◌, ◌<◌, refl, sym, arith, subst, cond, Bool, true, false, not, ◌&&◌, ◌||◌, List, [], ◌∷◌, length, Option, Some, None, eqb-true, ne_eqb, ap, ltb-true, lt-ltb, ◌∙◌}
use Rattle.std.specs.Prelude.{◌==◌, is_some, nat_lt, nat_le}
use Rattle.std.specs.List.{list_any}
use Rattle.std.proofs.lemmas.Bool.{and_parts}
use Rattle.aid_filings.specs.Calendars.{term_of}
use Rattle.aid_types.specs.declared.number.Key.{Key}
use Rattle.aid_types.specs.declared.term.Term.{Term}
use Rattle.aid_filings.specs.declared.filing.Amount.{Amount}
use Rattle.aid_filings.specs.declared.filing.SchoolFacts.{SchoolFacts}
use Rattle.aid_filings.specs.declared.filing.CalendarFacts.{CalendarFacts}
use Rattle.aid_filings.specs.declared.filing.Filing.{Filing}
use Rattle.aid_filings.specs.declared.filing.What.{What}
use Rattle.aid_filings.specs.declared.filing.What.TheVariants.{Book as BookFiled, School, Calendar, Prior, Apply, Enroll, Originate, Pay, Withdraw, Repay, Adjust, Cost, Sent, Amend}
use Rattle.law_terms.specs.Terms.{shares_day}
use Rattle.aid_types.specs.Programs.{rank}
use Rattle.office_history.specs.Past.{first_of_two, if_here, given, earlier, school_in, the_term, FiledTerm, terms_on_file}
use Rattle.office_history.specs.Net.{Cell, is_cell, cell_of, cell_at, paid, payments_in, pell_term}
use Rattle.office_history.specs.FactsOf.{facts_of}
use Rattle.office_history.specs.Positions.{school_at, least_code, lesser_code, is_paid_beside}
use Rattle.office_history.specs.Rules.{rules_of}
use Rattle.office_history.specs.Answer.{breaks, IsLegal}
use Rattle.aid_types.proofs.Holds.{all_hold, lacks_holds}
use Rattle.office_history.proofs.Cells.{same_cell}
use Rattle.office_history.proofs.PayRules.{none_beside}
use Rattle.office_history.proofs.Steps.{net_unpaid, net_paid}
use Rattle.office_history.proofs.Filed.{is_filed, FiledHolds, filed_holds}

-- the code of a school on file is above 0
pub known_code : (past : List Filing) (code : ℕ) → 0 < school_at past code → 0 < code
known_code [] code h = absurd (omega arith)
known_code (f ∷ past) code h = go f.what h (known_code past code)
  where
    pick : (b : Bool) (s : SchoolFacts) → (s.code == code) ≡ b → 0 < s.code → 0 < first_of_two (is_some (given b s)) (school_at past code) (length past + 1) →
        (0 < school_at past code → 0 < code) → 0 < code
    pick true s e pos h ih = subst (λ z. 0 < z) (eqb-true s.code code e) pos
    pick false s e pos h ih = ih h

    go : (what : What) → 0 < first_of_two (is_some (school_in code what)) (school_at past code) (length past + 1) →
        (0 < school_at past code → 0 < code) → 0 < code
    go (School s) h ih = pick (s.code == code) s refl (omega (arith, s.in_range.0.0)) h ih
    go (BookFiled b) h ih = ih h
    go (Calendar b) h ih = ih h
    go (Prior b) h ih = ih h
    go (Apply b) h ih = ih h
    go (Enroll b) h ih = ih h
    go (Originate b) h ih = ih h
    go (Pay b) h ih = ih h
    go (Withdraw b) h ih = ih h
    go (Repay b) h ih = ih h
    go (Adjust b) h ih = ih h
    go (Cost b) h ih = ih h
    go (Sent b) h ih = ih h
    go (Amend b) h ih = ih h

-- money stands at schools with a code above 0
abbrev CodedHolds : List Filing → Type 0
CodedHolds past = (c : Cell) → 0 < paid past (is_cell c) → 0 < c.school

coded_paid : (past : List Filing) (key : Key) (a : Amount) → CodedHolds past → breaks past (record { key = key; what = Pay a }) ≡ None →
    CodedHolds (record { key = key; what = Pay a } ∷ past)
coded_paid past key a ih h c pos = go (is_cell c (cell_of key a)) refl
  where
    go : (b : Bool) → is_cell c (cell_of key a) ≡ b → 0 < c.school
    go false e =
        let old : 0 < cond false a.cents 0 + paid past (is_cell c) =
        subst (λ (b : Bool). 0 < cond b a.cents 0 + paid past (is_cell c)) e pos in
        ih c (omega arith)
    go true e =
        let k = all_hold (rules_of past key (Pay a)) h in
        subst (λ (d : Cell). 0 < d.school) (same_cell c (cell_of key a) e)
        (known_code past key.school (lacks_holds 12 (school_at past key.school) key.school 0 k.1.0))

coded_step : (past : List Filing) (key : Key) (what : What) → CodedHolds past → breaks past (record { key = key; what = what }) ≡ None →
    CodedHolds (record { key = key; what = what } ∷ past)
coded_step past key (Pay a) ih h = coded_paid past key a ih h
coded_step past key (Calendar b) ih h = ih
coded_step past key (BookFiled b) ih h = ih
coded_step past key (School b) ih h = ih
coded_step past key (Prior b) ih h = ih
coded_step past key (Apply b) ih h = ih
coded_step past key (Enroll b) ih h = ih
coded_step past key (Originate b) ih h = ih
coded_step past key (Withdraw b) ih h = ih
coded_step past key (Repay b) ih h = ih
coded_step past key (Adjust b) ih h = ih
coded_step past key (Cost b) ih h = ih
coded_step past key (Sent b) ih h = ih
coded_step past key (Amend b) ih h = ih

coded_holds : (past : List Filing) → IsLegal past → CodedHolds past
coded_holds [] h = λ c pos. absurd (omega arith)
coded_holds (f ∷ past) h = coded_step past f.key f.what (coded_holds past h.0) h.2

-- a term that is asked for and there stands among the terms on file
term_stands : (past : List Filing) (school year number : ℕ) (u : Term) → the_term past school year number ≡ Some u → (p : FiledTerm → Bool) →
    ((k : ℕ) → u.number ≡ number → p (record { school = school; year = year; position = k; term = u }) ≡ true) → list_any p (terms_on_file past) ≡ true
term_stands [] school year number u h p passes = cc
term_stands (f ∷ past) school year number u h p passes = go f.key f.what h (λ e. term_stands past school year number u e p passes)
  where
    or_right : (a b : Bool) → b ≡ true → (a || b) ≡ true
    or_right true b h = refl
    or_right false b h = h

    or_left : (a b : Bool) → a ≡ true → (a || b) ≡ true
    or_left a b h = rw h refl

    new : (a b d : Bool) (key : Key) (c : CalendarFacts) (o : Option Term) → (key.school == school) ≡ a → (c.year == year) ≡ b → (c.term == number) ≡ d →
        earlier (if_here a (given (b && d) (term_of c))) o ≡ Some u → (o ≡ Some u → list_any p (terms_on_file past) ≡ true) →
        (p (record { school = key.school; year = c.year; position = length past + 1; term = term_of c }) || list_any p (terms_on_file past)) ≡ true
    new a b d key c (Some t) ea eb ed h ih = or_right _ _ (ih (keeps (if_here a (given (b && d) (term_of c))) h))
      where
        keeps : (x : Option Term) → earlier x (Some t) ≡ Some u → Some t ≡ Some u
        keeps None h = h
        keeps (Some y) h = h
    new true true true key c None ea eb ed h ih =
        let t : term_of c ≡ u = cc in
        let s : key.school ≡ school = eqb-true key.school school ea in
        let y : c.year ≡ year = eqb-true c.year year eb in
        let n : u.number ≡ number = subst (λ (z : Term). z.number ≡ number) t (eqb-true c.term number ed) in
        or_left (p (record { school = key.school; year = c.year; position = length past + 1; term = term_of c })) (list_any p (terms_on_file past))
        (rw (s, y, t) (passes (length past + 1) n))
    new true true false key c None ea eb ed h ih = cc
    new true false d key c None ea eb ed h ih = cc
    new false true true key c None ea eb ed h ih = cc
    new false true false key c None ea eb ed h ih = cc
    new false false d key c None ea eb ed h ih = cc

    go : (key : Key) (what : What) → the_term (record { key = key; what = what } ∷ past) school year number ≡ Some u →
        (the_term past school year number ≡ Some u → list_any p (terms_on_file past) ≡ true) →
        list_any p (terms_on_file (record { key = key; what = what } ∷ past)) ≡ true
    go key (Calendar c) h ih =
        new (key.school == school) (c.year == year) (c.term == number) key c (the_term past school year number) refl refl refl h ih
    go key (BookFiled b) h ih = ih h
    go key (School b) h ih = ih h
    go key (Prior b) h ih = ih h
    go key (Apply b) h ih = ih h
    go key (Enroll b) h ih = ih h
    go key (Originate b) h ih = ih h
    go key (Pay b) h ih = ih h
    go key (Withdraw b) h ih = ih h
    go key (Repay b) h ih = ih h
    go key (Adjust b) h ih = ih h
    go key (Cost b) h ih = ih h
    go key (Sent b) h ih = ih h
    go key (Amend b) h ih = ih h

-- a least code of 0 is of no term
none_least : (p : FiledTerm → Bool) (ts : List FiledTerm) → least_code p ts ≡ 0 → ((o : FiledTerm) → p o ≡ true → 0 < o.school) → list_any p ts ≡ true → ⊥
none_least p [] h pos any = cc
none_least p (t ∷ ts) h pos any = go (p t) (least_code p ts) refl h any (λ k any. none_least p ts k pos any)
  where
    go : (b : Bool) (rest : ℕ) → p t ≡ b → lesser_code b t.school rest ≡ 0 → (b || list_any p ts) ≡ true → (rest ≡ 0 → list_any p ts ≡ true → ⊥) → ⊥
    go false rest e h any rec = rec h any
    go true zero e h any rec = let k = pos t e in absurd (omega arith)
    go true (suc n) e h any rec = let k = pos t e in absurd (omega arith)

-- a paid term of another school that shares a day stands beside
beside : (past : List Filing) (student school school' year' number' : ℕ) (t u : Term) → CodedHolds past → the_term past school' year' number' ≡ Some u →
    school ≢ school' → shares_day t u ≡ true → 0 < pell_term past school' student year' number' →
    least_code (is_paid_beside past school student (Some t)) (terms_on_file past) ≡ 0 → ⊥
beside past student school school' year' number' t u coded there differ shared pos none =
    none_least (is_paid_beside past school student (Some t)) (terms_on_file past) none
    (λ o e.
    let p = and_parts (not (o.school == school)) _ e in
    let q = and_parts (shares_day t o.term) _ p.1 in
    let some : 0 < pell_term past o.school student o.year o.term.number = ltb-true 0 _ q.1 in
    coded (cell_at o.school student o.year o.term.number 3) (omega arith))
    (term_stands past school' year' number' u there (is_paid_beside past school student (Some t))
    (λ k n.
    let a : (school' == school) ≡ false = ne_eqb school' school (λ e. differ (sym e)) in
    let b : nat_lt 0 (pell_term past school' student year' u.number) ≡ true = lt-ltb 0 _ (subst (λ z. 0 < pell_term past school' student year' z) (sym n) pos) in
    rw (a, shared, b) refl))

abbrev pub ApartHolds : List Filing → Type 0
ApartHolds past = (student school year number school' year' number' : ℕ) (t u : Term) →
    the_term past school year number ≡ Some t → the_term past school' year' number' ≡ Some u → school ≢ school' →
    shares_day t u ≡ true → 0 < pell_term past school student year number → pell_term past school' student year' number' ≡ 0

-- a filing that pays nothing and is no calendar
apart_kept : (past : List Filing) (key : Key) (what : What) → ApartHolds past → payments_in key what ≡ [] →
    ((school year number : ℕ) → the_term (record { key = key; what = what } ∷ past) school year number ≡ the_term past school year number) →
    ApartHolds (record { key = key; what = what } ∷ past)
apart_kept past key what ih none same student school year number school' year' number' t u ht hu differ shared pos =
    let n = net_unpaid past key what (is_cell (cell_at school student year number 3)) none in
    let m = net_unpaid past key what (is_cell (cell_at school' student year' number' 3)) none in
    let old = ih student school year number school' year' number' t u (sym (same school year number) ∙ ht) (sym (same school' year' number') ∙ hu) differ shared (omega arith) in
    omega arith

shares_sym : (t u : Term) → shares_day t u ≡ true → shares_day u t ≡ true
shares_sym t u h = turn (nat_le t.first u.last) (nat_le u.first t.last) h
  where
    turn : (a b : Bool) → (a && b) ≡ true → (b && a) ≡ true
    turn true true h = refl
    turn true false h = cc
    turn false b h = cc

-- a Pell payment stands alone at its cell
alone : (past : List Filing) (key : Key) (a : Amount) → breaks past (record { key = key; what = Pay a }) ≡ None → (c : Cell) → c.program ≡ 3 →
    is_cell c (cell_of key a) ≡ true → least_code (is_paid_beside past c.school c.student (the_term past c.school c.year c.term)) (terms_on_file past) ≡ 0
alone past key a h c three e =
    let at : cell_of key a ≡ c = same_cell c (cell_of key a) e in
    let pell : rank a.program ≡ 3 = ap (λ (d : Cell). d.program) at ∙ three in
    subst (λ (d : Cell). least_code (is_paid_beside past d.school d.student (the_term past d.school d.year d.term)) (terms_on_file past) ≡ 0) at
    (none_beside (facts_of past key (Pay a)) key a h pell)

apart_paid : (past : List Filing) (key : Key) (a : Amount) → ApartHolds past → CodedHolds past → breaks past (record { key = key; what = Pay a }) ≡ None →
    ApartHolds (record { key = key; what = Pay a } ∷ past)
apart_paid past key a ih coded h student school year number school' year' number' t u ht hu differ shared pos =
    go (is_cell (cell_at school student year number 3) (cell_of key a)) (is_cell (cell_at school' student year' number' 3) (cell_of key a)) refl refl
    (net_paid past key a (is_cell (cell_at school student year number 3))) (net_paid past key a (is_cell (cell_at school' student year' number' 3)))
  where
    zero_or : (n : ℕ) → (0 < n → ⊥) → n ≡ 0
    zero_or zero never = refl
    zero_or (suc n) never = absurd (never (omega arith))

    go : (b b' : Bool) → is_cell (cell_at school student year number 3) (cell_of key a) ≡ b → is_cell (cell_at school' student year' number' 3) (cell_of key a) ≡ b' →
        pell_term (record { key = key; what = Pay a } ∷ past) school student year number
        ≤ cond (is_cell (cell_at school student year number 3) (cell_of key a)) a.cents 0 + pell_term past school student year number →
        pell_term (record { key = key; what = Pay a } ∷ past) school' student year' number'
        ≤ cond (is_cell (cell_at school' student year' number' 3) (cell_of key a)) a.cents 0 + pell_term past school' student year' number' →
        pell_term (record { key = key; what = Pay a } ∷ past) school' student year' number' ≡ 0
    go true true e e' n n' =
        let s : key.school ≡ school = ap (λ (d : Cell). d.school) (same_cell (cell_at school student year number 3) (cell_of key a) e) in
        let s' : key.school ≡ school' = ap (λ (d : Cell). d.school) (same_cell (cell_at school' student year' number' 3) (cell_of key a) e') in
        absurd (differ (sym s ∙ s'))
    go true false e e' n n' =
        let m : pell_term (record { key = key; what = Pay a } ∷ past) school' student year' number' ≤ cond false a.cents 0 + pell_term past school' student year' number' =
        subst (λ (b : Bool). pell_term (record { key = key; what = Pay a } ∷ past) school' student year' number' ≤ cond b a.cents 0 + pell_term past school' student year' number') e' n' in
        let l : least_code (is_paid_beside past school student (Some t)) (terms_on_file past) ≡ 0 =
        subst (λ (o : Option Term). least_code (is_paid_beside past school student o) (terms_on_file past) ≡ 0) ht
        (alone past key a h (cell_at school student year number 3) refl e) in
        let old : pell_term past school' student year' number' ≡ 0 =
        zero_or (pell_term past school' student year' number') (λ k. beside past student school school' year' number' t u coded hu differ shared k l) in
        omega arith
    go false true e e' n n' =
        let m : pell_term (record { key = key; what = Pay a } ∷ past) school student year number ≤ cond false a.cents 0 + pell_term past school student year number =
        subst (λ (b : Bool). pell_term (record { key = key; what = Pay a } ∷ past) school student year number ≤ cond b a.cents 0 + pell_term past school student year number) e n in
        let l : least_code (is_paid_beside past school' student (Some u)) (terms_on_file past) ≡ 0 =
        subst (λ (o : Option Term). least_code (is_paid_beside past school' student o) (terms_on_file past) ≡ 0) hu
        (alone past key a h (cell_at school' student year' number' 3) refl e') in
        absurd (beside past student school' school year number u t coded ht (λ k. differ (sym k)) (shares_sym t u shared) (omega arith) l)
    go false false e e' n n' =
        let m : pell_term (record { key = key; what = Pay a } ∷ past) school student year number ≤ cond false a.cents 0 + pell_term past school student year number =
        subst (λ (b : Bool). pell_term (record { key = key; what = Pay a } ∷ past) school student year number ≤ cond b a.cents 0 + pell_term past school student year number) e n in
        let m' : pell_term (record { key = key; what = Pay a } ∷ past) school' student year' number' ≤ cond false a.cents 0 + pell_term past school' student year' number' =
        subst (λ (b : Bool). pell_term (record { key = key; what = Pay a } ∷ past) school' student year' number' ≤ cond b a.cents 0 + pell_term past school' student year' number') e' n' in
        let old = ih student school year number school' year' number' t u ht hu differ shared (omega arith) in
        omega arith

-- a term that isn't there when asked for isn't on file
pub not_there : (past : List Filing) (school year number : ℕ) → the_term past school year number ≡ None → is_filed past school year number ≡ false
not_there [] school year number h = refl
not_there (f ∷ past) school year number h = go f.key f.what h (not_there past school year number)
  where
    new : (a b d : Bool) (t : Term) (o : Option Term) → earlier (if_here a (given (b && d) t)) o ≡ None → (o ≡ None → is_filed past school year number ≡ false) →
        ((a && (b && d)) || is_filed past school year number) ≡ false
    new true true true t None h ih = cc
    new true true true t (Some x) h ih = cc
    new true true false t o h ih = ih h
    new true false d t o h ih = ih h
    new false true true t o h ih = ih h
    new false true false t o h ih = ih h
    new false false d t o h ih = ih h

    go : (key : Key) (what : What) → the_term (record { key = key; what = what } ∷ past) school year number ≡ None →
        (the_term past school year number ≡ None → is_filed past school year number ≡ false) →
        is_filed (record { key = key; what = what } ∷ past) school year number ≡ false
    go key (Calendar c) h ih = new (key.school == school) (c.year == year) (c.term == number) (term_of c) (the_term past school year number) h ih
    go key (BookFiled b) h ih = ih h
    go key (School b) h ih = ih h
    go key (Prior b) h ih = ih h
    go key (Apply b) h ih = ih h
    go key (Enroll b) h ih = ih h
    go key (Originate b) h ih = ih h
    go key (Pay b) h ih = ih h
    go key (Withdraw b) h ih = ih h
    go key (Repay b) h ih = ih h
    go key (Adjust b) h ih = ih h
    go key (Cost b) h ih = ih h
    go key (Sent b) h ih = ih h
    go key (Amend b) h ih = ih h

-- where money stands a further calendar doesn't change the term
same_term : (past : List Filing) (new : Option Term) (student school year number : ℕ) (t : Term) → FiledHolds past → 0 < pell_term past school student year number →
    earlier new (the_term past school year number) ≡ Some t → the_term past school year number ≡ Some t
same_term past new student school year number t filed pos h = go (the_term past school year number) refl h
  where
    go : (o : Option Term) → the_term past school year number ≡ o → earlier new o ≡ Some t → o ≡ Some t
    go None e h =
        let a : is_filed past school year number ≡ true = filed (cell_at school student year number 3) (omega arith) in
        let b : is_filed past school year number ≡ false = not_there past school year number e in
        cc
    go (Some x) e h = keeps new h
      where
        keeps : (y : Option Term) → earlier y (Some x) ≡ Some t → Some x ≡ Some t
        keeps None h = h
        keeps (Some y) h = h

apart_calendar : (past : List Filing) (key : Key) (c : CalendarFacts) → ApartHolds past → FiledHolds past → ApartHolds (record { key = key; what = Calendar c } ∷ past)
apart_calendar past key c ih filed student school year number school' year' number' t u ht hu differ shared pos =
    zero_or (pell_term past school' student year' number') (λ pos'. let k = ih student school year number school' year' number' t u
    (same_term past _ student school year number t filed pos ht) (same_term past _ student school' year' number' u filed pos' hu) differ shared pos in omega arith)
  where
    zero_or : (n : ℕ) → (0 < n → ⊥) → n ≡ 0
    zero_or zero never = refl
    zero_or (suc n) never = absurd (never (omega arith))

apart_step : (past : List Filing) (key : Key) (what : What) → ApartHolds past → CodedHolds past → FiledHolds past → breaks past (record { key = key; what = what }) ≡ None →
    ApartHolds (record { key = key; what = what } ∷ past)
apart_step past key (Pay a) ih coded filed h = apart_paid past key a ih coded h
apart_step past key (Calendar b) ih coded filed h = apart_calendar past key b ih filed
apart_step past key (BookFiled b) ih coded filed h = ih
apart_step past key (School b) ih coded filed h = ih
apart_step past key (Prior b) ih coded filed h = ih
apart_step past key (Apply b) ih coded filed h = ih
apart_step past key (Enroll b) ih coded filed h = ih
apart_step past key (Originate b) ih coded filed h = ih
apart_step past key (Withdraw b) ih coded filed h = apart_kept past key (Withdraw b) ih refl (λ school year number. refl)
apart_step past key (Repay b) ih coded filed h = apart_kept past key (Repay b) ih refl (λ school year number. refl)
apart_step past key (Adjust b) ih coded filed h = apart_kept past key (Adjust b) ih refl (λ school year number. refl)
apart_step past key (Cost b) ih coded filed h = ih
apart_step past key (Sent b) ih coded filed h = ih
apart_step past key (Amend b) ih coded filed h = ih

pub apart_holds : (past : List Filing) → IsLegal past → ApartHolds past
apart_holds [] h = λ student school year number school' year' number' t u ht hu differ shared pos. absurd (omega arith)
apart_holds (f ∷ past) h = apart_step past f.key f.what (apart_holds past h.0) (coded_holds past h.0) (filed_holds past h.0) h.2
