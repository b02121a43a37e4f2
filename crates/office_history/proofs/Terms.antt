-- In a legal history a term's net Pell stays within its payment.
use Rattle.std.proofs.Common.{◌≡◌, ℕ, ◌+◌, ◌-◌, ◌*◌, ◌≤◌, ◌<◌, refl, arith, subst, cond, Bool, true, false, ◌&&◌, ◌||◌, List, [], ◌∷◌, Option, Some, None, zero-le, ◌⊎◌, inl, inr, eqb-true, ap, ltb-false, ltb-true}
use Rattle.std.specs.Prelude.{◌==◌, nat_lt}
use Rattle.std.specs.List.{list_any, filter}
use Rattle.std.proofs.lemmas.Bool.{and_parts}
use Rattle.aid_types.specs.declared.number.Key.{Key}
use Rattle.aid_filings.specs.declared.filing.Amount.{Amount}
use Rattle.aid_books.specs.declared.book.Book.{Book}
use Rattle.aid_filings.specs.declared.filing.SchoolFacts.{SchoolFacts}
use Rattle.aid_filings.specs.declared.filing.EnrollFacts.{EnrollFacts}
use Rattle.aid_types.specs.declared.application.Application.{Application}
use Rattle.aid_filings.specs.declared.filing.Filing.{Filing}
use Rattle.aid_filings.specs.declared.filing.What.{What}
use Rattle.aid_filings.specs.declared.filing.What.TheVariants.{Book as BookFiled, School, Calendar, Prior, Apply, Enroll, Originate, Pay, Withdraw, Repay, Adjust, Cost, Sent, Amend}
use Rattle.law_terms.specs.Terms.{intensity_of, payment_of}
use Rattle.aid_types.specs.Programs.{rank}
use Rattle.office_history.specs.Past.{at_school, if_here, given, later, latest, earlier, amount_or, credits, credits_in, the_school, school_in, the_book, FiledTerm, terms_on_file}
use Rattle.office_history.specs.Award.{award_under, scheduled}
use Rattle.office_history.specs.Net.{is_cell, cell_of, cell_at, paid, payments_in, pell_term}
use Rattle.office_history.specs.FactsOf.{facts_of}
use Rattle.office_history.specs.Positions.{school_at, terms_of, full_of, payment_at, told_over, is_over, least_term, earlier_term}
use Rattle.office_history.specs.Rules.{rules_of}
use Rattle.office_history.specs.Answer.{breaks, IsLegal}
use Rattle.aid_types.proofs.Holds.{all_hold, over_holds, stands_holds}
use Rattle.office_history.proofs.Numbers.{no_award, no_terms}
use Rattle.office_history.proofs.Cells.{within_program}
use Rattle.office_history.proofs.PayRules.{affords}
use Rattle.office_history.proofs.Steps.{net_unpaid, net_paid}
use Rattle.office_history.proofs.Asked.{none_told}
use Rattle.office_history.proofs.Awards.{award_by_book, award_by_application, correction}
use Rattle.office_history.proofs.Filed.{is_term, FiledHolds, filed_holds}

abbrev pub TermHolds : List Filing → Type 0
TermHolds past = (school student year number : ℕ) →
    pell_term past school student year number ≤ payment_at past (scheduled past student year) school student year number

term_paid : (past : List Filing) (key : Key) (a : Amount) → TermHolds past → breaks past (record { key = key; what = Pay a }) ≡ None →
    TermHolds (record { key = key; what = Pay a } ∷ past)
term_paid past key a ih h school student year number =
    let rule : rank a.program ≡ 3 → pell_term past key.school a.student a.year a.term + a.cents
    ≤ payment_at past (scheduled past a.student a.year) key.school a.student a.year a.term =
    (affords (facts_of past key (Pay a)) key a h).payment in
    let x : cond (is_cell (cell_at school student year number 3) (cell_of key a)) a.cents 0
    ≤ payment_at past (scheduled past student year) school student year number - pell_term past school student year number =
    within_program (λ c. payment_at past (scheduled past c.student c.year) c.school c.student c.year c.term - pell_term past c.school c.student c.year c.term)
    (cell_at school student year number 3) (cell_of key a) a.cents (λ e. let r = rule e in omega arith) in
    let n = net_paid past key a (is_cell (cell_at school student year number 3)) in
    let old = ih school student year number in
    omega arith

-- net Pell that doesn't rise under payments that don't fall
term_kept : (past : List Filing) (key : Key) (what : What) → TermHolds past → payments_in key what ≡ [] →
    ((school student year number : ℕ) → payment_at past (scheduled past student year) school student year number
    ≤ payment_at (record { key = key; what = what } ∷ past) (scheduled (record { key = key; what = what } ∷ past) student year) school student year number) →
    TermHolds (record { key = key; what = what } ∷ past)
term_kept past key what ih none up school student year number =
    let n = net_unpaid past key what (is_cell (cell_at school student year number 3)) none in
    let old = ih school student year number in
    let u = up school student year number in
    omega arith

-- a school is filed once, and had no payments before
school_payment : (past : List Filing) (key : Key) (s : SchoolFacts) → breaks past (record { key = key; what = School s }) ≡ None →
    (school student year number : ℕ) → payment_at past (scheduled past student year) school student year number
    ≤ payment_at (record { key = key; what = School s } ∷ past) (scheduled past student year) school student year number
school_payment past key s h school student year number = go (s.code == school) refl
  where
    go : (t : Bool) → (s.code == school) ≡ t →
        100 * payment_of (scheduled past student year) (intensity_of (credits past school student year number) (full_of (the_school past school))) (terms_of (the_school past school))
        ≤ 100 * payment_of (scheduled past student year) (intensity_of (credits past school student year number) (full_of (earlier (given t s) (the_school past school)))) (terms_of (earlier (given t s) (the_school past school)))
    go false e = omega arith
    go true e =
        let k = all_hold (rules_of past key (School s)) h in
        let none : the_school past school ≡ None =
        subst (λ c. the_school past c ≡ None) (eqb-true s.code school e)
        (none_told (λ f. school_in s.code f.what) past (stands_holds 13 (school_at past s.code) s.code k.1.1.0)) in
        rw (none, no_terms) zero-le

book_payment : (past : List Filing) (key : Key) (b : Book) → breaks past (record { key = key; what = BookFiled b }) ≡ None →
    (school student year number : ℕ) → payment_at past (scheduled past student year) school student year number
    ≤ payment_at past (scheduled (record { key = key; what = BookFiled b } ∷ past) student year) school student year number
book_payment past key b h school student year number = go (award_by_book past key b student year h)
  where
    go : (scheduled past student year ≡ 0) ⊎ (scheduled (record { key = key; what = BookFiled b } ∷ past) student year ≡ scheduled past student year) →
        payment_at past (scheduled past student year) school student year number
        ≤ payment_at past (scheduled (record { key = key; what = BookFiled b } ∷ past) student year) school student year number
    go (inl z) = rw (z, no_award) zero-le
    go (inr e) = let k = ap (λ w. payment_at past w school student year number) e in omega arith

-- an enrollment changes the payment of its own term alone, to one that isn't below what is paid
term_enrolled : (past : List Filing) (key : Key) (e : EnrollFacts) → TermHolds past → breaks past (record { key = key; what = Enroll e }) ≡ None →
    TermHolds (record { key = key; what = Enroll e } ∷ past)
term_enrolled past key e ih h school student year number = go (key.school == school) (e.student == student) (e.year == year) (e.term == number) refl refl refl refl
  where
    go : (a b c d : Bool) → (key.school == school) ≡ a → (e.student == student) ≡ b → (e.year == year) ≡ c → (e.term == number) ≡ d →
        pell_term past school student year number ≤ 100 * payment_of (scheduled past student year)
        (intensity_of (amount_or (later (if_here a (given (b && (c && d)) e.credits)) (latest (at_school school (credits_in student year number)) past)))
        (full_of (the_school past school))) (terms_of (the_school past school))
    go true true true true p q r s =
        let k = all_hold (rules_of past key (Enroll e)) h in
        let rule : pell_term past key.school e.student e.year e.term ≤ 100 * payment_of (scheduled past e.student e.year)
        (intensity_of e.credits (full_of (the_school past key.school))) (terms_of (the_school past key.school)) =
        over_holds 33 (pell_term past key.school e.student e.year e.term) (100 * payment_of (scheduled past e.student e.year)
        (intensity_of e.credits (full_of (the_school past key.school))) (terms_of (the_school past key.school))) k.1.1.1.1.1.0 in
        subst (λ z. pell_term past school student year z ≤ 100 * payment_of (scheduled past student year) (intensity_of e.credits (full_of (the_school past school))) (terms_of (the_school past school))) (eqb-true e.term number s)
        (subst (λ z. pell_term past school student z e.term ≤ 100 * payment_of (scheduled past student z) (intensity_of e.credits (full_of (the_school past school))) (terms_of (the_school past school))) (eqb-true e.year year r)
        (subst (λ z. pell_term past school z e.year e.term ≤ 100 * payment_of (scheduled past z e.year) (intensity_of e.credits (full_of (the_school past school))) (terms_of (the_school past school))) (eqb-true e.student student q)
        (subst (λ z. pell_term past z e.student e.year e.term ≤ 100 * payment_of (scheduled past e.student e.year) (intensity_of e.credits (full_of (the_school past z))) (terms_of (the_school past z))) (eqb-true key.school school p) rule)))
    go false true true true p q r s = ih school student year number
    go false true true false p q r s = ih school student year number
    go false true false d p q r s = ih school student year number
    go false false c d p q r s = ih school student year number
    go true false c d p q r s = ih school student year number
    go true true false d p q r s = ih school student year number
    go true true true false p q r s = ih school student year number

-- no term is over an award only where none on file is
least_some : (t : FiledTerm) (o : Option FiledTerm) → earlier_term t o ≡ None → ⊥
least_some t None h = cc
least_some t (Some u) h = go (nat_lt (9 * t.school + t.term.number) (9 * u.school + u.term.number)) h
  where
    go : (b : Bool) → cond b (Some t) (Some u) ≡ None → ⊥
    go true h = cc
    go false h = cc

pub least_none : (ts : List FiledTerm) → least_term ts ≡ None → ts ≡ []
least_none [] h = refl
least_none (t ∷ ts) h = absurd (least_some t (least_term ts) h)

pub told_none : (past : List Filing) (award student year : ℕ) (o : Option FiledTerm) → told_over past award student year o ≡ None → o ≡ None
told_none past award student year None h = refl
told_none past award student year (Some t) h = cc

-- where nothing passes, nothing that is there passes
none_pass : (p q : FiledTerm → Bool) (ts : List FiledTerm) → filter p ts ≡ [] → list_any q ts ≡ true → ((o : FiledTerm) → q o ≡ true → p o ≡ true) → ⊥
none_pass p q [] h any imp = cc
none_pass p q (t ∷ ts) h any imp = go (p t) (q t) refl refl h any (λ h any. none_pass p q ts h any imp)
  where
    go : (a b : Bool) → p t ≡ a → q t ≡ b → cond a (t ∷ filter p ts) (filter p ts) ≡ [] → (b || list_any q ts) ≡ true →
        (filter p ts ≡ [] → list_any q ts ≡ true → ⊥) → ⊥
    go true b e d h any rec = cc
    go false true e d h any rec = let k = imp t d in cc
    go false false e d h any rec = rec h any

term_applied : (past : List Filing) (key : Key) (a : Application) → TermHolds past → FiledHolds past → breaks past (record { key = key; what = Apply a }) ≡ None →
    TermHolds (record { key = key; what = Apply a } ∷ past)
term_applied past key a ih filed h school student year number = go (award_by_application past key a student year h)
  where
    own : nat_lt (payment_at past (award_under (the_book past a.year) (Some a)) school a.student a.year number) (pell_term past school a.student a.year number) ≡ true → ⊥
    own over_it =
        let lt = ltb-true _ _ over_it in
        let pos : 0 < paid past (is_cell (cell_at school a.student a.year number 3)) = omega arith in
        none_pass (is_over past (award_under (the_book past a.year) (Some a)) a.student a.year) (is_term school a.year number) (terms_on_file past)
        (least_none _ (told_none past (award_under (the_book past a.year) (Some a)) a.student a.year _ (correction past key a h).terms))
        (filed (cell_at school a.student a.year number 3) pos)
        (λ o e.
        let p = and_parts (o.school == school) _ e in
        let q = and_parts (o.year == a.year) (o.term.number == number) p.1 in
        let s : o.school ≡ school = eqb-true _ _ p.0 in
        let t : o.term.number ≡ number = eqb-true _ _ q.1 in
        rw (q.0, s, t) over_it)

    go : ((a.student ≡ student) × (a.year ≡ year)
        × (scheduled (record { key = key; what = Apply a } ∷ past) student year ≡ award_under (the_book past a.year) (Some a)))
        ⊎ (((a.student == student && a.year == year) ≡ false)
        × (scheduled (record { key = key; what = Apply a } ∷ past) student year ≡ scheduled past student year)) →
        pell_term past school student year number ≤ payment_at past (scheduled (record { key = key; what = Apply a } ∷ past) student year) school student year number
    go (inl w) =
        let mine : pell_term past school a.student a.year number ≤ payment_at past (award_under (the_book past a.year) (Some a)) school a.student a.year number =
        by_test (payment_at past (award_under (the_book past a.year) (Some a)) school a.student a.year number) (pell_term past school a.student a.year number) own in
        let moved_there : pell_term past school student year number ≤ payment_at past (award_under (the_book past a.year) (Some a)) school student year number =
        subst (λ z. pell_term past school student z number ≤ payment_at past (award_under (the_book past a.year) (Some a)) school student z number) w.1
        (subst (λ z. pell_term past school z a.year number ≤ payment_at past (award_under (the_book past a.year) (Some a)) school z a.year number) w.0 mine) in
        let k = ap (λ z. payment_at past z school student year number) w.2 in
        omega arith
      where
        by_test : (x y : ℕ) → (nat_lt x y ≡ true → ⊥) → y ≤ x
        by_test x y never = pick (nat_lt x y) refl
          where
            pick : (b : Bool) → nat_lt x y ≡ b → y ≤ x
            pick true e = absurd (never e)
            pick false e = ltb-false x y e
    go (inr w) =
        let k = ap (λ z. payment_at past z school student year number) w.1 in
        let old = ih school student year number in
        omega arith

term_step : (past : List Filing) (key : Key) (what : What) → TermHolds past → FiledHolds past → breaks past (record { key = key; what = what }) ≡ None →
    TermHolds (record { key = key; what = what } ∷ past)
term_step past key (Pay a) ih filed h = term_paid past key a ih h
term_step past key (BookFiled b) ih filed h = term_kept past key (BookFiled b) ih refl (book_payment past key b h)
term_step past key (School s) ih filed h = term_kept past key (School s) ih refl (school_payment past key s h)
term_step past key (Enroll e) ih filed h = term_enrolled past key e ih h
term_step past key (Apply a) ih filed h = term_applied past key a ih filed h
term_step past key (Calendar b) ih filed h = ih
term_step past key (Prior b) ih filed h = ih
term_step past key (Originate b) ih filed h = ih
term_step past key (Withdraw b) ih filed h = term_kept past key (Withdraw b) ih refl (λ school student year number. omega arith)
term_step past key (Repay b) ih filed h = term_kept past key (Repay b) ih refl (λ school student year number. omega arith)
term_step past key (Adjust b) ih filed h = term_kept past key (Adjust b) ih refl (λ school student year number. omega arith)
term_step past key (Cost b) ih filed h = ih
term_step past key (Sent b) ih filed h = ih
term_step past key (Amend b) ih filed h = ih

pub term_holds : (past : List Filing) → IsLegal past → TermHolds past
term_holds [] h = λ school student year number. zero-le
term_holds (f ∷ past) h = term_step past f.key f.what (term_holds past h.0) (filed_holds past h.0) h.2
