-- In a legal history what was paid in a term after the withdrawal from it is within the post-withdrawal amount.
use Rattle.std.proofs.Common.{◌≡◌, ℕ, ◌+◌, ◌-◌, ◌≤◌, refl, arith, subst, cond, Bool, true, false, List, [], ◌∷◌, None, eqb-true, zero-le}
use Rattle.std.specs.Prelude.{◌==◌, is_some}
use Rattle.std.proofs.lemmas.Bool.{and_parts}
use Rattle.aid_types.specs.declared.number.Key.{Key}
use Rattle.aid_filings.specs.declared.filing.Amount.{Amount}
use Rattle.aid_filings.specs.declared.filing.Filing.{Filing}
use Rattle.aid_filings.specs.declared.filing.What.{What}
use Rattle.aid_filings.specs.declared.filing.What.TheVariants.{Book as BookFiled, School, Calendar, Prior, Apply, Enroll, Originate, Pay, Withdraw, Repay, Adjust, Cost, Sent, Amend}
use Rattle.office_history.specs.Past.{at_school, withdrawal_in, the_withdrawal}
use Rattle.office_history.specs.Net.{Cell, cell_of, onto, paid_after, post, in_term}
use Rattle.office_history.specs.FactsOf.{facts_of}
use Rattle.office_history.specs.Answer.{breaks, IsLegal}
use Rattle.office_history.proofs.PayRules.{affords}
use Rattle.office_history.proofs.Asked.{told_at}

abbrev pub AfterHolds : List Filing → Type 0
AfterHolds past = (school student year term : ℕ) → paid_after past (in_term school student year term) ≤ post past (in_term school student year term)

within_term : (g : ℕ → ℕ → ℕ → ℕ → ℕ) (school student year term : ℕ) (d : Cell) (n : ℕ) → n ≤ g d.school d.student d.year d.term →
    cond (in_term school student year term d) n 0 ≤ g school student year term
within_term g school student year term d n h = go (in_term school student year term d) refl
  where
    go : (b : Bool) → in_term school student year term d ≡ b → cond b n 0 ≤ g school student year term
    go false e = zero-le
    go true e =
        let p = and_parts (d.school == school) _ e in
        let q = and_parts (d.student == student) _ p.1 in
        let r = and_parts (d.year == year) (d.term == term) q.1 in
        subst (λ t. n ≤ g school student year t) (eqb-true d.term term r.1)
        (subst (λ y. n ≤ g school student y d.term) (eqb-true d.year year r.0)
        (subst (λ s. n ≤ g school s d.year d.term) (eqb-true d.student student q.0)
        (subst (λ c. n ≤ g c d.student d.year d.term) (eqb-true d.school school p.0) h)))

after_paid : (past : List Filing) (key : Key) (a : Amount) → AfterHolds past → breaks past (record { key = key; what = Pay a }) ≡ None →
    AfterHolds (record { key = key; what = Pay a } ∷ past)
after_paid past key a ih h school student year term = go (is_some (the_withdrawal past key.school a.student a.year a.term)) refl
  where
    go : (b : Bool) → is_some (the_withdrawal past key.school a.student a.year a.term) ≡ b →
        onto (in_term school student year term) (cond b (record { at = cell_of key a; cents = a.cents } ∷ []) []) (paid_after past (in_term school student year term))
        ≤ post past (in_term school student year term)
    go false e = ih school student year term
    go true e =
        let pos = told_at (at_school key.school (withdrawal_in a.student a.year a.term)) past e in
        let rule : paid_after past (in_term key.school a.student a.year a.term) + a.cents ≤ post past (in_term key.school a.student a.year a.term) =
        ((affords (facts_of past key (Pay a)) key a h).withdrawn pos).1 in
        let x : cond (in_term school student year term (cell_of key a)) a.cents 0
        ≤ post past (in_term school student year term) - paid_after past (in_term school student year term) =
        within_term (λ c s y t. post past (in_term c s y t) - paid_after past (in_term c s y t)) school student year term (cell_of key a) a.cents (omega arith) in
        let old = ih school student year term in
        omega arith

after_step : (past : List Filing) (key : Key) (what : What) → AfterHolds past → breaks past (record { key = key; what = what }) ≡ None →
    AfterHolds (record { key = key; what = what } ∷ past)
after_step past key (Pay a) ih h = after_paid past key a ih h
after_step past key (Withdraw w) ih h = λ school student year term. let old = ih school student year term in omega arith
after_step past key (BookFiled b) ih h = ih
after_step past key (School b) ih h = ih
after_step past key (Calendar b) ih h = ih
after_step past key (Prior b) ih h = ih
after_step past key (Apply b) ih h = ih
after_step past key (Enroll b) ih h = ih
after_step past key (Originate b) ih h = ih
after_step past key (Repay b) ih h = ih
after_step past key (Adjust b) ih h = ih
after_step past key (Cost b) ih h = ih
after_step past key (Sent b) ih h = ih
after_step past key (Amend b) ih h = ih

pub after_holds : (past : List Filing) → IsLegal past → AfterHolds past
after_holds [] h = λ school student year term. zero-le
after_holds (f ∷ past) h = after_step past f.key f.what (after_holds past h.0) h.2
