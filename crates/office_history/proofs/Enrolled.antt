-- Where money stands the student was enrolled.
use Rattle.std.proofs.Common.{◌≡◌, ◌+◌, ◌<◌, refl, subst, arith, cond, Bool, true, false, ◌&&◌, List, [], ◌∷◌, reverse, None, eqb-true}
use Rattle.std.specs.Prelude.{◌==◌}
use Rattle.aid_types.specs.declared.number.Key.{Key}
use Rattle.aid_filings.specs.declared.filing.Amount.{Amount}
use Rattle.aid_filings.specs.declared.filing.EnrollFacts.{EnrollFacts}
use Rattle.aid_filings.specs.declared.filing.Filing.{Filing}
use Rattle.aid_filings.specs.declared.filing.What.{What}
use Rattle.aid_filings.specs.declared.filing.What.TheVariants.{Book as BookFiled, School, Calendar, Prior, Apply, Enroll, Originate, Pay, Withdraw, Repay, Adjust, Cost, Sent, Amend}
use Rattle.office_history.specs.Past.{amount_or, if_here, given, later, latest, at_school, credits_in, credits}
use Rattle.office_history.specs.Net.{Cell, Move, is_cell, cell_of, onto, paid, net_at, payments_in}
use Rattle.office_history.specs.Rules.{rules_of}
use Rattle.office_history.specs.Answer.{breaks, IsLegal}
use Rattle.office_history.specs.Least.{IsEnrolled}
use Rattle.aid_types.proofs.Holds.{all_hold, lacks_holds}
use Rattle.office_history.proofs.Cells.{same_cell}
use Rattle.office_history.proofs.Steps.{by_payment}
use Rattle.office_history.proofs.Among.{among_head, among_rest, among_reversed}

-- a later filing leaves the enrollment
kept : (past : List Filing) (f : Filing) (c : Cell) → IsEnrolled past c → IsEnrolled (f ∷ past) c
kept past f c e = record {
  key = e.key;
  facts = e.facts;
  stands = among_rest f past (record { key = e.key; what = Enroll e.facts }) e.stands;
  school = e.school;
  student = e.student;
  year = e.year;
  term = e.term;
}

-- an enrollment that is filed
filed : (past : List Filing) (key : Key) (e : EnrollFacts) (c : Cell) → key.school ≡ c.school → e.student ≡ c.student → e.year ≡ c.year → e.term ≡ c.term →
    IsEnrolled (record { key = key; what = Enroll e } ∷ past) c
filed past key e c school student year term = record {
  key = key;
  facts = e;
  stands = among_head (record { key = key; what = Enroll e }) past;
  school = school;
  student = student;
  year = year;
  term = term;
}

-- credits in force are those of an enrollment
by_credits : (past : List Filing) (c : Cell) → 0 < credits past c.school c.student c.year c.term → IsEnrolled past c
by_credits [] c h = absurd (omega arith)
by_credits (f ∷ past) c h = go f.key f.what h (by_credits past c)
  where
    new : (key : Key) (e : EnrollFacts) (s t y n : Bool) → (key.school == c.school) ≡ s → (e.student == c.student) ≡ t → (e.year == c.year) ≡ y → (e.term == c.term) ≡ n →
        0 < amount_or (later (if_here s (given (t && (y && n)) e.credits)) (latest (at_school c.school (credits_in c.student c.year c.term)) past)) →
        (0 < credits past c.school c.student c.year c.term → IsEnrolled past c) → IsEnrolled (record { key = key; what = Enroll e } ∷ past) c
    new key e true true true true a b d g h ih = filed past key e c (eqb-true _ _ a) (eqb-true _ _ b) (eqb-true _ _ d) (eqb-true _ _ g)
    new key e false true true true a b d g h ih = kept past _ c (ih h)
    new key e s false y n a b d g h ih = kept past _ c (ih h)
    new key e s true false n a b d g h ih = kept past _ c (ih h)
    new key e s true true false a b d g h ih = kept past _ c (ih h)

    go : (key : Key) (what : What) → 0 < credits (record { key = key; what = what } ∷ past) c.school c.student c.year c.term →
        (0 < credits past c.school c.student c.year c.term → IsEnrolled past c) → IsEnrolled (record { key = key; what = what } ∷ past) c
    go key (Enroll e) h ih =
        new key e (key.school == c.school) (e.student == c.student) (e.year == c.year) (e.term == c.term) refl refl refl refl h ih
    go key (Calendar b) h ih = kept past _ c (ih h)
    go key (BookFiled b) h ih = kept past _ c (ih h)
    go key (School b) h ih = kept past _ c (ih h)
    go key (Prior b) h ih = kept past _ c (ih h)
    go key (Apply b) h ih = kept past _ c (ih h)
    go key (Originate b) h ih = kept past _ c (ih h)
    go key (Pay b) h ih = kept past _ c (ih h)
    go key (Withdraw b) h ih = kept past _ c (ih h)
    go key (Repay b) h ih = kept past _ c (ih h)
    go key (Adjust b) h ih = kept past _ c (ih h)
    go key (Cost b) h ih = kept past _ c (ih h)
    go key (Sent b) h ih = kept past _ c (ih h)
    go key (Amend b) h ih = kept past _ c (ih h)

-- what was paid at a cell was paid to a student who was enrolled there
pub paid_enrolled : (past : List Filing) → IsLegal past → (c : Cell) → 0 < paid past (is_cell c) → IsEnrolled past c
paid_enrolled [] h c pos = absurd (omega arith)
paid_enrolled (f ∷ past) h c pos =
    by_payment (λ what. breaks past (record { key = f.key; what = what }) ≡ None → 0 < onto (is_cell c) (payments_in f.key what) (paid past (is_cell c)) →
    IsEnrolled (record { key = f.key; what = what } ∷ past) c) f.key
    (pays (paid_enrolled past h.0 c)) (same (paid_enrolled past h.0 c)) f.what h.2 pos
  where
    same : (0 < paid past (is_cell c) → IsEnrolled past c) → (what : What) → payments_in f.key what ≡ [] → breaks past (record { key = f.key; what = what }) ≡ None →
        0 < onto (is_cell c) (payments_in f.key what) (paid past (is_cell c)) → IsEnrolled (record { key = f.key; what = what } ∷ past) c
    same ih what none rule pos =
        kept past (record { key = f.key; what = what }) c (ih (subst (λ (ms : List Move). 0 < onto (is_cell c) ms (paid past (is_cell c))) none pos))

    pays : (0 < paid past (is_cell c) → IsEnrolled past c) → (a : Amount) → breaks past (record { key = f.key; what = Pay a }) ≡ None →
        0 < cond (is_cell c (cell_of f.key a)) a.cents 0 + paid past (is_cell c) → IsEnrolled (record { key = f.key; what = Pay a } ∷ past) c
    pays ih a rule pos = go (is_cell c (cell_of f.key a)) refl
      where
        go : (b : Bool) → is_cell c (cell_of f.key a) ≡ b → IsEnrolled (record { key = f.key; what = Pay a } ∷ past) c
        go true e =
            let k = all_hold (rules_of past f.key (Pay a)) rule in
            let some = lacks_holds 51 (credits past f.key.school a.student a.year a.term) a.student a.term k.1.1.1.1.1.0 in
            let here : IsEnrolled past (cell_of f.key a) = by_credits past (cell_of f.key a) some in
            kept past (record { key = f.key; what = Pay a }) c (subst (IsEnrolled past) (same_cell c (cell_of f.key a) e) here)
        go false e =
            let old : 0 < cond false a.cents 0 + paid past (is_cell c) = subst (λ (b : Bool). 0 < cond b a.cents 0 + paid past (is_cell c)) e pos in
            kept past (record { key = f.key; what = Pay a }) c (ih (omega arith))

-- so was one whose net isn't 0
pub net_enrolled : (history : List Filing) → IsLegal (reverse history) → (c : Cell) → 0 < net_at (reverse history) c → IsEnrolled history c
net_enrolled history h c pos =
    let e = paid_enrolled (reverse history) h c (omega arith) in
    record {
      key = e.key;
      facts = e.facts;
      stands = among_reversed history (record { key = e.key; what = Enroll e.facts }) e.stands;
      school = e.school;
      student = e.student;
      year = e.year;
      term = e.term;
    }
