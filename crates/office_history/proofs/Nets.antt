-- In a legal history no net is below 0: what was taken back and is still owed is at most what was paid and repaid.
use Rattle.std.proofs.Common.{◌≡◌, ℕ, zero, suc, ◌+◌, ◌-◌, ◌≤◌, refl, arith, cond, Bool, true, false, ◌&&◌, List, [], ◌∷◌, length, None, zero-le}
use Rattle.std.specs.Prelude.{◌==◌, is_some}
use Rattle.aid_types.specs.declared.number.Key.{Key}
use Rattle.aid_filings.specs.declared.filing.Amount.{Amount}
use Rattle.aid_filings.specs.declared.filing.WithdrawFacts.{WithdrawFacts}
use Rattle.aid_filings.specs.declared.filing.Filing.{Filing}
use Rattle.aid_filings.specs.declared.filing.What.{What}
use Rattle.aid_filings.specs.declared.filing.What.TheVariants.{Book as BookFiled, School, Calendar, Prior, Apply, Enroll, Originate, Pay, Withdraw, Repay, Adjust, Cost, Sent, Amend}
use Rattle.aid_types.specs.Programs.{rank}
use Rattle.office_history.specs.Past.{first_of_two, at_school, if_here, given, withdrawal_in, the_term}
use Rattle.office_history.specs.Net.{Cell, is_cell, cell_of, moved, withdrawn_cell, moves_at, paid, taken, owed, repaid, net_at, sheet, days_of, last_of}
use Rattle.office_history.specs.Rules.{rules_of}
use Rattle.office_history.specs.Positions.{withdrawn_at}
use Rattle.office_history.specs.Answer.{breaks, IsLegal}
use Rattle.aid_types.proofs.Holds.{all_hold, over_holds, stands_holds}
use Rattle.office_history.proofs.Cells.{onto_is, within_cell, moved_pair, SumsBelow}
use Rattle.office_history.proofs.Sheets.{sums_below}

-- a position is 0 only where there was none before and this filing doesn't pass
pub none_before : (k : ℕ) (b : Bool) (n : ℕ) → first_of_two b k (n + 1) ≡ 0 → (k ≡ 0) × (b ≡ false)
none_before k false n h = (h, refl)
none_before zero true n h = absurd (omega arith)
none_before (suc k) true n h = absurd (omega arith)

-- without a withdrawal from the term nothing is owed there
not_this : (school student year term program : ℕ) (key : Key) (w : WithdrawFacts) (p : ℕ) →
    is_some (at_school school (withdrawal_in student year term) (record { key = key; what = Withdraw w })) ≡ false →
    is_cell (record { student = student; school = school; year = year; term = term; program = program }) (withdrawn_cell key w p) ≡ false
not_this school student year term program key w p =
    go (key.school == school) (w.student == student) (w.year == year) (w.term == term) (p == program)
  where
    go : (a b c d e : Bool) → is_some (if_here a (given (b && (c && d)) w)) ≡ false → (b && (a && (c && (d && e)))) ≡ false
    go false true c d e h = refl
    go false false c d e h = refl
    go true false c d e h = refl
    go true true false d e h = refl
    go true true true false e h = refl
    go true true true true e h = cc

unmoved : (c : Cell) (key : Key) (w : WithdrawFacts) → ((p : ℕ) → is_cell c (withdrawn_cell key w p) ≡ false) → (p : ℕ) (ns : List ℕ) →
    moved (is_cell c) (moves_at key w p ns) ≡ 0
unmoved c key w off p [] = refl
unmoved c key w off p (n ∷ ns) = rw (off p, unmoved c key w off (p + 1) ns) refl

pub none_owed : (past : List Filing) (school student year term program : ℕ) → withdrawn_at past school student year term ≡ 0 →
    owed past (is_cell (record { student = student; school = school; year = year; term = term; program = program })) ≡ 0
none_owed [] school student year term program h = refl
none_owed (f ∷ past) school student year term program h =
    let q : (withdrawn_at past school student year term ≡ 0) × (is_some (at_school school (withdrawal_in student year term) f) ≡ false) =
    none_before (withdrawn_at past school student year term) (is_some (at_school school (withdrawal_in student year term) f)) (length past) h in
    go f.key f.what q.1 (none_owed past school student year term program q.0)
  where
    c : Cell
    c = record { student = student; school = school; year = year; term = term; program = program }

    go : (key : Key) (what : What) → is_some (at_school school (withdrawal_in student year term) (record { key = key; what = what })) ≡ false →
        owed past (is_cell (record { student = student; school = school; year = year; term = term; program = program })) ≡ 0 →
        owed (record { key = key; what = what } ∷ past) (is_cell (record { student = student; school = school; year = year; term = term; program = program })) ≡ 0
    go key (Withdraw w) off ih =
        let e : moved (is_cell (record { student = student; school = school; year = year; term = term; program = program })) (moves_at key w 0 (sheet past key w).owed) ≡ 0 = unmoved (record { student = student; school = school; year = year; term = term; program = program }) key w
        (λ p. not_this school student year term program key w p off) 0 (sheet past key w).owed in
        rw onto_is (omega arith)
    go key (BookFiled b) off ih = ih
    go key (School b) off ih = ih
    go key (Calendar b) off ih = ih
    go key (Prior b) off ih = ih
    go key (Apply b) off ih = ih
    go key (Enroll b) off ih = ih
    go key (Originate b) off ih = ih
    go key (Pay b) off ih = ih
    go key (Repay b) off ih = ih
    go key (Adjust b) off ih = ih
    go key (Cost b) off ih = ih
    go key (Sent b) off ih = ih
    go key (Amend b) off ih = ih

-- at each cell: no more is repaid than was owed, and what was taken and is owed is at most what was paid and repaid
abbrev pub Covered : List Filing → Cell → Type 0
Covered past c =
    (repaid past (is_cell c) ≤ owed past (is_cell c))
    × (taken past (is_cell c) + owed past (is_cell c) ≤ paid past (is_cell c) + repaid past (is_cell c))

-- what may still be taken at a cell
abbrev pub room : List Filing → Cell → ℕ
room past c = (paid past (is_cell c) + repaid past (is_cell c)) - (taken past (is_cell c) + owed past (is_cell c))

pub adjusted : (past : List Filing) (key : Key) (a : Amount) → breaks past (record { key = key; what = Adjust a }) ≡ None →
    (withdrawn_at past key.school a.student a.year a.term ≡ 0) × (a.cents ≤ net_at past (cell_of key a))
adjusted past key a h =
    let k = all_hold (rules_of past key (Adjust a)) h in (
      stands_holds 34 (withdrawn_at past key.school a.student a.year a.term) a.term k.1.1.1.1.0,
      over_holds 72 a.cents (net_at past (cell_of key a)) k.1.1.1.1.1.0,
    )

pub repaid_within : (past : List Filing) (key : Key) (a : Amount) → breaks past (record { key = key; what = Repay a }) ≡ None →
    repaid past (is_cell (cell_of key a)) + a.cents ≤ owed past (is_cell (cell_of key a))
repaid_within past key a h =
    let k = all_hold (rules_of past key (Repay a)) h in
    over_holds 70 (repaid past (is_cell (cell_of key a)) + a.cents) (owed past (is_cell (cell_of key a))) k.1.1.1.0

pub withdrawn_first : (past : List Filing) (key : Key) (w : WithdrawFacts) → breaks past (record { key = key; what = Withdraw w }) ≡ None →
    withdrawn_at past key.school w.student w.year w.term ≡ 0
withdrawn_first past key w h =
    let k = all_hold (rules_of past key (Withdraw w)) h in
    stands_holds 61 (withdrawn_at past key.school w.student w.year w.term) w.term k.1.1.1.1.1.1.0

pub raised : (g g' : Cell → ℕ) (key : Key) (w : WithdrawFacts) → ((p : ℕ) → g (withdrawn_cell key w p) ≤ g' (withdrawn_cell key w p)) →
    (p : ℕ) (rs os : List ℕ) → SumsBelow g key w p rs os → SumsBelow g' key w p rs os
raised g g' key w up p [] os h = h
raised g g' key w up p (r ∷ rs) [] h = h
raised g g' key w up p (r ∷ rs) (o ∷ os) h =
    let k = up p in let m : r + o ≤ g' (withdrawn_cell key w p) = omega arith in (m, raised g g' key w up (p + 1) rs os h.1)

step : (past : List Filing) (key : Key) (what : What) → ((c : Cell) → Covered past c) →
    breaks past (record { key = key; what = what }) ≡ None → (c : Cell) → Covered (record { key = key; what = what } ∷ past) c
step past key (BookFiled b) ih h c = ih c
step past key (School b) ih h c = ih c
step past key (Calendar b) ih h c = ih c
step past key (Prior b) ih h c = ih c
step past key (Apply b) ih h c = ih c
step past key (Enroll b) ih h c = ih c
step past key (Originate b) ih h c = ih c
step past key (Pay a) ih h c = let k = ih c in (k.0, omega arith)
step past key (Adjust a) ih h c =
    let k = ih c in
    let r = adjusted past key a h in
    let o : owed past (is_cell (cell_of key a)) ≡ 0 = none_owed past key.school a.student a.year a.term (rank a.program) r.0 in
    let d = ih (cell_of key a) in
    let x : cond (is_cell c (cell_of key a)) a.cents 0 ≤ room past c =
    within_cell (room past) c (cell_of key a) a.cents (omega arith) in
    (omega arith, omega arith)
step past key (Cost b) ih h c = ih c
step past key (Sent b) ih h c = ih c
step past key (Amend b) ih h c = ih c
step past key (Repay a) ih h c =
    let k = ih c in
    let r = repaid_within past key a h in
    let x : cond (is_cell c (cell_of key a)) a.cents 0 ≤ owed past (is_cell c) - repaid past (is_cell c) =
    within_cell (λ e. owed past (is_cell e) - repaid past (is_cell e)) c (cell_of key a) a.cents (omega arith) in
    (omega arith, omega arith)
step past key (Withdraw w) ih h c =
    let k = ih c in
    let none = withdrawn_first past key w h in
    let sums : SumsBelow (net_at past) key w 0 (sheet past key w).returned (sheet past key w).owed =
    sums_below (net_at past) key w (days_of (the_term past key.school w.year w.term) w.last)
    (days_of (the_term past key.school w.year w.term) (last_of (the_term past key.school w.year w.term))) w.charges w.could in
    let fits = λ (p : ℕ).
    let o : owed past (is_cell (withdrawn_cell key w p)) ≡ 0 = none_owed past key.school w.student w.year w.term p none in
    let d = ih (withdrawn_cell key w p) in
    let r : net_at past (withdrawn_cell key w p) ≤ room past (withdrawn_cell key w p) = omega arith in r in
    let both : moved (is_cell c) (moves_at key w 0 (sheet past key w).returned) + moved (is_cell c) (moves_at key w 0 (sheet past key w).owed) ≤ room past c =
    moved_pair (room past) c key w 0 (sheet past key w).returned (sheet past key w).owed
    (raised (net_at past) (room past) key w fits 0 (sheet past key w).returned (sheet past key w).owed sums) in
    (rw (onto_is (is_cell c) (moves_at key w 0 (sheet past key w).owed) (owed past (is_cell c))) (omega arith), rw (onto_is (is_cell c) (moves_at key w 0 (sheet past key w).returned) (taken past (is_cell c)), onto_is (is_cell c) (moves_at key w 0 (sheet past key w).owed) (owed past (is_cell c))) (omega arith))

-- in a legal history each cell is covered
pub covered : (past : List Filing) → IsLegal past → (c : Cell) → Covered past c
covered [] h c = (zero-le, zero-le)
covered (f ∷ past) h c = step past f.key f.what (covered past h.0) h.2 c

-- so no net is below 0
pub nets_stand : (past : List Filing) → IsLegal past → (c : Cell) → taken past (is_cell c) ≤ paid past (is_cell c)
nets_stand past h c = let k = covered past h c in omega arith
