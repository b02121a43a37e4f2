-- In a legal history the sum of the nets of any cells is at least 0.
use Rattle.std.proofs.Common.{◌≡◌, ℕ, ◌+◌, ◌-◌, ◌≤◌, refl, sym, arith, subst, cond, Bool, true, false, not, ◌&&◌, List, [], ◌∷◌, None, zero-le}
use Rattle.aid_types.specs.declared.number.Key.{Key}
use Rattle.aid_filings.specs.declared.filing.WithdrawFacts.{WithdrawFacts}
use Rattle.aid_filings.specs.declared.filing.Filing.{Filing}
use Rattle.aid_filings.specs.declared.filing.What.{What}
use Rattle.aid_filings.specs.declared.filing.What.TheVariants.{Book as BookFiled, School, Calendar, Prior, Apply, Enroll, Originate, Pay, Withdraw, Repay, Adjust, Cost, Sent, Amend}
use Rattle.aid_types.specs.Programs.{rank}
use Rattle.office_history.specs.Past.{the_term}
use Rattle.office_history.specs.Net.{Cell, Move, is_cell, cell_of, moved, withdrawn_cell, moves_at, paid, taken, owed, repaid, net_at, sheet, days_of, last_of, payments_in, takings_in, owings_in, repayments_in}
use Rattle.office_history.specs.Answer.{breaks, IsLegal}
use Rattle.office_history.proofs.Cells.{onto_is, same_cell, SumsBelow, moved_past}
use Rattle.office_history.proofs.Sheets.{sums_below}
use Rattle.office_history.proofs.Nets.{room, adjusted, repaid_within, withdrawn_first, none_owed, raised}

-- the cells that pass but for one
abbrev pub but_cell : (Cell → Bool) → Cell → Cell → Bool
but_cell sel c d = sel d && not (is_cell c d)

-- what moves at the cells that pass: what moves at one of them, and at the others
one_move : (sel : Cell → Bool) (c d : Cell) (n : ℕ) → sel c ≡ true → cond (sel d) n 0 ≡ cond (but_cell sel c d) n 0 + cond (is_cell c d) n 0
one_move sel c d n pass = go (is_cell c d) (sel d) refl refl
  where
    go : (b s : Bool) → is_cell c d ≡ b → sel d ≡ s → cond s n 0 ≡ cond (s && not b) n 0 + cond b n 0
    go true true e k = omega arith
    go true false e k =
        let t : sel d ≡ true = subst (λ (x : Cell). sel x ≡ true) (sym (same_cell c d e)) pass in cc
    go false true e k = omega arith
    go false false e k = omega arith

pub moved_split : (sel : Cell → Bool) (c : Cell) (ms : List Move) → sel c ≡ true → moved sel ms ≡ moved (but_cell sel c) ms + moved (is_cell c) ms
moved_split sel c [] pass = omega arith
moved_split sel c (m ∷ ms) pass =
    let a = one_move sel c m.at m.cents pass in
    let b = moved_split sel c ms pass in
    omega arith

-- the same of the four sums of a history
pub paid_split : (past : List Filing) (sel : Cell → Bool) (c : Cell) → sel c ≡ true → paid past sel ≡ paid past (but_cell sel c) + paid past (is_cell c)
paid_split [] sel c pass = omega arith
paid_split (f ∷ past) sel c pass =
    let a = moved_split sel c (payments_in f.key f.what) pass in
    let b = paid_split past sel c pass in
    rw (
      onto_is sel (payments_in f.key f.what) (paid past sel),
      onto_is (but_cell sel c) (payments_in f.key f.what) (paid past (but_cell sel c)),
      onto_is (is_cell c) (payments_in f.key f.what) (paid past (is_cell c)),
    ) (omega arith)

pub taken_split : (past : List Filing) (sel : Cell → Bool) (c : Cell) → sel c ≡ true → taken past sel ≡ taken past (but_cell sel c) + taken past (is_cell c)
taken_split [] sel c pass = omega arith
taken_split (f ∷ past) sel c pass =
    let ms : List Move = takings_in past (net_at past) f.key f.what in
    let a = moved_split sel c (takings_in past (net_at past) f.key f.what) pass in
    let b = taken_split past sel c pass in
    rw (
      onto_is sel (takings_in past (net_at past) f.key f.what) (taken past sel),
      onto_is (but_cell sel c) (takings_in past (net_at past) f.key f.what) (taken past (but_cell sel c)),
      onto_is (is_cell c) (takings_in past (net_at past) f.key f.what) (taken past (is_cell c)),
    ) (omega arith)

owed_split : (past : List Filing) (sel : Cell → Bool) (c : Cell) → sel c ≡ true → owed past sel ≡ owed past (but_cell sel c) + owed past (is_cell c)
owed_split [] sel c pass = omega arith
owed_split (f ∷ past) sel c pass =
    let a = moved_split sel c (owings_in past f.key f.what) pass in
    let b = owed_split past sel c pass in
    rw (
      onto_is sel (owings_in past f.key f.what) (owed past sel),
      onto_is (but_cell sel c) (owings_in past f.key f.what) (owed past (but_cell sel c)),
      onto_is (is_cell c) (owings_in past f.key f.what) (owed past (is_cell c)),
    ) (omega arith)

repaid_split : (past : List Filing) (sel : Cell → Bool) (c : Cell) → sel c ≡ true → repaid past sel ≡ repaid past (but_cell sel c) + repaid past (is_cell c)
repaid_split [] sel c pass = omega arith
repaid_split (f ∷ past) sel c pass =
    let a = moved_split sel c (repayments_in f.key f.what) pass in
    let b = repaid_split past sel c pass in
    rw (
      onto_is sel (repayments_in f.key f.what) (repaid past sel),
      onto_is (but_cell sel c) (repayments_in f.key f.what) (repaid past (but_cell sel c)),
      onto_is (is_cell c) (repayments_in f.key f.what) (repaid past (is_cell c)),
    ) (omega arith)

abbrev pub CoveredAll : List Filing → (Cell → Bool) → Type 0
CoveredAll past sel = (repaid past sel ≤ owed past sel) × (taken past sel + owed past sel ≤ paid past sel + repaid past sel)

-- two lists of amounts whose sums fit at each cell fit together
abbrev room_of : List Filing → (Cell → Bool) → ℕ
room_of past sel = (paid past sel + repaid past sel) - (taken past sel + owed past sel)

moved_fit : (past : List Filing) (key : Key) (w : WithdrawFacts) → ((sel : Cell → Bool) → CoveredAll past sel) →
    (sel : Cell → Bool) (p : ℕ) (rs os : List ℕ) → SumsBelow (room past) key w p rs os →
    moved sel (moves_at key w p rs) + moved sel (moves_at key w p os) ≤ room_of past sel
moved_fit past key w all sel p [] [] h = zero-le
moved_fit past key w all sel p [] (o ∷ os) h = cc
moved_fit past key w all sel p (r ∷ rs) [] h = cc
moved_fit past key w all sel p (r ∷ rs) (o ∷ os) h =
    go (λ s. moved_fit past key w all s (p + 1) rs os h.1) (sel (withdrawn_cell key w p)) refl
  where
    go : ((s : Cell → Bool) → moved s (moves_at key w (p + 1) rs) + moved s (moves_at key w (p + 1) os) ≤ room_of past s) →
        (b : Bool) → sel (withdrawn_cell key w p) ≡ b →
        (cond b r 0 + moved sel (moves_at key w (p + 1) rs)) + (cond b o 0 + moved sel (moves_at key w (p + 1) os)) ≤ room_of past sel
    go rec false e = let k = rec sel in omega arith
    go rec true e =
        let c : Cell = withdrawn_cell key w p in
        let k = rec (but_cell sel (withdrawn_cell key w p)) in
        let rest : moved sel (moves_at key w (p + 1) rs) ≡ moved (but_cell sel (withdrawn_cell key w p)) (moves_at key w (p + 1) rs) + moved (is_cell (withdrawn_cell key w p)) (moves_at key w (p + 1) rs) =
        moved_split sel (withdrawn_cell key w p) (moves_at key w (p + 1) rs) e in
        let rest' : moved sel (moves_at key w (p + 1) os) ≡ moved (but_cell sel (withdrawn_cell key w p)) (moves_at key w (p + 1) os) + moved (is_cell (withdrawn_cell key w p)) (moves_at key w (p + 1) os) =
        moved_split sel (withdrawn_cell key w p) (moves_at key w (p + 1) os) e in
        let z : moved (is_cell (withdrawn_cell key w p)) (moves_at key w (p + 1) rs) ≡ 0 = moved_past (withdrawn_cell key w p) key w (p + 1) rs (omega arith) in
        let z' : moved (is_cell (withdrawn_cell key w p)) (moves_at key w (p + 1) os) ≡ 0 = moved_past (withdrawn_cell key w p) key w (p + 1) os (omega arith) in
        let own = h.0 in
        let a = paid_split past sel (withdrawn_cell key w p) e in
        let b = taken_split past sel (withdrawn_cell key w p) e in
        let d = owed_split past sel (withdrawn_cell key w p) e in
        let f = repaid_split past sel (withdrawn_cell key w p) e in
        let m = all (but_cell sel (withdrawn_cell key w p)) in
        let n = all (is_cell (withdrawn_cell key w p)) in
        omega arith

step : (past : List Filing) (key : Key) (what : What) → ((sel : Cell → Bool) → CoveredAll past sel) →
    breaks past (record { key = key; what = what }) ≡ None → (sel : Cell → Bool) → CoveredAll (record { key = key; what = what } ∷ past) sel
step past key (BookFiled b) ih h = ih
step past key (School b) ih h = ih
step past key (Calendar b) ih h = ih
step past key (Prior b) ih h = ih
step past key (Apply b) ih h = ih
step past key (Enroll b) ih h = ih
step past key (Originate b) ih h = ih
step past key (Pay a) ih h = λ sel. let k = ih sel in (k.0, omega arith)
step past key (Adjust a) ih h = λ sel. go sel (sel (cell_of key a)) refl
  where
    go : (sel : Cell → Bool) (b : Bool) → sel (cell_of key a) ≡ b →
        (repaid past sel ≤ owed past sel) × ((cond b a.cents 0 + taken past sel) + owed past sel ≤ paid past sel + repaid past sel)
    go sel false e = let k = ih sel in (omega arith, omega arith)
    go sel true e =
        let rule = adjusted past key a h in
        let o : owed past (is_cell (cell_of key a)) ≡ 0 = none_owed past key.school a.student a.year a.term (rank a.program) rule.0 in
        let k = ih (but_cell sel (cell_of key a)) in
        let m = ih (is_cell (cell_of key a)) in
        let x = paid_split past sel (cell_of key a) e in
        let y = taken_split past sel (cell_of key a) e in
        let z = owed_split past sel (cell_of key a) e in
        let w = repaid_split past sel (cell_of key a) e in
        (omega arith, omega arith)
step past key (Cost b) ih h = ih
step past key (Sent b) ih h = ih
step past key (Amend b) ih h = ih
step past key (Repay a) ih h = λ sel. go sel (sel (cell_of key a)) refl
  where
    go : (sel : Cell → Bool) (b : Bool) → sel (cell_of key a) ≡ b →
        (cond b a.cents 0 + repaid past sel ≤ owed past sel)
        × ((cond b a.cents 0 + taken past sel) + owed past sel ≤ paid past sel + (cond b a.cents 0 + repaid past sel))
    go sel false e = let k = ih sel in (omega arith, omega arith)
    go sel true e =
        let rule = repaid_within past key a h in
        let all = ih sel in
        let k = ih (but_cell sel (cell_of key a)) in
        let z = owed_split past sel (cell_of key a) e in
        let w = repaid_split past sel (cell_of key a) e in
        (omega arith, omega arith)
step past key (Withdraw w) ih h = λ sel.
    let k = ih sel in
    let none = withdrawn_first past key w h in
    let sums : SumsBelow (net_at past) key w 0 (sheet past key w).returned (sheet past key w).owed =
    sums_below (net_at past) key w (days_of (the_term past key.school w.year w.term) w.last)
    (days_of (the_term past key.school w.year w.term) (last_of (the_term past key.school w.year w.term))) w.charges w.could in
    let fits = λ (p : ℕ).
    let o : owed past (is_cell (withdrawn_cell key w p)) ≡ 0 = none_owed past key.school w.student w.year w.term p none in
    let d = ih (is_cell (withdrawn_cell key w p)) in
    let r : net_at past (withdrawn_cell key w p) ≤ room past (withdrawn_cell key w p) = omega arith in r in
    let both : moved sel (moves_at key w 0 (sheet past key w).returned) + moved sel (moves_at key w 0 (sheet past key w).owed) ≤ room_of past sel =
    moved_fit past key w ih sel 0 (sheet past key w).returned (sheet past key w).owed
    (raised (net_at past) (room past) key w fits 0 (sheet past key w).returned (sheet past key w).owed sums) in (
      rw (onto_is sel (moves_at key w 0 (sheet past key w).owed) (owed past sel)) (omega arith),
      rw (onto_is sel (moves_at key w 0 (sheet past key w).returned) (taken past sel), onto_is sel (moves_at key w 0 (sheet past key w).owed) (owed past sel)) (omega arith),
    )

pub covered_all : (past : List Filing) → IsLegal past → (sel : Cell → Bool) → CoveredAll past sel
covered_all [] h = λ sel. (zero-le, zero-le)
covered_all (f ∷ past) h = step past f.key f.what (covered_all past h.0) h.2

-- no net of any cells is below 0
pub any_net_stands : (past : List Filing) → IsLegal past → (sel : Cell → Bool) → taken past sel ≤ paid past sel
any_net_stands past h sel = let k = covered_all past h sel in omega arith
