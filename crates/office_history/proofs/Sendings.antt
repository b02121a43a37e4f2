-- In a legal history no more is sent back than withdrawals return, and what they return is a part of what was taken.
use Rattle.std.proofs.Common.{◌≡◌, ℕ, ◌+◌, ◌≤◌, refl, arith, cond, Bool, true, false, List, [], ◌∷◌, None, zero-le}
use Rattle.aid_types.specs.declared.number.Key.{Key}
use Rattle.aid_filings.specs.declared.filing.Filing.{Filing}
use Rattle.aid_filings.specs.declared.filing.SentFacts.{SentFacts}
use Rattle.aid_filings.specs.declared.filing.What.{What}
use Rattle.aid_filings.specs.declared.filing.What.TheVariants.{Book as BookFiled, School, Calendar, Prior, Apply, Enroll, Originate, Pay, Withdraw, Repay, Adjust, Cost, Sent, Amend}
use Rattle.aid_types.proofs.Holds.{all_hold, over_holds}
use Rattle.office_history.specs.Net.{Cell, Move, is_cell, moves_at, onto, returned, returns_in, sendings_in, sent, sent_cell, sheet, taken}
use Rattle.office_history.specs.Rules.{rules_of}
use Rattle.office_history.specs.Answer.{breaks, IsLegal}
use Rattle.office_history.proofs.AnyNets.{but_cell, moved_split}
use Rattle.office_history.proofs.Cells.{onto_is}

onto_less : (sel : Cell → Bool) (ms : List Move) (m n : ℕ) → m ≤ n → onto sel ms m ≤ onto sel ms n
onto_less sel [] m n h = h
onto_less sel (x ∷ ms) m n h = let k = onto_less sel ms m n h in omega arith

-- what a withdrawal returns is taken
pub returned_is_taken : (past : List Filing) (sel : Cell → Bool) → returned past sel ≤ taken past sel
returned_is_taken [] sel = zero-le
returned_is_taken (f ∷ past) sel = go f.key f.what (returned_is_taken past sel)
  where
    go : (key : Key) (what : What) → returned past sel ≤ taken past sel →
        returned (record { key = key; what = what } ∷ past) sel ≤ taken (record { key = key; what = what } ∷ past) sel
    go key (Withdraw w) ih = onto_less sel (moves_at key w 0 (sheet past key w).returned) (returned past sel) (taken past sel) ih
    go key (Repay a) ih = omega arith
    go key (Adjust a) ih = omega arith
    go key (BookFiled b) ih = ih
    go key (School b) ih = ih
    go key (Calendar b) ih = ih
    go key (Prior b) ih = ih
    go key (Apply b) ih = ih
    go key (Enroll b) ih = ih
    go key (Originate b) ih = ih
    go key (Pay b) ih = ih
    go key (Cost b) ih = ih
    go key (Sent b) ih = ih
    go key (Amend b) ih = ih

-- what was returned and sent at the cells that pass: that at one of them, and that at the others
returned_split : (past : List Filing) (sel : Cell → Bool) (c : Cell) → sel c ≡ true → returned past sel ≡ returned past (but_cell sel c) + returned past (is_cell c)
returned_split [] sel c pass = omega arith
returned_split (f ∷ past) sel c pass =
    let a = moved_split sel c (returns_in past f.key f.what) pass in
    let b = returned_split past sel c pass in
    rw (
      onto_is sel (returns_in past f.key f.what) (returned past sel),
      onto_is (but_cell sel c) (returns_in past f.key f.what) (returned past (but_cell sel c)),
      onto_is (is_cell c) (returns_in past f.key f.what) (returned past (is_cell c)),
    ) (omega arith)

sent_split : (past : List Filing) (sel : Cell → Bool) (c : Cell) → sel c ≡ true → sent past sel ≡ sent past (but_cell sel c) + sent past (is_cell c)
sent_split [] sel c pass = omega arith
sent_split (f ∷ past) sel c pass =
    let a = moved_split sel c (sendings_in f.key f.what) pass in
    let b = sent_split past sel c pass in
    rw (
      onto_is sel (sendings_in f.key f.what) (sent past sel),
      onto_is (but_cell sel c) (sendings_in f.key f.what) (sent past (but_cell sel c)),
      onto_is (is_cell c) (sendings_in f.key f.what) (sent past (is_cell c)),
    ) (omega arith)

sent_within : (past : List Filing) (key : Key) (s : SentFacts) → breaks past (record { key = key; what = Sent s }) ≡ None →
    sent past (is_cell (sent_cell key s)) + s.cents ≤ returned past (is_cell (sent_cell key s))
sent_within past key s h =
    over_holds 66 (sent past (is_cell (sent_cell key s)) + s.cents) (returned past (is_cell (sent_cell key s))) (all_hold (rules_of past key (Sent s)) h).1.1.1.1.1.0

step : (past : List Filing) (key : Key) (what : What) → ((sel : Cell → Bool) → sent past sel ≤ returned past sel) →
    breaks past (record { key = key; what = what }) ≡ None → (sel : Cell → Bool) → sent (record { key = key; what = what } ∷ past) sel ≤ returned (record { key = key; what = what } ∷ past) sel
step past key (Sent s) ih h = λ sel. go sel (sel (sent_cell key s)) refl
  where
    go : (sel : Cell → Bool) (b : Bool) → sel (sent_cell key s) ≡ b → cond b s.cents 0 + sent past sel ≤ returned past sel
    go sel false e = let k = ih sel in omega arith
    go sel true e =
        let rule = sent_within past key s h in
        let k = ih (but_cell sel (sent_cell key s)) in
        let x = sent_split past sel (sent_cell key s) e in
        let y = returned_split past sel (sent_cell key s) e in
        omega arith
step past key (Withdraw w) ih h = λ sel. let k = ih sel in rw (onto_is sel (moves_at key w 0 (sheet past key w).returned) (returned past sel)) (omega arith)
step past key (BookFiled b) ih h = ih
step past key (School b) ih h = ih
step past key (Calendar b) ih h = ih
step past key (Prior b) ih h = ih
step past key (Apply b) ih h = ih
step past key (Enroll b) ih h = ih
step past key (Originate b) ih h = ih
step past key (Pay b) ih h = ih
step past key (Repay b) ih h = ih
step past key (Adjust b) ih h = ih
step past key (Cost b) ih h = ih
step past key (Amend b) ih h = ih

pub sent_is_returned : (past : List Filing) → IsLegal past → (sel : Cell → Bool) → sent past sel ≤ returned past sel
sent_is_returned [] h = λ sel. zero-le
sent_is_returned (f ∷ past) h = step past f.key f.what (sent_is_returned past h.0) h.2
