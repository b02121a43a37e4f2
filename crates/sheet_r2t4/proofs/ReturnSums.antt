-- What was paid and taken of a student's program in a term, before a withdrawal from it and since.
use Rattle.std.proofs.Common.{◌≡◌, ℕ, zero, suc, ◌+◌, ◌-◌, ◌<◌, refl, ap, sym, ◌∙◌, arith, cond, Bool, true, false, List, [], ◌∷◌, ◌++◌, length, None, eq-eqb}
use Rattle.std.specs.Prelude.{is_some, slice_index}
use Rattle.aid_types.specs.declared.number.Key.{Key}
use Rattle.aid_filings.specs.declared.filing.Filing.{Filing}
use Rattle.aid_filings.specs.declared.filing.What.{What}
use Rattle.aid_filings.specs.declared.filing.What.TheVariants.{Book as BookFiled, School, Calendar, Prior, Apply, Enroll, Originate, Pay, Withdraw, Repay, Adjust, Cost, Sent, Amend}
use Rattle.aid_filings.specs.declared.filing.WithdrawFacts.{WithdrawFacts}
use Rattle.law_r2t4.specs.Worksheet.{worksheet_of}
use Rattle.law_r2t4.proofs.Programs.{sum-laid, sum-returned}
use Rattle.office_history.specs.Answer.{breaks, IsLegal}
use Rattle.office_history.specs.Net.{Cell, cell_of, is_cell, moved, moves_at, onto, paid, paid_after, repaid, sheet, taken, withdrawn_cell}
use Rattle.office_history.specs.Past.{at_school, first_of_two, the_withdrawal, withdrawal_in}
use Rattle.office_history.specs.Positions.{withdrawn_at}
use Rattle.office_history.proofs.Asked.{some_told, told_at}
use Rattle.office_history.proofs.Cells.{moved_own, onto_is, same_cell}
use Rattle.office_history.proofs.Nets.{adjusted, covered, nets_stand, none_before, none_owed, withdrawn_first}
use Rattle.sheet_r2t4.specs.ReturnSums.{IsEven, IsSplit}

-- O and Q of a worksheet
pub split : (completed total charges : ℕ) (net could : List ℕ) → IsSplit (worksheet_of completed total charges net could) charges
unfolding worksheet_of
split completed total charges net could =
    let school = sum-returned completed total charges net could in
    let student = sum-laid completed total charges net could in
    record { school = school; student = student ∙ ap (λ (n : ℕ). (worksheet_of completed total charges net could).unearned - n) (sym school) }

-- the position of the withdrawal from the term of a cell, 0 where there is none
abbrev at_cell : List Filing → Cell → ℕ
at_cell past c = withdrawn_at past c.school c.student c.year c.term

-- once there is one, there is one
positive : (b : Bool) (n here : ℕ) → 0 < n → 0 < first_of_two b n here
positive false n here h = h
positive true zero here h = absurd (omega (arith, h))
positive true (suc n) here h = h

first : (b : Bool) (n here : ℕ) → b ≡ true → 0 < here → 0 < first_of_two b n here
first false n here e h = absurd cc
first true zero here e h = h
first true (suc n) here e h = omega arith

-- cells of terms of which one has a withdrawal and the other doesn't are apart
apart : (past : List Filing) (c d : Cell) → 0 < at_cell past c → at_cell past d ≡ 0 → is_cell c d ≡ false
apart past c d stands none = go (is_cell c d) refl
  where
    go : (b : Bool) → is_cell c d ≡ b → b ≡ false
    go false e = refl
    go true e = let same : at_cell past d ≡ at_cell past c = ap (at_cell past) (same_cell c d e) in absurd (omega (arith, stands, none, same))

apart_too : (past : List Filing) (c d : Cell) → at_cell past c ≡ 0 → 0 < at_cell past d → is_cell c d ≡ false
apart_too past c d none stands = go (is_cell c d) refl
  where
    go : (b : Bool) → is_cell c d ≡ b → b ≡ false
    go false e = refl
    go true e = let same : at_cell past d ≡ at_cell past c = ap (at_cell past) (same_cell c d e) in absurd (omega (arith, stands, none, same))

unmoved : (c : Cell) (key : Key) (w : WithdrawFacts) → ((p : ℕ) → is_cell c (withdrawn_cell key w p) ≡ false) → (p : ℕ) (ns : List ℕ) →
    moved (is_cell c) (moves_at key w p ns) ≡ 0
unmoved c key w off p [] = refl
unmoved c key w off p (n ∷ ns) = rw (off p, unmoved c key w off (p + 1) ns) refl

-- before a withdrawal nothing is paid after it
none_after : (past : List Filing) (c : Cell) → at_cell past c ≡ 0 → paid_after past (is_cell c) ≡ 0
none_after [] c none = refl
none_after (f ∷ past) c none =
    let q : (at_cell past c ≡ 0) × (is_some (at_school c.school (withdrawal_in c.student c.year c.term) f) ≡ false) =
    none_before (at_cell past c) (is_some (at_school c.school (withdrawal_in c.student c.year c.term) f)) (length past) none in
    go f.key f.what q.0 (none_after past c q.0)
  where
    go : (key : Key) (what : What) → at_cell past c ≡ 0 → paid_after past (is_cell c) ≡ 0 → paid_after (record { key = key; what = what } ∷ past) (is_cell c) ≡ 0
    go key (Pay a) none ih = paid_in (is_some (the_withdrawal past key.school a.student a.year a.term)) refl
      where
        paid_in : (b : Bool) → is_some (the_withdrawal past key.school a.student a.year a.term) ≡ b
            → onto (is_cell c) (cond b (record { at = cell_of key a; cents = a.cents } ∷ []) []) (paid_after past (is_cell c)) ≡ 0
        paid_in false e = ih
        paid_in true e =
            let off = apart_too past c (cell_of key a) none (told_at (at_school key.school (withdrawal_in a.student a.year a.term)) past e) in
            rw (off, ih) refl
    go key (BookFiled b) none ih = ih
    go key (School b) none ih = ih
    go key (Calendar b) none ih = ih
    go key (Prior b) none ih = ih
    go key (Apply b) none ih = ih
    go key (Enroll b) none ih = ih
    go key (Originate b) none ih = ih
    go key (Withdraw b) none ih = ih
    go key (Repay b) none ih = ih
    go key (Adjust b) none ih = ih
    go key (Cost b) none ih = ih
    go key (Sent b) none ih = ih
    go key (Amend b) none ih = ih

-- a withdrawal on the filings before it, and what comes after it
module _ (past : List Filing) (key : Key) (w : WithdrawFacts) (program : ℕ) where
  abbrev cell : Cell
  cell = withdrawn_cell key w program

  abbrev filed : Filing
  filed = record { key = key; what = Withdraw w }

  -- what the school returns of the program
  abbrev returned : ℕ
  returned = slice_index (sheet past key w).returned program

  -- all that was paid and taken, without a difference
  abbrev Holds : List Filing → Type 0
  Holds now =
      paid now (is_cell cell) + returned + repaid now (is_cell cell) + taken past (is_cell cell)
      ≡ taken now (is_cell cell) + paid past (is_cell cell) + paid_after now (is_cell cell)

  own : is_some (at_school key.school (withdrawal_in w.student w.year w.term) filed) ≡ true
  own = rw (eq-eqb key.school key.school refl, eq-eqb w.student w.student refl, eq-eqb w.year w.year refl, eq-eqb w.term w.term refl) refl

  stands : (newer : List Filing) → 0 < at_cell (newer ++ filed ∷ past) cell
  stands [] = first (is_some (at_school key.school (withdrawal_in w.student w.year w.term) filed)) (at_cell past cell) (length past + 1) own (omega arith)
  stands (g ∷ newer) =
      positive (is_some (at_school key.school (withdrawal_in w.student w.year w.term) g)) (at_cell (newer ++ filed ∷ past) cell) (length (newer ++ filed ∷ past) + 1) (stands newer)

  base : IsLegal past → at_cell past cell ≡ 0 → Holds (filed ∷ past)
  base legal none =
      let ms = moves_at key w 0 (sheet past key w).returned in
      let after = none_after past cell none in
      let owing = none_owed past key.school w.student w.year w.term program none in
      let within = (covered past legal cell).0 in
      let m : moved (is_cell cell) ms ≡ returned = moved_own key w program 0 program (sheet past key w).returned (omega arith) in
      let o = onto_is (is_cell cell) ms (taken past (is_cell cell)) in
      omega (arith, after, owing, within, m, o)

  step : (now : List Filing) (k : Key) (what : What) → 0 < at_cell now cell → breaks now (record { key = k; what = what }) ≡ None → Holds now
      → Holds (record { key = k; what = what } ∷ now)
  step now k (Pay a) at ok ih = go (is_some (the_withdrawal now k.school a.student a.year a.term)) refl
    where
      go : (b : Bool) → is_some (the_withdrawal now k.school a.student a.year a.term) ≡ b
          → cond (is_cell cell (cell_of k a)) a.cents 0 + paid now (is_cell cell) + returned + repaid now (is_cell cell) + taken past (is_cell cell)
          ≡ taken now (is_cell cell) + paid past (is_cell cell) + onto (is_cell cell) (cond b (record { at = cell_of k a; cents = a.cents } ∷ []) []) (paid_after now (is_cell cell))
      go true e = omega (arith, ih)
      go false e =
          let none : at_cell now (cell_of k a) ≡ 0 = unwithdrawn (at_cell now (cell_of k a)) (some_told (at_school k.school (withdrawal_in a.student a.year a.term)) now) e in
          let off = ap (λ (b : Bool). cond b a.cents 0) (apart now cell (cell_of k a) at none) in
          omega (arith, ih, off)
        where
          unwithdrawn : (n : ℕ) → (0 < n → is_some (the_withdrawal now k.school a.student a.year a.term) ≡ true)
              → is_some (the_withdrawal now k.school a.student a.year a.term) ≡ false → n ≡ 0
          unwithdrawn zero some untold = refl
          unwithdrawn (suc n) some untold = let yes = some (omega arith) in absurd cc
  step now k (Adjust a) at ok ih =
      let off = ap (λ (b : Bool). cond b a.cents 0) (apart now cell (cell_of k a) at (adjusted now k a ok).0) in
      omega (arith, ih, off)
  step now k (Repay a) at ok ih = omega (arith, ih)
  step now k (Withdraw v) at ok ih =
      let ms = moves_at k v 0 (sheet now k v).returned in
      let off = unmoved cell k v (λ p. apart now cell (withdrawn_cell k v p) at (withdrawn_first now k v ok)) 0 (sheet now k v).returned in
      let o = onto_is (is_cell cell) ms (taken now (is_cell cell)) in
      omega (arith, ih, off, o)
  step now k (BookFiled b) at ok ih = ih
  step now k (School b) at ok ih = ih
  step now k (Calendar b) at ok ih = ih
  step now k (Prior b) at ok ih = ih
  step now k (Apply b) at ok ih = ih
  step now k (Enroll b) at ok ih = ih
  step now k (Originate b) at ok ih = ih
  step now k (Cost b) at ok ih = ih
  step now k (Sent b) at ok ih = ih
  step now k (Amend b) at ok ih = ih

  holds : (newer : List Filing) → IsLegal (newer ++ filed ∷ past) → Holds (newer ++ filed ∷ past)
  holds [] legal = base legal.0 (withdrawn_first past key w legal.2)
  holds (g ∷ newer) legal = step (newer ++ filed ∷ past) g.key g.what (stands newer) legal.2 (holds newer legal.0)

  legal_past : (newer : List Filing) → IsLegal (newer ++ filed ∷ past) → IsLegal past
  legal_past [] legal = legal.0
  legal_past (g ∷ newer) legal = legal_past newer legal.0

  -- so the nets before and now differ by what was returned, repaid and paid since
  pub even : (newer : List Filing) → IsLegal (newer ++ filed ∷ past) → IsEven past (newer ++ filed ∷ past) key w program
  even newer legal =
      let sums = holds newer legal in
      let before = nets_stand past (legal_past newer legal) cell in
      let now = nets_stand (newer ++ filed ∷ past) legal cell in
      omega (arith, sums, before, now)
