-- Moves at cells.
use Rattle.std.proofs.Common.{◌≡◌, ℕ, zero, suc, ◌+◌, ◌≤◌, ◌<◌, refl, arith, subst, cond, Bool, true, false, ◌&&◌, List, [], ◌∷◌, eqb-true, eq-eqb, ne_eqb, zero-le, get_or}
use Rattle.std.specs.Prelude.{◌==◌}
use Rattle.std.proofs.lemmas.Bool.{and_parts}
use Rattle.aid_types.specs.declared.number.Key.{Key}
use Rattle.aid_filings.specs.declared.filing.WithdrawFacts.{WithdrawFacts}
use Rattle.office_history.specs.Net.{Cell, Move, is_cell, moved, onto, withdrawn_cell, moves_at}

-- two cells that are told to be the same are the same
pub same_cell : (c d : Cell) → is_cell c d ≡ true → d ≡ c
same_cell c d h =
    let p = and_parts _ _ h in
    let q = and_parts _ _ p.1 in
    let r = and_parts _ _ q.1 in
    let s = and_parts _ _ r.1 in
    let e0 : d.student ≡ c.student = eqb-true _ _ p.0 in
    let e1 : d.school ≡ c.school = eqb-true _ _ q.0 in
    let e2 : d.year ≡ c.year = eqb-true _ _ r.0 in
    let e3 : d.term ≡ c.term = eqb-true _ _ s.0 in
    let e4 : d.program ≡ c.program = eqb-true _ _ s.1 in
    cell_eq d.student d.school d.year d.term d.program c.student c.school c.year c.term c.program e0 e1 e2 e3 e4
  where
    cell_eq : (a b c d e a' b' c' d' e' : ℕ) → a ≡ a' → b ≡ b' → c ≡ c' → d ≡ d' → e ≡ e' →
        ◌≡◌ {A = Cell} (record { student = a; school = b; year = c; term = d; program = e })
        (record { student = a'; school = b'; year = c'; term = d'; program = e' })
    cell_eq a b c d e a' b' c' d' e' p q r s t = rw (p, q, r, s, t) refl

-- an amount at one cell is at most g at any cell, where it is at most g at its own
pub within_cell : (g : Cell → ℕ) (c d : Cell) (n : ℕ) → n ≤ g d → cond (is_cell c d) n 0 ≤ g c
within_cell g c d n h = go (is_cell c d) refl
  where
    go : (b : Bool) → is_cell c d ≡ b → cond b n 0 ≤ g c
    go true e = subst (λ x. n ≤ g x) (same_cell c d e) h
    go false e = zero-le

-- the moves of later programs don't touch an earlier one
pub moved_past : (c : Cell) (key : Key) (w : WithdrawFacts) (p : ℕ) (ns : List ℕ) → c.program < p → moved (is_cell c) (moves_at key w p ns) ≡ 0
moved_past c key w p [] h = refl
moved_past c key w p (n ∷ ns) h =
    let rest : moved (is_cell c) (moves_at key w (p + 1) ns) ≡ 0 = moved_past c key w (p + 1) ns (omega arith) in
    let e : is_cell c (withdrawn_cell key w p) ≡ false = other c key w p h in
    rw (e, rest) refl
  where
    no_last : (a b d f : Bool) → (a && (b && (d && (f && false)))) ≡ false
    no_last true true true true = refl
    no_last true true true false = refl
    no_last true true false f = refl
    no_last true false d f = refl
    no_last false b d f = refl

    other : (c : Cell) (key : Key) (w : WithdrawFacts) (p : ℕ) → c.program < p → is_cell c (withdrawn_cell key w p) ≡ false
    other c key w p h =
        let e : (p == c.program) ≡ false = ne_eqb p c.program (λ q. omega arith) in
        rw e (no_last (w.student == c.student) (key.school == c.school) (w.year == c.year) (w.term == c.term))

-- two lists of amounts whose sums are at most g at the cells from program p on
abbrev pub SumsBelow : (Cell → ℕ) → Key → WithdrawFacts → ℕ → List ℕ → List ℕ → Type 0
SumsBelow g key w p [] os = os ≡ []
SumsBelow g key w p (r ∷ rs) [] = r ∷ rs ≡ []
SumsBelow g key w p (r ∷ rs) (o ∷ os) = (r + o ≤ g (withdrawn_cell key w p)) × SumsBelow g key w (p + 1) rs os

pub moved_pair : (g : Cell → ℕ) (c : Cell) (key : Key) (w : WithdrawFacts) (p : ℕ) (rs os : List ℕ) → SumsBelow g key w p rs os →
    moved (is_cell c) (moves_at key w p rs) + moved (is_cell c) (moves_at key w p os) ≤ g c
moved_pair g c key w p [] [] h = zero-le
moved_pair g c key w p [] (o ∷ os) h = cc
moved_pair g c key w p (r ∷ rs) [] h = cc
moved_pair g c key w p (r ∷ rs) (o ∷ os) h = go (moved_pair g c key w (p + 1) rs os h.1) (is_cell c (withdrawn_cell key w p)) refl
  where
    go : moved (is_cell c) (moves_at key w (p + 1) rs) + moved (is_cell c) (moves_at key w (p + 1) os) ≤ g c →
        (b : Bool) → is_cell c (withdrawn_cell key w p) ≡ b →
        (cond b r 0 + moved (is_cell c) (moves_at key w (p + 1) rs)) + (cond b o 0 + moved (is_cell c) (moves_at key w (p + 1) os)) ≤ g c
    go rest false e = omega arith
    go rest true e =
        let at : withdrawn_cell key w p ≡ c = same_cell c (withdrawn_cell key w p) e in
        let below : c.program < p + 1 = subst (λ (x : Cell). x.program < p + 1) at (omega arith) in
        let e1 : moved (is_cell c) (moves_at key w (p + 1) rs) ≡ 0 = moved_past c key w (p + 1) rs below in
        let e2 : moved (is_cell c) (moves_at key w (p + 1) os) ≡ 0 = moved_past c key w (p + 1) os below in
        let k : r + o ≤ g c = subst (λ x. r + o ≤ g x) at h.0 in
        omega arith

-- a sum on top of a sum
pub onto_is : (sel : Cell → Bool) (ms : List Move) (n : ℕ) → onto sel ms n ≡ moved sel ms + n
onto_is sel [] n = omega arith
onto_is sel (m ∷ ms) n = let e = onto_is sel ms n in omega arith

-- the same where only an amount of the cell's program counts
pub within_program : (g : Cell → ℕ) (c d : Cell) (n : ℕ) → (d.program ≡ c.program → n ≤ g d) → cond (is_cell c d) n 0 ≤ g c
within_program g c d n h = go (is_cell c d) refl
  where
    go : (b : Bool) → is_cell c d ≡ b → cond b n 0 ≤ g c
    go true e =
        let at : d ≡ c = same_cell c d e in
        subst (λ x. n ≤ g x) at (h (subst (λ (x : Cell). d.program ≡ x.program) at refl))
    go false e = zero-le

own_cell : (key : Key) (w : WithdrawFacts) (p q : ℕ) → q ≡ p → is_cell (withdrawn_cell key w p) (withdrawn_cell key w q) ≡ true
own_cell key w p q e =
    rw (eq-eqb w.student w.student refl, eq-eqb key.school key.school refl, eq-eqb w.year w.year refl, eq-eqb w.term w.term refl, eq-eqb q p e) refl

other_cell : (key : Key) (w : WithdrawFacts) (p q : ℕ) → (q ≡ p → ⊥) → is_cell (withdrawn_cell key w p) (withdrawn_cell key w q) ≡ false
other_cell key w p q differ =
    rw (eq-eqb w.student w.student refl, eq-eqb key.school key.school refl, eq-eqb w.year w.year refl, eq-eqb w.term w.term refl, ne_eqb q p differ) refl

-- a withdrawal moves at each of its cells the amount of its program: six running totals are enough
pub moved_own : (key : Key) (w : WithdrawFacts) (p q k : ℕ) (ns : List ℕ) → p ≡ q + k →
    moved (is_cell (withdrawn_cell key w p)) (moves_at key w q ns) ≡ get_or ns k 0
moved_own key w p q k [] e = refl
moved_own key w p q zero (n ∷ ns) e =
    let same : is_cell (withdrawn_cell key w p) (withdrawn_cell key w q) ≡ true = own_cell key w p q (omega arith) in
    let rest : moved (is_cell (withdrawn_cell key w p)) (moves_at key w (q + 1) ns) ≡ 0 =
    moved_past (withdrawn_cell key w p) key w (q + 1) ns (omega arith) in
    rw (same, rest) (omega arith)
moved_own key w p q (suc k) (n ∷ ns) e =
    let off : is_cell (withdrawn_cell key w p) (withdrawn_cell key w q) ≡ false = other_cell key w p q (λ z. omega arith) in
    let ih : moved (is_cell (withdrawn_cell key w p)) (moves_at key w (q + 1) ns) ≡ get_or ns k 0 = moved_own key w p (q + 1) k ns (omega arith) in
    rw (off, ih) (omega arith)
