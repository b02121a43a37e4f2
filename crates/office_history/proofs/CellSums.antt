-- The net of any cells is the sum of the nets of the cells at which anything was paid.
use Rattle.std.proofs.Common.{◌≡◌, ◌≢◌, ℕ, zero, suc, ◌+◌, ◌<◌, refl, sym, ap, ◌∙◌, subst, arith, cond, Bool, true, false, not, ◌||◌, ◌⊎◌, inl, inr, List, [], ◌∷◌, eq-eqb}
use Rattle.std.specs.List.{All, AllPairs, Contains, filter, list_any, sum_by}
use Rattle.std.proofs.lemmas.Bool.{and_parts}
use Rattle.std.proofs.lemmas.List.Elements.{All-nil, All-cons, All-head, All-tail, All-weaker, filter_passes}
use Rattle.std.proofs.lemmas.List.Kept.{AllPairs-cons, AllPairs-filter}
use Rattle.std.proofs.lemmas.List.Sums.{sum_by-cons}
use Rattle.aid_filings.specs.declared.filing.Amount.{Amount}
use Rattle.aid_filings.specs.declared.filing.Filing.{Filing}
use Rattle.aid_filings.specs.declared.filing.What.{What}
use Rattle.aid_filings.specs.declared.filing.What.TheVariants.{Pay}
use Rattle.office_history.specs.Net.{Cell, Move, is_cell, cell_of, onto, paid, net, net_at, payments_in}
use Rattle.office_history.specs.Answer.{IsLegal}
use Rattle.office_history.specs.Least.{HoldsPaid}
use Rattle.office_history.proofs.Cells.{same_cell}
use Rattle.office_history.proofs.AnyNets.{but_cell, paid_split, taken_split, any_net_stands}
use Rattle.office_history.proofs.Steps.{by_payment}
use Rattle.office_history.proofs.Among.{among_cases, among_head, among_rest, kept_among, none_any}

-- a cell is itself
same_itself : (c : Cell) → is_cell c c ≡ true
same_itself c = rw (eq-eqb c.student c.student refl, eq-eqb c.school c.school refl, eq-eqb c.year c.year refl, eq-eqb c.term c.term refl, eq-eqb c.program c.program refl) refl

-- where nothing was paid at any cell that passes, nothing was paid at all of them
paid_nothing : (past : List Filing) (sel : Cell → Bool) → ((c : Cell) → sel c ≡ true → paid past (is_cell c) ≡ 0) → paid past sel ≡ 0
paid_nothing [] sel none = refl
paid_nothing (f ∷ past) sel none =
    by_payment (λ what. ((c : Cell) → sel c ≡ true → onto (is_cell c) (payments_in f.key what) (paid past (is_cell c)) ≡ 0) → onto sel (payments_in f.key what) (paid past sel) ≡ 0)
    f.key (pays (paid_nothing past sel))
    (λ what e h. ap (λ (ms : List Move). onto sel ms (paid past sel)) e
    ∙ paid_nothing past sel (λ c k. sym (ap (λ (ms : List Move). onto (is_cell c) ms (paid past (is_cell c))) e) ∙ h c k)) f.what none
  where
    pays : (((c : Cell) → sel c ≡ true → paid past (is_cell c) ≡ 0) → paid past sel ≡ 0) → (a : Amount) →
        ((c : Cell) → sel c ≡ true → cond (is_cell c (cell_of f.key a)) a.cents 0 + paid past (is_cell c) ≡ 0) →
        cond (sel (cell_of f.key a)) a.cents 0 + paid past sel ≡ 0
    pays ih a h =
        let rest : paid past sel ≡ 0 = ih (λ c k. let e = h c k in omega arith) in
        go rest (sel (cell_of f.key a)) refl
      where
        go : paid past sel ≡ 0 → (b : Bool) → sel (cell_of f.key a) ≡ b → cond b a.cents 0 + paid past sel ≡ 0
        go rest false e = omega arith
        go rest true e =
            let own : cond true a.cents 0 + paid past (is_cell (cell_of f.key a)) ≡ 0 =
            subst (λ (b : Bool). cond b a.cents 0 + paid past (is_cell (cell_of f.key a)) ≡ 0) (same_itself (cell_of f.key a)) (h (cell_of f.key a) e) in
            omega arith

-- each cell that passes and at which anything was paid is in the list
abbrev Covers : List Filing → (Cell → Bool) → List Cell → Type 0
Covers past sel cells = (c : Cell) → sel c ≡ true → 0 < paid past (is_cell c) → Contains cells c

-- cells that differ are told apart
differ : (c d : Cell) → c ≢ d → is_cell c d ≡ false
differ c d h = go (is_cell c d) refl
  where
    go : (b : Bool) → is_cell c d ≡ b → b ≡ false
    go false e = refl
    go true e = absurd (h (sym (same_cell c d e)))

-- of a list without repetition: the head is none of the rest, and the rest has none either
head_apart : (c : Cell) (cells : List Cell) → AllPairs (λ c d. c ≢ d) (c ∷ cells) → All (λ d. c ≢ d) cells
head_apart c cells once = λ k d lt. once 0 (suc k) d (omega arith) (omega arith)

rest_apart : (c : Cell) (cells : List Cell) → AllPairs (λ c d. c ≢ d) (c ∷ cells) → AllPairs (λ c d. c ≢ d) cells
rest_apart c cells once = λ i j d lt le. once (suc i) (suc j) d (omega arith) (omega arith)

-- the rest passes the test but for the head's cell
rest_pass : (sel : Cell → Bool) (c : Cell) (cells : List Cell) → All (λ d. c ≢ d) cells → All (λ d. sel d ≡ true) (c ∷ cells) → All (λ d. but_cell sel c d ≡ true) cells
rest_pass sel c [] apart pass = All-nil (λ d. but_cell sel c d ≡ true)
rest_pass sel c (d ∷ cells) apart pass =
    let rest = All-tail (λ d. sel d ≡ true) c (d ∷ cells) pass in
    let e : sel d ≡ true = All-head (λ d. sel d ≡ true) d cells rest in
    let n : is_cell c d ≡ false = differ c d (All-head (λ d. c ≢ d) d cells apart) in
    All-cons (λ d. but_cell sel c d ≡ true) d cells (rw (e, n) refl)
    (rest_pass sel c cells (All-tail (λ d. c ≢ d) d cells apart)
    (All-cons (λ d. sel d ≡ true) c cells (All-head (λ d. sel d ≡ true) c (d ∷ cells) pass) (All-tail (λ d. sel d ≡ true) d cells rest)))

-- and has each cell that passes it
rest_covers : (past : List Filing) (sel : Cell → Bool) (c : Cell) (cells : List Cell) → Covers past sel (c ∷ cells) → Covers past (but_cell sel c) cells
rest_covers past sel c cells covers d e pos =
    let p = and_parts (sel d) (not (is_cell c d)) e in
    go p.1 (among_cases c cells d (covers d p.0 pos))
  where
    go : not (is_cell c d) ≡ true → (c ≡ d) ⊎ Contains cells d → Contains cells d
    go n (inl same) = let k : is_cell c d ≡ true = subst (λ (x : Cell). is_cell c x ≡ true) same (same_itself c) in absurd (cc)
    go n (inr k) = k

-- the net of the cells that pass is the sum over a list of those, none twice
sum_of_nets : (past : List Filing) → IsLegal past → (cells : List Cell) (sel : Cell → Bool) → AllPairs (λ c d. c ≢ d) cells →
    All (λ c. sel c ≡ true) cells → Covers past sel cells → net past sel ≡ sum_by (net_at past) cells
sum_of_nets past h [] sel once pass covers =
    let none : paid past sel ≡ 0 = paid_nothing past sel (λ c e. nothing (paid past (is_cell c)) (λ pos. absurd (omega (arith, (covers c e pos).1)))) in
    omega arith
  where
    nothing : (n : ℕ) → (0 < n → ⊥) → n ≡ 0
    nothing zero never = refl
    nothing (suc n) never = absurd (never (omega arith))
sum_of_nets past h (c ∷ cells) sel once pass covers =
    let own : sel c ≡ true = All-head (λ d. sel d ≡ true) c cells pass in
    let paid_there = paid_split past sel c own in
    let taken_there = taken_split past sel c own in
    let rest : net past (but_cell sel c) ≡ sum_by (net_at past) cells =
    sum_of_nets past h cells (but_cell sel c) (rest_apart c cells once) (rest_pass sel c cells (head_apart c cells once) pass) (rest_covers past sel c cells covers) in
    let below = any_net_stands past h (but_cell sel c) in
    let below_there = any_net_stands past h (is_cell c) in
    let total : sum_by (net_at past) (c ∷ cells) ≡ net_at past c + sum_by (net_at past) cells = sum_by-cons (net_at past) c cells in
    omega arith

-- the net of any cells is the sum of the nets of those that pass among the cells at which anything was paid
pub coarse_net : (past : List Filing) → IsLegal past → (cells : List Cell) → HoldsPaid past cells → (sel : Cell → Bool) →
    net past sel ≡ sum_by (net_at past) (filter sel cells)
coarse_net past h cells holds sel =
    sum_of_nets past h (filter sel cells) sel (AllPairs-filter (λ c d. c ≢ d) sel cells holds.once) (filter_passes sel cells)
    (λ c e pos. kept_among sel cells c (holds.each c pos) e)

found_among : (c : Cell) (cells : List Cell) → list_any (is_cell c) cells ≡ true → Contains cells c
found_among c [] e = absurd (cc)
found_among c (d ∷ cells) e = go (is_cell c d) refl e (found_among c cells)
  where
    go : (b : Bool) → is_cell c d ≡ b → (b || list_any (is_cell c) cells) ≡ true → (list_any (is_cell c) cells ≡ true → Contains cells c) → Contains (d ∷ cells) c
    go true k e ih = subst (Contains (d ∷ cells)) (same_cell c d k) (among_head d cells)
    go false k e ih = among_rest d cells c (ih e)

-- there is a list of the cells at which anything was paid: one more payment adds its cell, where the list hasn't it
with_cell : (c : Cell) (cells : List Cell) → AllPairs (λ c d. c ≢ d) cells →
    (more : List Cell) × AllPairs (λ c d. c ≢ d) more × Contains more c × ((d : Cell) → Contains cells d → Contains more d)
with_cell c cells once = go (list_any (is_cell c) cells) refl
  where
    apart : (d : Cell) → is_cell c d ≡ false → c ≢ d
    apart d k same = let t : is_cell c d ≡ true = subst (λ (x : Cell). is_cell c x ≡ true) same (same_itself c) in absurd (cc)

    go : (b : Bool) → list_any (is_cell c) cells ≡ b → (more : List Cell) × AllPairs (λ c d. c ≢ d) more × Contains more c × ((d : Cell) → Contains cells d → Contains more d)
    go true e = (cells, once, found_among c cells e, λ d k. k)
    go false e = (c ∷ cells, AllPairs-cons (λ c d. c ≢ d) c cells (All-weaker (λ d. is_cell c d ≡ false) (λ d. c ≢ d) apart cells (none_any (is_cell c) cells e)) once, among_head c cells, λ d k. among_rest c cells d k)

pub paid_cells : (past : List Filing) → (cells : List Cell) × HoldsPaid past cells
paid_cells [] = ([], record { once = λ i j d lt le. absurd (omega arith); each = λ c pos. absurd (omega arith) })
paid_cells (f ∷ past) =
    by_payment (λ what. (cells : List Cell) × HoldsPaid (record { key = f.key; what = what } ∷ past) cells) f.key
    (pays (paid_cells past)) (same (paid_cells past)) f.what
  where
    pays : (cells : List Cell) × HoldsPaid past cells → (a : Amount) → (cells : List Cell) × HoldsPaid (record { key = f.key; what = Pay a } ∷ past) cells
    pays (cells, holds) a = let m = with_cell (cell_of f.key a) cells holds.once in (m.0, record { once = m.1; each = λ c pos. go m.0 m.2 m.3 c (is_cell c (cell_of f.key a)) refl pos })
      where
        go : (more : List Cell) → Contains more (cell_of f.key a) → ((d : Cell) → Contains cells d → Contains more d) → (c : Cell) (b : Bool) → is_cell c (cell_of f.key a) ≡ b →
            0 < cond (is_cell c (cell_of f.key a)) a.cents 0 + paid past (is_cell c) → Contains more c
        go more own all c true e pos = subst (Contains more) (same_cell c (cell_of f.key a) e) own
        go more own all c false e pos =
            let old : 0 < cond false a.cents 0 + paid past (is_cell c) = subst (λ (b : Bool). 0 < cond b a.cents 0 + paid past (is_cell c)) e pos in
            all c (holds.each c (omega arith))

    same : (cells : List Cell) × HoldsPaid past cells → (what : What) → payments_in f.key what ≡ [] → (cells : List Cell) × HoldsPaid (record { key = f.key; what = what } ∷ past) cells
    same (cells, holds) what e = (cells, record { once = holds.once; each = λ c pos. holds.each c (subst (λ (ms : List Move). 0 < onto (is_cell c) ms (paid past (is_cell c))) e pos) })
