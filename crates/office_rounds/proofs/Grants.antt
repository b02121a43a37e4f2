-- The net of a fund's cells is the sum of the nets of the students whom it paid.
use Rattle.std.proofs.Common.{◌≡◌, ◌≢◌, ℕ, ◌+◌, ◌<◌, refl, sym, subst, ap, ◌∙◌, arith, cond, Bool, true, false, not, ◌⊎◌, inl, inr, List, [], ◌∷◌, ◌++◌, length, map, take, reverse, get_or, Some, None, eqb-true, eq-eqb, append-nil}
use Rattle.std.specs.Prelude.{◌==◌}
use Rattle.std.specs.List.{All, AllByRecursion, AllPairs, Contains, filter, sum_by}
use Rattle.std.specs.List.Sorted.{IsStrictlySortedBy}
use Rattle.std.specs.Ordering.{nat_cmp}
use Rattle.std.proofs.lemmas.Bool.{and_parts}
use Rattle.std.specs.declared.cmp.Ordering.TheVariants.{Less}
use Rattle.std.proofs.lemmas.Cmp.{nat_cmp_total}
use Rattle.std.proofs.lemmas.List.Elements.{All-cons, All-weaker, Contains-append_left, Contains-append_right, Contains-push, filter-append, filter_passes}
use Rattle.std.proofs.lemmas.List.Kept.{AllPairs-cons, AllPairs-filter}
use Rattle.std.proofs.lemmas.List.Sums.{sum_by-cons}
use Rattle.std.proofs.lemmas.Map.Keys.{sorted_head, sorted_tail}
use Rattle.aid_filings.specs.declared.filing.Amount.{Amount}
use Rattle.aid_filings.specs.declared.filing.Filing.{Filing}
use Rattle.aid_filings.specs.declared.filing.What.TheVariants.{Pay}
use Rattle.office_history.specs.Answer.{IsLegal}
use Rattle.office_history.specs.Least.{HoldsPaid}
use Rattle.office_history.specs.Net.{Cell, Move, cell_of, is_cell, net, net_at, onto, paid, payments_in}
use Rattle.office_history.specs.Past.{given}
use Rattle.office_history.proofs.Among.{among_cases, among_head, among_rest, kept_among}
use Rattle.office_history.proofs.Cells.{same_cell}
use Rattle.office_history.proofs.CellSums.{coarse_net, paid_cells}
use Rattle.office_history.proofs.Slices.{one_more}
use Rattle.office_history.proofs.Steps.{by_payment}
use Rattle.office_rounds.specs.Candidates.{fund_cell}
use Rattle.office_rounds.specs.Fund.{granted_to, in_fund}
use Rattle.office_rounds.specs.declared.request.RoundRequest.{RoundRequest}
use Rattle.office_rounds.proofs.OneList.{apart}
use Rattle.office_rounds.proofs.Originations.{some_same}

-- the cells of students
abbrev pub cells_of : RoundRequest → List ℕ → List Cell
cells_of r students = map (fund_cell r) students

-- a student's cell is one of the fund
own_cell : (r : RoundRequest) (student : ℕ) → in_fund r (fund_cell r student) ≡ true
own_cell r student = rw (eq-eqb r.school r.school refl, eq-eqb r.year r.year refl, eq-eqb r.term r.term refl) refl

-- and each cell of the fund is a student's
is_own : (r : RoundRequest) (c : Cell) → in_fund r c ≡ true → c ≡ fund_cell r c.student
is_own r c h =
    let p = and_parts (c.school == r.school) _ h in
    let q = and_parts (c.year == r.year) _ p.1 in
    let s = and_parts (c.term == r.term) (c.program == 4) q.1 in
    let school = eqb-true c.school r.school p.0 in
    let year = eqb-true c.year r.year q.0 in
    let term = eqb-true c.term r.term s.0 in
    let program = eqb-true c.program 4 s.1 in
    λ i. record { student = c.student; school = school i; year = year i; term = term i; program = program i }

-- the students' cells all pass, and add up to the nets of the students
all_own : (r : RoundRequest) (students : List ℕ) → filter (in_fund r) (cells_of r students) ≡ cells_of r students
all_own r [] = refl
all_own r (s ∷ ss) = rw (own_cell r s) (ap (λ (cs : List Cell). fund_cell r s ∷ cs) (all_own r ss))

no_others : (r : RoundRequest) (cells : List Cell) → filter (in_fund r) (filter (λ c. not (in_fund r c)) cells) ≡ []
no_others r [] = refl
no_others r (c ∷ cs) = go (in_fund r c) refl (no_others r cs)
  where
    go : (b : Bool) → in_fund r c ≡ b → filter (in_fund r) (filter (λ d. not (in_fund r d)) cs) ≡ []
        → filter (in_fund r) (cond (not b) (c ∷ filter (λ d. not (in_fund r d)) cs) (filter (λ d. not (in_fund r d)) cs)) ≡ []
    go true e rest = rest
    go false e rest = rw e rest

sum_of_cells : (past : List Filing) (r : RoundRequest) (students : List ℕ) → sum_by (net_at past) (cells_of r students) ≡ sum_by (λ s. net_at past (fund_cell r s)) students
sum_of_cells past r [] = refl
sum_of_cells past r (s ∷ ss) =
    sum_by-cons (net_at past) (fund_cell r s) (cells_of r ss) ∙ ap (λ n. net_at past (fund_cell r s) + n) (sum_of_cells past r ss)
    ∙ sym (sum_by-cons (λ t. net_at past (fund_cell r t)) s ss)

-- ---- a list of all cells at which anything was paid, that begins with the students' cells
no_student : (r : RoundRequest) (s : ℕ) (c : Cell) → not (in_fund r c) ≡ true → fund_cell r s ≢ c
no_student r s c out same = let own : in_fund r c ≡ true = ap (in_fund r) (sym same) ∙ own_cell r s in absurd (cc)

differ : (r : RoundRequest) (s t : ℕ) → nat_cmp s t ≡ Less → fund_cell r s ≢ fund_cell r t
differ r s t less same =
    let e : s ≡ t = ap (λ (c : Cell). c.student) same in
    apart nat_cmp_total s t less (subst (λ n. nat_cmp n s ≡ Less) e (subst (λ n. nat_cmp s n ≡ Less) (sym e) less))

apart_from : (r : RoundRequest) (rest : List Cell) → All (λ c. not (in_fund r c) ≡ true) rest → (s : ℕ) (ss : List ℕ) → AllByRecursion (λ t. nat_cmp s t ≡ Less) ss
    → All (λ c. fund_cell r s ≢ c) (cells_of r ss ++ rest)
apart_from r rest out s [] up = All-weaker (λ c. not (in_fund r c) ≡ true) (λ c. fund_cell r s ≢ c) (no_student r s) rest out
apart_from r rest out s (t ∷ ts) up =
    All-cons (λ c. fund_cell r s ≢ c) (fund_cell r t) (cells_of r ts ++ rest) (differ r s t up.0) (apart_from r rest out s ts up.1)

once : (r : RoundRequest) (rest : List Cell) → All (λ c. not (in_fund r c) ≡ true) rest → AllPairs (λ c d. c ≢ d) rest → (students : List ℕ) → IsStrictlySortedBy nat_cmp students
    → AllPairs (λ c d. c ≢ d) (cells_of r students ++ rest)
once r rest out pairs [] up = pairs
once r rest out pairs (s ∷ ss) up =
    AllPairs-cons (λ c d. c ≢ d) (fund_cell r s) (cells_of r ss ++ rest) (apart_from r rest out s ss (sorted_head nat_cmp s ss up))
    (once r rest out pairs ss (sorted_tail nat_cmp s ss up))

among_cells : (r : RoundRequest) (students : List ℕ) (s : ℕ) → Contains students s → Contains (cells_of r students) (fund_cell r s)
among_cells r [] s h = absurd (omega (arith, h.1))
among_cells r (t ∷ ts) s h = go (among_cases t ts s h) (among_cells r ts s)
  where
    go : (t ≡ s) ⊎ Contains ts s → (Contains ts s → Contains (cells_of r ts) (fund_cell r s)) → Contains (fund_cell r t ∷ cells_of r ts) (fund_cell r s)
    go (inl e) later = subst (λ n. Contains (fund_cell r t ∷ cells_of r ts) (fund_cell r n)) e (among_head (fund_cell r t) (cells_of r ts))
    go (inr k) later = among_rest (fund_cell r t) (cells_of r ts) (fund_cell r s) (later k)

-- the list has each student who was paid from the fund
abbrev pub HasPaid : List Filing → RoundRequest → List ℕ → Type 0
HasPaid past r students = (student : ℕ) → 0 < paid past (is_cell (fund_cell r student)) → Contains students student

holds : (past : List Filing) (r : RoundRequest) (students : List ℕ) (cells : List Cell) → IsStrictlySortedBy nat_cmp students → HasPaid past r students → HoldsPaid past cells
    → HoldsPaid past (cells_of r students ++ filter (λ c. not (in_fund r c)) cells)
holds past r students cells up has paid_at = record {
  once = once r rest (filter_passes (λ c. not (in_fund r c)) cells) (AllPairs-filter (λ c d. c ≢ d) (λ c. not (in_fund r c)) cells paid_at.once) students up;
  each = λ c some. go c some (in_fund r c) refl;
}
  where
    rest : List Cell
    rest = filter (λ c. not (in_fund r c)) cells

    go : (c : Cell) → 0 < paid past (is_cell c) → (b : Bool) → in_fund r c ≡ b → Contains (cells_of r students ++ rest) c
    go c some true e =
        let own = is_own r c e in
        let there = has c.student (subst (λ (d : Cell). 0 < paid past (is_cell d)) own some) in
        subst (Contains (cells_of r students ++ rest)) (sym own) (Contains-append_left (cells_of r students) rest (fund_cell r c.student) (among_cells r students c.student there))
    go c some false e =
        Contains-append_right (cells_of r students) rest c (kept_among (λ d. not (in_fund r d)) cells c (paid_at.each c some) (ap not e))

-- so the net of the fund is the sum of the students' nets
pub granted_sum : (past : List Filing) → IsLegal past → (r : RoundRequest) (students : List ℕ) → IsStrictlySortedBy nat_cmp students → HasPaid past r students
    → net past (in_fund r) ≡ sum_by (λ s. net_at past (fund_cell r s)) students
granted_sum past legal r students up has =
    let some = paid_cells past in
    let rest = filter (λ c. not (in_fund r c)) some.0 in
    let kept : filter (in_fund r) (cells_of r students ++ rest) ≡ cells_of r students =
    filter-append (in_fund r) (cells_of r students) rest
    ∙ (λ i. all_own r students i ++ no_others r some.0 i) ∙ append-nil (cells_of r students) in
    coarse_net past legal (cells_of r students ++ rest) (holds past r students some.0 up has some.1) (in_fund r)
    ∙ ap (sum_by (net_at past)) kept ∙ sum_of_cells past r students

-- ---- the students among the first filings
paid_then : (past : List Filing) (r : RoundRequest) (s : ℕ) (f : Filing) → 0 < paid (f ∷ past) (is_cell (fund_cell r s)) → (0 < paid past (is_cell (fund_cell r s))) ⊎ (granted_to r f.key f.what ≡ Some s)
paid_then past r s f =
    by_payment (λ what. 0 < onto (is_cell c) (payments_in f.key what) (paid past (is_cell c)) → (0 < paid past (is_cell c)) ⊎ (granted_to r f.key what ≡ Some s)) f.key
    (λ a h. pays a (is_cell c (cell_of f.key a)) refl h)
    (λ what none h. inl (subst (λ (ms : List Move). 0 < onto (is_cell c) ms (paid past (is_cell c))) none h)) f.what
  where
    c : Cell
    c = fund_cell r s

    pays : (a : Amount) (b : Bool) → is_cell c (cell_of f.key a) ≡ b → 0 < cond b a.cents 0 + paid past (is_cell c) → (0 < paid past (is_cell c)) ⊎ (granted_to r f.key (Pay a) ≡ Some s)
    pays a false e h = inl (omega arith)
    pays a true e h =
        let same : cell_of f.key a ≡ c = same_cell c (cell_of f.key a) e in
        let own : in_fund r (cell_of f.key a) ≡ true = ap (in_fund r) same ∙ own_cell r s in
        inr (ap (λ b. given b a.student) own ∙ ap (λ (d : Cell). Some d.student) same)

pub grants_start : (r : RoundRequest) (h : List Filing) (students : List ℕ) → HasPaid (reverse (take 0 h)) r students
grants_start r h students s some = absurd (omega arith)

pub grants_none : (r : RoundRequest) (h : List Filing) (i : ℕ) (f : Filing) (students after : List ℕ) → i < length h → f ≡ get_or h i f → granted_to r f.key f.what ≡ None
    → after ≡ students → HasPaid (reverse (take i h)) r students → HasPaid (reverse (take (i + 1) h)) r after
grants_none r h i f students after lt at none same has s some =
    subst (λ (l : List ℕ). Contains l s) (sym same)
    (go (paid_then (reverse (take i h)) r s f (subst (λ (past : List Filing). 0 < paid past (is_cell (fund_cell r s))) (one_more h i f lt at) some)))
  where
    go : (0 < paid (reverse (take i h)) (is_cell (fund_cell r s))) ⊎ (granted_to r f.key f.what ≡ Some s) → Contains students s
    go (inl old) = has s old
    go (inr new) = absurd (cc)

pub grants_one : (r : RoundRequest) (h : List Filing) (i : ℕ) (f : Filing) (students more : List ℕ) (t : ℕ) → i < length h → f ≡ get_or h i f → granted_to r f.key f.what ≡ Some t
    → more ≡ students ++ t ∷ [] → HasPaid (reverse (take i h)) r students → HasPaid (reverse (take (i + 1) h)) r more
grants_one r h i f students more t lt at told one has s some =
    subst (λ (l : List ℕ). Contains l s) (sym one)
    (go (paid_then (reverse (take i h)) r s f (subst (λ (past : List Filing). 0 < paid past (is_cell (fund_cell r s))) (one_more h i f lt at) some)))
  where
    go : (0 < paid (reverse (take i h)) (is_cell (fund_cell r s))) ⊎ (granted_to r f.key f.what ≡ Some s) → Contains (students ++ t ∷ []) s
    go (inl old) = Contains-append_left students (t ∷ []) s (has s old)
    go (inr new) = subst (Contains (students ++ t ∷ [])) (some_same t s (sym told ∙ new)) (Contains-push students t)
