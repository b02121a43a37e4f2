-- Candidates in the order of awards.
use Rattle.std.proofs.Common.{◌≡◌, ℕ, zero, suc, ◌+◌, ◌<◌, refl, sym, ap, ◌∙◌, arith, add-one, subst, Bool, true, false, ◌&&◌, ◌||◌, List, [], ◌∷◌, length, cond, get_or}
use Rattle.std.specs.Prelude.{nat_lt, int_lt, ◌==◌}
use Rattle.std.specs.Cmp.{IsEquivalence, IsTotalOrder, unsigned_ties}
use Rattle.std.specs.List.{AllByRecursion}
use Rattle.std.specs.List.Sorted.{IsStrictlySortedBy}
use Rattle.std.specs.Ordering.{eq_by_cmp, int_cmp, int_eq, is_eq, nat_cmp, ordering_then}
use Rattle.std.specs.declared.cmp.Ordering.{Ordering}
use Rattle.std.specs.declared.cmp.Ordering.TheVariants.{Less, Equal, Greater}
use Rattle.std.proofs.lemmas.Cmp.{and_equiv, int_cmp_total, int_eq_equiv, nat_cmp_total, nat_eq_equiv, on_equiv, on_total, then_total}
use Rattle.law_funds.specs.Order.{IsInOrder, comes_before}
use Rattle.law_funds.specs.declared.candidate.Candidate.{Candidate}
use Rattle.office_rounds.specs.Candidates.{is_alike}

abbrev pub award_order : Candidate → Candidate → Ordering
award_order c d = ordering_then (int_cmp c.sai d.sai) (nat_cmp c.student d.student)

pub award_order_total : IsTotalOrder award_order
award_order_total = then_total (on_total (λ (c : Candidate). c.sai) int_cmp_total) (on_total (λ (c : Candidate). c.student) nat_cmp_total)

-- what the order doesn't tell apart is alike
pub alike_ties : (c d : Candidate) → is_alike c d ≡ eq_by_cmp award_order c d
alike_ties c d = ap (λ b. int_eq c.sai d.sai && b) (unsigned_ties c.student d.student) ∙ two (int_cmp c.sai d.sai) (nat_cmp c.student d.student)
  where
    two : (a b : Ordering) → (is_eq a && is_eq b) ≡ is_eq (ordering_then a b)
    two Less b = refl
    two Equal Less = refl
    two Equal Equal = refl
    two Equal Greater = refl
    two Greater b = refl

pub alike_equiv : IsEquivalence is_alike
alike_equiv = and_equiv (on_equiv (λ (c : Candidate). c.sai) int_eq_equiv) (on_equiv (λ (c : Candidate). c.student) nat_eq_equiv)

-- one comes before another exactly where the order says so
comes : (a b c d : Bool) → ordering_then (cond a Less (cond b Greater Equal)) (cond c Less (cond d Equal Greater)) ≡ Less
    → (a || (is_eq (cond a Less (cond b Greater Equal)) && c)) ≡ true
comes true b c d h = refl
comes false true c d h = cc
comes false false true d h = refl
comes false false false true h = cc
comes false false false false h = cc

stands : (a b c d : Bool) → (a || (is_eq (cond a Less (cond b Greater Equal)) && c)) ≡ true
    → ordering_then (cond a Less (cond b Greater Equal)) (cond c Less (cond d Equal Greater)) ≡ Less
stands true b c d h = refl
stands false true c d h = cc
stands false false true d h = refl
stands false false false d h = cc

less_comes : (c d : Candidate) → award_order c d ≡ Less → comes_before c d ≡ true
less_comes c d = comes (int_lt c.sai d.sai) (int_lt d.sai c.sai) (nat_lt c.student d.student) (c.student == d.student)

comes_less : (c d : Candidate) → comes_before c d ≡ true → award_order c d ≡ Less
comes_less c d = stands (int_lt c.sai d.sai) (int_lt d.sai c.sai) (nat_lt c.student d.student) (c.student == d.student)

-- a list that rises strictly is in the order of awards
pub in_order : (cs : List Candidate) → IsStrictlySortedBy award_order cs → IsInOrder cs
unfolding IsStrictlySortedBy
in_order [] up = λ k none lt. absurd (omega arith)
in_order (c ∷ []) up = λ k none lt. absurd (omega arith)
in_order (c ∷ d ∷ cs) up = λ k none lt. go k none lt (in_order (d ∷ cs) up.1)
  where
    go : (k : ℕ) (none : Candidate) → k + 1 < length (c ∷ d ∷ cs) → IsInOrder (d ∷ cs) → comes_before (get_or (c ∷ d ∷ cs) k none) (get_or (c ∷ d ∷ cs) (k + 1) none) ≡ true
    go zero none lt later = less_comes c d up.0.0
    go (suc k) none lt later =
        rw (add-one (suc k)) (subst (λ m. comes_before (get_or (d ∷ cs) k none) (get_or (d ∷ cs) m none) ≡ true) (add-one k) (later k none (omega arith)))

-- what is below an item is below all that follow it
below : (c d : Candidate) (cs : List Candidate) → award_order c d ≡ Less → AllByRecursion (λ e. award_order d e ≡ Less) cs → AllByRecursion (λ e. award_order c e ≡ Less) cs
below c d [] less all = tt
below c d (e ∷ cs) less all = (award_order_total.trans c d e less all.0, below c d cs less all.1)

-- and a list in the order of awards rises strictly
pub rises : (cs : List Candidate) → IsInOrder cs → IsStrictlySortedBy award_order cs
unfolding IsStrictlySortedBy
rises [] order = tt
rises (c ∷ []) order = (tt, tt)
rises (c ∷ d ∷ cs) order =
    let less : award_order c d ≡ Less = comes_less c d (order 0 c (omega arith)) in
    let up = rises (d ∷ cs) (λ k none lt. next k none (order (suc k) none (omega arith))) in
    ((less, below c d cs less up.0), up)
  where
    next : (k : ℕ) (none : Candidate) → comes_before (get_or (c ∷ d ∷ cs) (suc k) none) (get_or (c ∷ d ∷ cs) (suc k + 1) none) ≡ true
        → comes_before (get_or (d ∷ cs) k none) (get_or (d ∷ cs) (k + 1) none) ≡ true
    next k none h =
        subst (λ m. comes_before (get_or (d ∷ cs) k none) (get_or (d ∷ cs) m none) ≡ true) (sym (add-one k))
        (subst (λ m. comes_before (get_or (d ∷ cs) k none) (get_or (c ∷ d ∷ cs) m none) ≡ true) (add-one (suc k)) h)
