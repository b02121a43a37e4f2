-- The order of withdrawals by the days on which their returns are due.
use Rattle.std.proofs.Common.{◌≡◌, List, true, refl, sym, ap, ◌∙◌, inl, inr}
use Rattle.std.specs.Prelude.{◌&&◌, ◌==◌, ◌↔◌}
use Rattle.std.specs.List.{Contains}
use Rattle.std.specs.Cmp.{IsTotalOrder, unsigned_ties}
use Rattle.std.specs.Ordering.{eq_by_cmp, is_eq, nat_cmp, ordering_then}
use Rattle.std.specs.declared.cmp.Ordering.{Ordering}
use Rattle.std.specs.declared.cmp.Ordering.TheVariants.{Less, Equal, Greater}
use Rattle.std.proofs.lemmas.Cmp.{eq_by_cmp_equiv, nat_cmp_total, on_total, then_total}
use Rattle.std.proofs.lemmas.Map.Lookups.{CmpEqualImpliesEq, exact_unsigned}
use Rattle.std.proofs.lemmas.Map.Views.{Contains-from_any, list_any-from_Contains}
use Rattle.office_export.specs.InOrder.{in_order}
use Rattle.office_export.proofs.Exactly.{number_less, number_same}
use Rattle.office_export.proofs.InOrder.{holds}
use Rattle.sheet_returns.specs.Before.{IsDueBefore}
use Rattle.sheet_returns.specs.Withdrawals.{due_order}
use Rattle.sheet_returns.specs.declared.rows.Withdrawn.{Withdrawn}

pub due_order_total : IsTotalOrder due_order
due_order_total = then_total (on_total (λ (p : Withdrawn). p.determined) nat_cmp_total) (on_total (λ (p : Withdrawn). p.position) nat_cmp_total)

-- both are equal
first : (a b : Ordering) → ordering_then a b ≡ Equal → a ≡ Equal
first Less b e = e
first Equal b e = refl
first Greater b e = e

second : (a b : Ordering) → ordering_then a b ≡ Equal → b ≡ Equal
second Less b e = absurd (cc (e))
second Equal b e = e
second Greater b e = absurd (cc (e))

-- withdrawals that tie are the same
pub due_exact : CmpEqualImpliesEq due_order
due_exact p q e =
    let days = nat_cmp p.determined q.determined in
    let places = nat_cmp p.position q.position in
    let determined = exact_unsigned p.determined q.determined (first days places e) in
    let position = exact_unsigned p.position q.position (second days places e) in
    λ i. record { determined = determined i; position = position i }

-- `==` tells them apart as the order does
pub due_ties : (p q : Withdrawn) → (p.determined == q.determined && p.position == q.position) ≡ eq_by_cmp due_order p q
due_ties p q =
    ap (λ b. b && p.position == q.position) (unsigned_ties p.determined q.determined)
    ∙ ap (λ b. is_eq days && b) (unsigned_ties p.position q.position) ∙ two days places
  where
    days : Ordering
    days = nat_cmp p.determined q.determined

    places : Ordering
    places = nat_cmp p.position q.position

    two : (a b : Ordering) → (is_eq a && is_eq b) ≡ is_eq (ordering_then a b)
    two Less b = refl
    two Equal Less = refl
    two Equal Equal = refl
    two Equal Greater = refl
    two Greater b = refl

-- the order means what it says
pub due_before : (p q : Withdrawn) → due_order p q ≡ Less → IsDueBefore p q
due_before p q e = go (nat_cmp p.determined q.determined) refl e
  where
    go : (a : Ordering) → nat_cmp p.determined q.determined ≡ a → ordering_then a (nat_cmp p.position q.position) ≡ Less → IsDueBefore p q
    go Less is e = inl (number_less p.determined q.determined is)
    go Equal is e = inr (number_same p.determined q.determined is, number_less p.position q.position e)
    go Greater is e = absurd cc

-- those that tie are the same
same_key : (p q : Withdrawn) → eq_by_cmp due_order p q ≡ true → p ≡ q
same_key p q e = go (due_order p q) refl e
  where
    go : (r : Ordering) → due_order p q ≡ r → is_eq r ≡ true → p ≡ q
    go Equal is t = due_exact p q is
    go Less is t = absurd cc
    go Greater is t = absurd cc

-- the list in order has the same withdrawals
pub same_ones : (at : Withdrawn) (list : List Withdrawn) → Contains (in_order due_order list) at ↔ Contains list at
same_ones at list = (
  λ h. Contains-from_any same_key at list (sym (holds due_order_total at list) ∙ list_any-from_Contains (eq_by_cmp_equiv due_order_total) at (in_order due_order list) h),
  λ h. Contains-from_any same_key at (in_order due_order list) (holds due_order_total at list ∙ list_any-from_Contains (eq_by_cmp_equiv due_order_total) at list h),
)
