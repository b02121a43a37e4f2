-- The list of items in order rises strictly, has exactly these items, and is the only such list.
use Rattle.std.proofs.Common.{◌≡◌, ◌+◌, ◌≤◌, length, refl, sym, ap, ◌∙◌, Bool, true, false, List, [], ◌∷◌, arith}
use Rattle.std.specs.Prelude.{◌||◌, cond}
use Rattle.std.specs.BTreeSet.{BTreeSet}
use Rattle.std.specs.List.{AllByRecursion, dedup, dedup_from, list_any}
use Rattle.std.specs.List.Sorted.{IsPermutation, IsSorted, IsStrictlySortedBy}
use Rattle.std.specs.Cmp.{IsTotalOrder}
use Rattle.std.specs.Ordering.{eq_by_cmp, is_eq, ordering_reverse}
use Rattle.std.specs.declared.cmp.Ordering.{Ordering}
use Rattle.std.specs.declared.cmp.Ordering.TheVariants.{Less, Equal, Greater}
use Rattle.std.proofs.lemmas.Cmp.{alike_right}
use Rattle.std.proofs.lemmas.List.Kept.{IsStrictlySortedBy-dedup}
use Rattle.std.proofs.lemmas.List.Sorted.{list_any-IsPermutation}
use Rattle.std.proofs.lemmas.Map.Lookups.{CmpEqualImpliesEq, btree_set_from_contains}
use Rattle.office_export.specs.InOrder.{in_order, placed, placed_by}

-- whether a list has an item that the order doesn't tell from k
abbrev pub has : {K : Type 0} → (K → K → Ordering) → K → List K → Bool
has cmp k xs = list_any (eq_by_cmp cmp k) xs

-- of three tests, the first two change places; one that passes again changes nothing
swapped : (a b c : Bool) → (a || (b || c)) ≡ (b || (a || c))
swapped true true c = refl
swapped true false c = refl
swapped false b c = refl

again : (a b c : Bool) → a ≡ b → (b || c) ≡ (a || (b || c))
again true b c e = ap (λ x. x || c) (sym e)
again false b c e = refl

again_behind : (a b c : Bool) → a ≡ b → (a || c) ≡ (a || (b || c))
again_behind true b c e = refl
again_behind false b c e = ap (λ x. x || c) e

module _ {K : Type 0} {R : K → K → Ordering} (o : IsTotalOrder R) where
  -- what is below an item is below all that follow it
  below : (k x : K) (xs : List K) → R k x ≡ Less → AllByRecursion (λ y. R x y ≡ Less) xs → AllByRecursion (λ y. R k y ≡ Less) xs
  below k x [] less all = tt
  below k x (y ∷ ys) less all = (o.trans k x y less all.0, below k x ys less all.1)

  -- an item in its place is above whatever is below it and the others
  above : (q k : K) (xs : List K) → R q k ≡ Less → AllByRecursion (λ y. R q y ≡ Less) xs → AllByRecursion (λ y. R q y ≡ Less) (placed R k xs)
  above q k [] less all = (less, tt)
  above q k (x ∷ xs) less all = go (R k x) (above q k xs less all.1)
    where
      go : (r : Ordering) → AllByRecursion (λ y. R q y ≡ Less) (placed R k xs) → AllByRecursion (λ y. R q y ≡ Less) (placed_by r k x xs (placed R k xs))
      go Less later = (less, all)
      go Equal later = all
      go Greater later = (all.0, later)

  -- where k is above x, x is below k
  turned : (k x : K) → R k x ≡ Greater → R x k ≡ Less
  turned k x e = o.antisymm x k ∙ ap ordering_reverse e

  placed_rises : (k : K) (xs : List K) → IsStrictlySortedBy R xs → IsStrictlySortedBy R (placed R k xs)
  unfolding IsStrictlySortedBy
  placed_rises k [] up = (tt, tt)
  placed_rises k (x ∷ xs) up = go (R k x) refl (placed_rises k xs up.1)
    where
      go : (r : Ordering) → R k x ≡ r → IsStrictlySortedBy R (placed R k xs) → IsStrictlySortedBy R (placed_by r k x xs (placed R k xs))
      go Less e later = ((e, below k x xs e up.0), (up.0, up.1))
      go Equal e later = up
      go Greater e later = (above x k xs (turned k x e) up.0, later)

  pub rises : (ks : List K) → IsStrictlySortedBy R (in_order R ks)
  unfolding IsStrictlySortedBy
  rises [] = tt
  rises (k ∷ ks) = placed_rises k (in_order R ks) (rises ks)

  placed_has : (q k : K) (xs : List K) → has R q (placed R k xs) ≡ (eq_by_cmp R q k || has R q xs)
  placed_has q k [] = refl
  placed_has q k (x ∷ xs) = go (R k x) refl (placed_has q k xs)
    where
      go : (r : Ordering) → R k x ≡ r → has R q (placed R k xs) ≡ (eq_by_cmp R q k || has R q xs)
          → has R q (placed_by r k x xs (placed R k xs)) ≡ (eq_by_cmp R q k || (eq_by_cmp R q x || has R q xs))
      go Less e later = refl
      go Equal e later = again (eq_by_cmp R q k) (eq_by_cmp R q x) (has R q xs) (ap is_eq (alike_right o k x q e))
      go Greater e later = ap (λ b. eq_by_cmp R q x || b) later ∙ swapped (eq_by_cmp R q x) (eq_by_cmp R q k) (has R q xs)

  pub holds : (q : K) (ks : List K) → has R q (in_order R ks) ≡ has R q ks
  holds q [] = refl
  holds q (k ∷ ks) = placed_has q k (in_order R ks) ∙ ap (λ b. eq_by_cmp R q k || b) (holds q ks)

  -- what `dedup` leaves has the same items
  module _ (E : K → K → Bool) (ties : (x y : K) → E x y ≡ eq_by_cmp R x y) where
    kept_from : (q k : K) (xs : List K) → has R q (dedup_from E k xs) ≡ (eq_by_cmp R q k || has R q xs)
    kept_from q k [] = refl
    kept_from q k (x ∷ xs) = go (E x k) refl (kept_from q k xs) (kept_from q x xs)
      where
        -- an item that comes again is one that is there
        same : (r : Ordering) → R x k ≡ r → is_eq r ≡ true → (eq_by_cmp R q k || has R q xs) ≡ (eq_by_cmp R q k || (eq_by_cmp R q x || has R q xs))
        same Less h t = absurd (cc (t))
        same Equal h t = again_behind (eq_by_cmp R q k) (eq_by_cmp R q x) (has R q xs) (sym (ap is_eq (alike_right o x k q h)))
        same Greater h t = absurd (cc (t))

        go : (b : Bool) → E x k ≡ b → has R q (dedup_from E k xs) ≡ (eq_by_cmp R q k || has R q xs) → has R q (dedup_from E x xs) ≡ (eq_by_cmp R q x || has R q xs)
            → has R q (cond b (dedup_from E k xs) (k ∷ dedup_from E x xs)) ≡ (eq_by_cmp R q k || (eq_by_cmp R q x || has R q xs))
        go true e later next = later ∙ same (R x k) refl (sym (ties x k) ∙ e)
        go false e later next = ap (λ b. eq_by_cmp R q k || b) next

    kept : (q : K) (xs : List K) → has R q (dedup E xs) ≡ has R q xs
    kept q [] = refl
    kept q (x ∷ xs) = kept_from q x xs

    -- items sorted and without those that come again are the items in order
    pub sorted : CmpEqualImpliesEq R → (xs ys zs : List K) → IsPermutation xs ys → IsSorted R ys → zs ≡ dedup E ys → zs ≡ in_order R xs
    sorted exact xs ys zs moved up is =
        let one : BTreeSet K = record { keys = dedup E ys } in
        let other : BTreeSet K = record { keys = in_order R xs } in
        is ∙ btree_set_from_contains o one other (IsStrictlySortedBy-dedup o ties ys up) (rises xs)
        (λ q. kept q ys ∙ sym (list_any-IsPermutation (eq_by_cmp R q) xs ys moved) ∙ sym (holds q xs)) exact

-- there are no more than there were
length-placed : {K : Type 0} (R : K → K → Ordering) (k : K) (xs : List K) → length (placed R k xs) ≤ length xs + 1
length-placed R k [] = omega arith
length-placed R k (x ∷ xs) = go (R k x) (length-placed R k xs)
  where
    go : (r : Ordering) → length (placed R k xs) ≤ length xs + 1 → length (placed_by r k x xs (placed R k xs)) ≤ length (x ∷ xs) + 1
    go Less few = omega (arith, few)
    go Equal few = omega (arith, few)
    go Greater few = omega (arith, few)

pub length-in_order : {K : Type 0} (R : K → K → Ordering) (ks : List K) → length (in_order R ks) ≤ length ks
length-in_order R [] = omega arith
length-in_order R (k ∷ ks) = omega (arith, length-placed R k (in_order R ks), length-in_order R ks)
