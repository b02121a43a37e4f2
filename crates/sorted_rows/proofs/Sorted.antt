-- What the place of a key tells of the look-up, and what a write at that place does to it.
use Rattle.std.proofs.Common.{◌≡◌, ℕ, zero, suc, ◌+◌, ◌-◌, ◌<◌, ◌≤◌, Bool, true, false, cond, arith, refl, sym, ap, subst, ◌∙◌, List, [], ◌∷◌, length, Option, Some, None, IsSome, get_or, set, inl, inr}
use Rattle.std.specs.List.{slice_get, insert, AllByRecursion}
use Rattle.std.specs.List.Sorted.{IsStrictlySortedBy}
use Rattle.std.specs.Map.{keys_of, lookup, set_value}
use Rattle.std.specs.BTreeMap.{is_at}
use Rattle.std.specs.Cmp.{IsTotalOrder}
use Rattle.std.specs.Ordering.{ordering_reverse, is_eq}
use Rattle.std.specs.declared.cmp.Ordering.{Ordering}
use Rattle.std.specs.declared.cmp.Ordering.TheVariants.{Less, Equal, Greater}
use Rattle.std.proofs.lemmas.Bool.{cases_lt}
use Rattle.std.proofs.lemmas.Cmp.{eq_by_cmp_equiv, alike_right}
use Rattle.std.proofs.lemmas.Map.{lookup-insert, lookup-set_value, none_passes_from_lookup, keys-set_value}
use Rattle.std.proofs.lemmas.Map.Entries.{lookup_at_gap}
use Rattle.std.proofs.lemmas.Option.{slice_get-get_or, slice_get_within, none-some}
use Rattle.sorted_rows.specs.Places.{IsHere, IsGap, IsAfterSmaller, IsBeforeGreater}

pub some_same : {X : Type 0} (x y : X) → Some x ≡ Some y → x ≡ y
some_same x y e = cc

module _ {K V : Type 0} (test : K → Bool) where
  -- no row before the place passes
  abbrev pub NoneBefore : List (K × V) → ℕ → Type 0
  NoneBefore rows i = (j : ℕ) (e : K × V) → j < i → slice_get rows j ≡ Some e → test e.0 ≡ false

  none_before_tail : (x : K × V) (rows : List (K × V)) (i : ℕ) → NoneBefore (x ∷ rows) (suc i) → NoneBefore rows i
  none_before_tail x rows i none j e lt at = none (suc j) e (omega arith) at

  skip : (x : K × V) (rows : List (K × V)) (a b : Option V) → test x.0 ≡ false → b ≡ a → cond (test x.0) (Some x.1) b ≡ a
  skip x rows a b fails same = ap (λ t. cond t (Some x.1) b) fails ∙ same

  pub lookup_here : (rows : List (K × V)) (i : ℕ) (e : K × V) → slice_get rows i ≡ Some e → test e.0 ≡ true → NoneBefore rows i → lookup test rows ≡ Some e.1
  lookup_here [] i e at passes none = absurd (none-some e at)
  lookup_here (x ∷ rows) zero e at passes none =
      let same : x ≡ e = some_same x e at in
      ap (λ t. cond t (Some x.1) (lookup test rows)) (ap (λ (y : K × V). test y.0) same ∙ passes) ∙ ap (λ (y : K × V). Some y.1) same
  lookup_here (x ∷ rows) (suc i) e at passes none =
      skip x rows (Some e.1) (lookup test rows) (none 0 x (omega arith) refl) (lookup_here rows i e at passes (none_before_tail x rows i none))

  pub set_here : (rows : List (K × V)) (i : ℕ) (e : K × V) (w : V) → slice_get rows i ≡ Some e → test e.0 ≡ true → NoneBefore rows i → set rows i (e.0, w) ≡ set_value test rows w
  set_here [] i e w at passes none = absurd (none-some e at)
  set_here (x ∷ rows) zero e w at passes none =
      let same : x ≡ e = some_same x e at in
      ap (λ (y : K × V). (y.0, w) ∷ rows) (sym same) ∙ sym (ap (λ t. cond t ((x.0, w) ∷ rows) (x ∷ set_value test rows w)) (ap (λ (y : K × V). test y.0) same ∙ passes))
  set_here (x ∷ rows) (suc i) e w at passes none =
      ap (λ (ys : List (K × V)). x ∷ ys) (set_here rows i e w at passes (none_before_tail x rows i none))
      ∙ sym (ap (λ t. cond t ((x.0, w) ∷ rows) (x ∷ set_value test rows w)) (none 0 x (omega arith) refl))

module _ {K : Type 0} {R : K → K → Ordering} (o : IsTotalOrder R) where
  greater : (x y : K) → R x y ≡ Less → R y x ≡ Greater
  greater x y h = o.antisymm y x ∙ ap ordering_reverse h

  less : (x y : K) → R y x ≡ Greater → R x y ≡ Less
  less x y h = o.antisymm x y ∙ ap ordering_reverse h

  above : (k j : K) (ks : List K) → R k j ≡ Less → AllByRecursion (λ y. R j y ≡ Less) ks → AllByRecursion (λ y. R k y ≡ Less) ks
  above k j [] lt all = tt
  above k j (x ∷ ks) lt all = (o.trans k j x lt all.0, above k j ks lt all.1)

module _ {K V : Type 0} {R : K → K → Ordering} (o : IsTotalOrder R) where
  all_at : (P : K → Type 0) (rows : List (K × V)) (i : ℕ) (e : K × V) → AllByRecursion P (keys_of rows) → slice_get rows i ≡ Some e → P e.0
  all_at P [] i e all at = absurd (none-some e at)
  all_at P (x ∷ rows) zero e all at = subst (λ (y : K × V). P y.0) (some_same x e at) all.0
  all_at P (x ∷ rows) (suc i) e all at = all_at P rows i e all.1 at

  -- the keys rise from place to place
  pub rises : (rows : List (K × V)) (i j : ℕ) (e f : K × V) → IsStrictlySortedBy R (keys_of rows) → i < j → slice_get rows i ≡ Some e → slice_get rows j ≡ Some f → R e.0 f.0 ≡ Less
  unfolding IsStrictlySortedBy
  rises [] i j e f sorted lt at_i at_j = absurd (none-some e at_i)
  rises (x ∷ rows) i zero e f sorted lt at_i at_j = absurd (omega arith)
  rises (x ∷ rows) zero (suc j) e f sorted lt at_i at_j =
      subst (λ (y : K × V). R y.0 f.0 ≡ Less) (some_same x e at_i) (all_at (λ y. R x.0 y ≡ Less) rows j f sorted.0 at_j)
  rises (x ∷ rows) (suc i) (suc j) e f sorted lt at_i at_j = rises rows i j e f sorted.1 (omega arith) at_i at_j

  -- the rows before a gap have smaller keys
  pub all_before : (k : K) (rows : List (K × V)) (i : ℕ) → IsStrictlySortedBy R (keys_of rows) → i ≤ length rows → IsAfterSmaller R k rows i → (j : ℕ) (e : K × V) → j < i → slice_get rows j ≡ Some e → R k e.0 ≡ Greater
  all_before k rows i sorted within before j e lt at =
      elim (cases_lt (j + 1) i) [
        | inl below ↦
            let last : i - 1 < length rows = omega arith in
            let f = get_or rows (i - 1) e in
            let at_last : slice_get rows (i - 1) ≡ Some f = slice_get-get_or rows (i - 1) e last in
            greater o e.0 k (o.trans e.0 f.0 k (rises rows j (i - 1) e f sorted (omega arith) at at_last) (less o f.0 k (before (i - 1) f (omega arith) at_last)))
        | inr last ↦ before j e (omega arith) at
      ]

  -- no row before the one with the key has it
  pub none_before : (k : K) (rows : List (K × V)) (i : ℕ) (e : K × V) → IsStrictlySortedBy R (keys_of rows) → slice_get rows i ≡ Some e → R k e.0 ≡ Equal → NoneBefore (is_at (R k)) rows i
  none_before k rows i e sorted at same j f lt at_j =
      ap is_eq (greater o f.0 k (alike_right o k e.0 f.0 same ∙ rises rows j i f e sorted lt at_j at))

  pub found : (k : K) (rows : List (K × V)) (i : ℕ) (e : K × V) → IsStrictlySortedBy R (keys_of rows) → IsHere R k rows i → slice_get rows i ≡ Some e → Some e.1 ≡ lookup (is_at (R k)) rows
  found k rows i e sorted here at =
      sym (lookup_here (is_at (R k)) rows i e at (ap is_eq (here.same e at)) (none_before k rows i e sorted at (here.same e at)))

  pub missed : (k : K) (rows : List (K × V)) (i : ℕ) → IsStrictlySortedBy R (keys_of rows) → IsGap R k rows i → None ≡ lookup (is_at (R k)) rows
  missed k rows i sorted gap = sym (lookup_at_gap o k rows i sorted (all_before k rows i sorted gap.in_range gap.before) gap.after)

  -- what a search of a slice and the read of a row at its place tell of the rows of the slice
  pub here_read : (k : K) (slice rows : List (K × V)) (i : ℕ) (e : K × V) → slice ≡ rows → IsHere R k slice i → e ≡ get_or rows i e →
      IsHere R k rows i × (slice_get rows i ≡ Some e)
  here_read k slice rows i e same here read =
      let there : IsHere R k rows i = subst (λ (xs : List (K × V)). IsHere R k xs i) same here in
      (there, slice_get-get_or rows i e there.in_range ∙ ap (λ (y : K × V). Some y) (sym read))

  pub gap_in : (k : K) (slice rows : List (K × V)) (i : ℕ) → slice ≡ rows → IsGap R k slice i → IsGap R k rows i
  gap_in k slice rows i same gap = subst (λ (xs : List (K × V)). IsGap R k xs i) same gap

  -- behind all rows a key that comes after the last has its gap
  pub gap_last : (k : K) (rows : List (K × V)) → IsAfterSmaller R k rows (length rows) → IsGap R k rows (length rows)
  gap_last k rows last = record {
    in_range = omega arith;
    before = last;
    after = λ e at. let inside = slice_get_within rows (length rows) e at in absurd (omega arith);
  }

  -- a row written over
  pub set_same : (k : K) (rows : List (K × V)) (i : ℕ) (e : K × V) (w : V) → IsStrictlySortedBy R (keys_of rows) → IsHere R k rows i → slice_get rows i ≡ Some e → set rows i (e.0, w) ≡ set_value (is_at (R k)) rows w
  set_same k rows i e w sorted here at =
      set_here (is_at (R k)) rows i e w at (ap is_eq (here.same e at)) (none_before k rows i e sorted at (here.same e at))

  pub sorted-set : (k : K) (rows : List (K × V)) (i : ℕ) (e : K × V) (w : V) → IsStrictlySortedBy R (keys_of rows) → IsHere R k rows i → slice_get rows i ≡ Some e → IsStrictlySortedBy R (keys_of (set rows i (e.0, w)))
  sorted-set k rows i e w sorted here at =
      subst (IsStrictlySortedBy R) (sym (ap keys_of (set_same k rows i e w sorted here at) ∙ keys-set_value (is_at (R k)) rows w)) sorted

  pub some_is : (rows : List (K × V)) (test : K → Bool) (v : V) → Some v ≡ lookup test rows → IsSome (lookup test rows)
  some_is rows test v h = subst IsSome h refl

  pub lookup-set : (k : K) (rows : List (K × V)) (i : ℕ) (e : K × V) (w : V) (q : K) → IsStrictlySortedBy R (keys_of rows) → IsHere R k rows i → slice_get rows i ≡ Some e → lookup (is_at (R q)) (set rows i (e.0, w)) ≡ cond (is_eq (R k q)) (Some w) (lookup (is_at (R q)) rows)
  lookup-set k rows i e w q sorted here at =
      ap (lookup (is_at (R q))) (set_same k rows i e w sorted here at)
      ∙ lookup-set_value (eq_by_cmp_equiv o) (is_at (R k)) (λ x y same. (eq_by_cmp_equiv o).congr k x y same) q w rows (some_is rows (is_at (R k)) e.1 (found k rows i e sorted here at))

  -- a row put into the gap
  pub lookup-put : (k : K) (rows : List (K × V)) (i : ℕ) (w : V) (q : K) → IsStrictlySortedBy R (keys_of rows) → IsGap R k rows i → lookup (is_at (R q)) (insert rows i (k, w)) ≡ cond (is_eq (R k q)) (Some w) (lookup (is_at (R q)) rows)
  lookup-put k rows i w q sorted gap =
      lookup-insert (eq_by_cmp_equiv o) k w q rows i (none_passes_from_lookup (is_at (R k)) rows (sym (missed k rows i sorted gap)))

  all-insert : (P : K → Type 0) (rows : List (K × V)) (i : ℕ) (k : K) (w : V) → AllByRecursion P (keys_of rows) → P k → AllByRecursion P (keys_of (insert rows i (k, w)))
  all-insert P rows zero k w all here = (here, all)
  all-insert P [] (suc i) k w all here = (here, tt)
  all-insert P (x ∷ rows) (suc i) k w all here = (all.0, all-insert P rows i k w all.1 here)

  below_all : (k : K) (rows : List (K × V)) → IsStrictlySortedBy R (keys_of rows) → IsBeforeGreater R k rows 0 → AllByRecursion (λ y. R k y ≡ Less) (keys_of rows)
  unfolding IsStrictlySortedBy
  below_all k [] sorted after = tt
  below_all k (x ∷ rows) sorted after = (after x refl, above o k x.0 (keys_of rows) (after x refl) sorted.0)

  put_between : (k : K) (rows : List (K × V)) (i : ℕ) (w : V) → IsStrictlySortedBy R (keys_of rows) → i ≤ length rows → ((j : ℕ) (e : K × V) → j < i → slice_get rows j ≡ Some e → R k e.0 ≡ Greater) → IsBeforeGreater R k rows i → IsStrictlySortedBy R (keys_of (insert rows i (k, w)))
  unfolding IsStrictlySortedBy
  put_between k rows zero w sorted within before after = (below_all k rows sorted after, sorted)
  put_between k [] (suc i) w sorted within before after = absurd (omega arith)
  put_between k (x ∷ rows) (suc i) w sorted within before after = (
    all-insert (λ y. R x.0 y ≡ Less) rows i k w sorted.0 (less o x.0 k (before 0 x (omega arith) refl)),
    put_between k rows i w sorted.1 (omega arith) (λ j e lt at. before (suc j) e (omega arith) at) after,
  )

  pub sorted-put : (k : K) (rows : List (K × V)) (i : ℕ) (w : V) → IsStrictlySortedBy R (keys_of rows) → IsGap R k rows i → IsStrictlySortedBy R (keys_of (insert rows i (k, w)))
  sorted-put k rows i w sorted gap = put_between k rows i w sorted gap.in_range (all_before k rows i sorted gap.in_range gap.before) gap.after
