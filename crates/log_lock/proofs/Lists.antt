-- Lists: what they have at a place, their older parts, what they contain, and permutations of what all views have.
use Rattle.std.proofs.Common.{◌≡◌, ◌≢◌, ℕ, zero, suc, ◌+◌, ◌<◌, ◌≤◌, List, [], ◌∷◌, ◌++◌, Some, None, length, set, get_or, refl, sym, ap, ap₂, ◌∙◌, append_assoc, subst, arith, length-append}
use Rattle.std.specs.Prelude.{Contains, IsPermutation}
use Rattle.std.specs.List.{sum_by, flat_map}
use Rattle.std.proofs.lemmas.List.Sums.{sum_by-set, sum_by-cons}
use Rattle.std.proofs.lemmas.List.Sorted.{IsPermutation-refl, IsPermutation-sym, IsPermutation-trans, IsPermutation-append_comm, IsPermutation-append_left, IsPermutation-append_right}
use mathlib.Core.Option.{some, some-injective, some-ne-none}
use lib.ListN.{get_elem?}
use Rattle.atomic_table.specs.Table.{rest}
use Rattle.log_lock.specs.Passes.{IsOlder, numbered}

pub none_some : {A : Type 0} {a : A} → None ≡ Some a → ⊥
none_some e = cc

pub same_some : {A : Type 0} {a b : A} → Some a ≡ Some b → a ≡ b
same_some e = cc

pub got : {A : Type 0} (xs : List A) (i : ℕ) (a : A) → get_elem? xs i ≡ some a → (i < length xs) × (get_or xs i a ≡ a)
got [] i a e = absurd (some-ne-none a (sym e))
got (x ∷ xs) zero a e = (omega arith, some-injective x a e)
got (x ∷ xs) (suc i) a e = let h = got xs i a e in (omega (arith, h.0), h.1)

-- a seat that has one slot, as `exchange` asks
pub has_slot : {S : Type 0} (l : List (ℕ × S)) (y : S) → l ≡ (0, y) ∷ [] → (old : S) × (l ≡ (0, old) ∷ rest l)
has_slot l y e = (y, e ∙ ap (λ z. (0, y) ∷ z) (sym (ap rest e)))

abbrev first_value : {S : Type 0} → S → List (ℕ × S) → S
first_value d [] = d
first_value d (x ∷ xs) = x.1

-- and its value is the one
pub slot_same : {S : Type 0} (l r : List (ℕ × S)) (x y : S) → l ≡ (0, x) ∷ r → l ≡ (0, y) ∷ [] → x ≡ y
slot_same l r x y e f = ap (first_value x) (sym e ∙ f)

-- sums over a list in which one place changes, and what one place or two have of them
pub sum_set : {A : Type 0} (f : A → ℕ) (xs : List A) (i : ℕ) (a b : A) → get_elem? xs i ≡ some a → sum_by f (set xs i b) + f a ≡ sum_by f xs + f b
sum_set f xs i a b at = let g = got xs i a at in omega (arith, sum_by-set f xs i b a g.0, ap f g.1)

one_below : {A : Type 0} (f : A → ℕ) (xs : List A) (i : ℕ) (a : A) → get_elem? xs i ≡ some a → f a ≤ sum_by f xs
one_below f [] i a e = absurd (some-ne-none a (sym e))
one_below f (x ∷ xs) zero a e = omega (arith, sum_by-cons f x xs, ap f (some-injective x a e))
one_below f (x ∷ xs) (suc i) a e = omega (arith, sum_by-cons f x xs, one_below f xs i a e)

pub two_below : {A : Type 0} (f : A → ℕ) (xs : List A) (i j : ℕ) (a b : A) → get_elem? xs i ≡ some a → get_elem? xs j ≡ some b → i ≢ j → f a + f b ≤ sum_by f xs
two_below f [] i j a b e g ne = absurd (some-ne-none a (sym e))
two_below f (x ∷ xs) zero zero a b e g ne = absurd (ne refl)
two_below f (x ∷ xs) zero (suc j) a b e g ne = omega (arith, sum_by-cons f x xs, ap f (some-injective x a e), one_below f xs j b g)
two_below f (x ∷ xs) (suc i) zero a b e g ne = omega (arith, sum_by-cons f x xs, ap f (some-injective x b g), one_below f xs i a e)
two_below f (x ∷ xs) (suc i) (suc j) a b e g ne = omega (arith, sum_by-cons f x xs, two_below f xs i j a b e g (λ s. ne (ap suc s)))

sum_zero : {A : Type 0} (f : A → ℕ) (xs : List A) → ((j : ℕ) (u : A) → get_elem? xs j ≡ some u → f u ≡ 0) → sum_by f xs ≡ 0
sum_zero f [] each = refl
sum_zero f (x ∷ xs) each = omega (arith, sum_by-cons f x xs, each 0 x refl, sum_zero f xs (λ j u at. each (suc j) u at))

-- a sum with one term
pub sum_alone : {A : Type 0} (f : A → ℕ) (xs : List A) (i : ℕ) (a : A) → get_elem? xs i ≡ some a → ((j : ℕ) (u : A) → get_elem? xs j ≡ some u → i ≢ j → f u ≡ 0) → sum_by f xs ≡ f a
sum_alone f [] i a at each = absurd (some-ne-none a (sym at))
sum_alone f (x ∷ xs) zero a at each = omega (arith, sum_by-cons f x xs, ap f (some-injective x a at), sum_zero f xs (λ j u at_j. each (suc j) u at_j (λ (e : 0 ≡ suc j). omega arith)))
sum_alone f (x ∷ xs) (suc i) a at each = omega (arith, sum_by-cons f x xs, each 0 x refl (λ (e : suc i ≡ 0). omega arith), sum_alone f xs i a at (λ j u at_j ne. each (suc j) u at_j (λ (e : suc i ≡ suc j). ne (omega arith))))

module _ {E : Type 0} where
  pub older_refl : (a : List E) → IsOlder a a
  older_refl a = ([], refl)

  pub older_nil : (a : List E) → IsOlder [] a
  older_nil a = (a, sym (append_nil a))
    where
      append_nil : (l : List E) → l ++ [] ≡ l
      append_nil [] = refl
      append_nil (x ∷ l) = ap (λ m. x ∷ m) (append_nil l)

  pub older_trans : (a b c : List E) → IsOlder a b → IsOlder b c → IsOlder a c
  older_trans a b c (r, e) (q, f) = (q ++ r, f ∙ (ap (λ l. q ++ l) e ∙ sym (append_assoc q r a)))

  pub older_length : (a b : List E) → IsOlder a b → length a ≤ length b
  older_length a b (r, e) = omega (arith, length-append r a, ap length e)

  -- of two older parts of one list the shorter is an older part of the longer
  pub older_both : (c a b : List E) → IsOlder a c → IsOlder b c → length a ≤ length b → IsOlder a b
  older_both c a b (r, e) ([], f) le = (r, sym f ∙ e)
  older_both c a b ([], e) (y ∷ t, f) le = absurd (let same : length a ≡ length c = ap length (sym e) in omega (arith, le, same, ap length f, length-append t b))
  older_both [] a b (x ∷ r, e) (y ∷ t, f) le = absurd cc
  older_both (z ∷ c) a b (x ∷ r, e) (y ∷ t, f) le =
      let one : c ≡ r ++ a = cc in
      let other : c ≡ t ++ b = cc in
      older_both c a b (r, one) (t, other) le

  pub numbered_append : (n : ℕ) (new added : List E) → numbered n (new ++ added) ≡ numbered (n + length added) new ++ numbered n added
  numbered_append n [] added = refl
  numbered_append n (x ∷ new) added =
      let place : n + length (new ++ added) + 1 ≡ n + length added + length new + 1 = omega (arith, length-append new added) in
      ap₂ (λ k l. (k, x) ∷ l) place (numbered_append n new added)

module _ {A : Type 0} where
  pub contains_one : (x a : A) → Contains (x ∷ []) a → x ≡ a
  contains_one x a (zero, lt, e) = e
  contains_one x a (suc k, lt, e) = absurd (omega (arith, lt))

  pub contains_none : (xs : List A) (a : A) → xs ≡ [] → Contains xs a → ⊥
  contains_none [] a e (k, lt, is) = omega (arith, lt)
  contains_none (x ∷ xs) a e has = cc

  pub contains_first : (x : A) (xs : List A) → Contains (x ∷ xs) x
  contains_first x xs = (0, omega arith, refl)

  -- two rows of two lists each, by columns
  pub by_columns : (a b c d : List A) → IsPermutation ((a ++ c) ++ (b ++ d)) ((a ++ b) ++ (c ++ d))
  by_columns a b c d =
      let left : (a ++ c) ++ (b ++ d) ≡ a ++ ((c ++ b) ++ d) = append_assoc a c (b ++ d) ∙ ap (λ l. a ++ l) (sym (append_assoc c b d)) in
      let right : a ++ ((b ++ c) ++ d) ≡ (a ++ b) ++ (c ++ d) = ap (λ l. a ++ l) (append_assoc b c d) ∙ sym (append_assoc a b (c ++ d)) in
      subst (λ l. IsPermutation l ((a ++ b) ++ (c ++ d))) (sym left) (subst (IsPermutation (a ++ ((c ++ b) ++ d))) right
      (IsPermutation-append_right a ((c ++ b) ++ d) ((b ++ c) ++ d) (IsPermutation-append_left d (c ++ b) (b ++ c) (IsPermutation-append_comm c b))))

-- what all views have, where one of them changes or two
module _ {V A : Type 0} (f : V → List A) where
  pub flat_set_same : (xs : List V) (i : ℕ) (v w : V) → get_elem? xs i ≡ some v → f w ≡ f v → flat_map f (set xs i w) ≡ flat_map f xs
  flat_set_same [] i v w at same = absurd (some-ne-none v (sym at))
  flat_set_same (x ∷ xs) zero v w at same = ap (λ l. l ++ flat_map f xs) (same ∙ ap f (sym (some-injective x v at)))
  flat_set_same (x ∷ xs) (suc i) v w at same = ap (λ l. f x ++ l) (flat_set_same xs i v w at same)

  behind : (x : V) (new l m : List A) → IsPermutation l (new ++ m) → IsPermutation (f x ++ l) (new ++ (f x ++ m))
  behind x new l m p =
      IsPermutation-trans (f x ++ l) (f x ++ (new ++ m)) (new ++ (f x ++ m)) (IsPermutation-append_right (f x) l (new ++ m) p)
      (subst (λ k. IsPermutation k (new ++ (f x ++ m))) (append_assoc (f x) new m) (subst (IsPermutation ((f x ++ new) ++ m)) (append_assoc new (f x) m)
      (IsPermutation-append_left m (f x ++ new) (new ++ f x) (IsPermutation-append_comm (f x) new))))

  -- one view has more
  pub flat_set_more : (xs : List V) (i : ℕ) (v w : V) (new : List A) → get_elem? xs i ≡ some v → IsPermutation (f w) (new ++ f v) → IsPermutation (flat_map f (set xs i w)) (new ++ flat_map f xs)
  flat_set_more [] i v w new at more = absurd (some-ne-none v (sym at))
  flat_set_more (x ∷ xs) zero v w new at more =
      subst (λ (u : V). IsPermutation (f w ++ flat_map f xs) (new ++ (f u ++ flat_map f xs))) (sym (some-injective x v at))
      (subst (IsPermutation (f w ++ flat_map f xs)) (append_assoc new (f v) (flat_map f xs)) (IsPermutation-append_left (flat_map f xs) (f w) (new ++ f v) more))
  flat_set_more (x ∷ xs) (suc i) v w new at more = behind x new (flat_map f (set xs i w)) (flat_map f xs) (flat_set_more xs i v w new at more)

  -- one view is emptied
  pub flat_set_none : (xs : List V) (i : ℕ) (v w : V) → get_elem? xs i ≡ some v → f w ≡ [] → IsPermutation (flat_map f xs) (f v ++ flat_map f (set xs i w))
  flat_set_none [] i v w at none = absurd (some-ne-none v (sym at))
  flat_set_none (x ∷ xs) zero v w at none =
      subst (λ l. IsPermutation (f x ++ flat_map f xs) l) (ap₂ (λ (u : V) l. f u ++ (l ++ flat_map f xs)) (some-injective x v at) (sym none)) (IsPermutation-refl (f x ++ flat_map f xs))
  flat_set_none (x ∷ xs) (suc i) v w at none = behind x (f v) (flat_map f xs) (flat_map f (set xs i w)) (flat_set_none xs i v w at none)

  -- one view takes all that another one has
  pub flat_join : (xs : List V) (i j : ℕ) (v w b r : V) → get_elem? xs i ≡ some v → get_elem? xs j ≡ some w → j ≢ i → IsPermutation (f b) (f w ++ f v) → f r ≡ [] → IsPermutation (flat_map f (set (set xs i b) j r)) (flat_map f xs)
  flat_join [] i j v w b r at at_j ne both none = absurd (some-ne-none v (sym at))
  flat_join (x ∷ xs) zero zero v w b r at at_j ne both none = absurd (ne refl)
  flat_join (x ∷ xs) zero (suc j) v w b r at at_j ne both none =
      let m : List A = flat_map f (set xs j r) in
      let x_is : x ≡ v = some-injective x v at in
      subst (λ (u : V). IsPermutation (f b ++ m) (f u ++ flat_map f xs)) (sym x_is)
      (IsPermutation-trans (f b ++ m) ((f v ++ f w) ++ m) (f v ++ flat_map f xs)
      (IsPermutation-append_left m (f b) (f v ++ f w) (IsPermutation-trans (f b) (f w ++ f v) (f v ++ f w) both (IsPermutation-append_comm (f w) (f v))))
      (subst (λ k. IsPermutation k (f v ++ flat_map f xs)) (sym (append_assoc (f v) (f w) m)) (IsPermutation-append_right (f v) (f w ++ m) (flat_map f xs) (IsPermutation-sym (flat_map f xs) (f w ++ m) (flat_set_none xs j w r at_j none)))))
  flat_join (x ∷ xs) (suc i) zero v w b r at at_j ne both none =
      let x_is : x ≡ w = some-injective x w at_j in
      subst (λ l. IsPermutation (l ++ flat_map f (set xs i b)) (f x ++ flat_map f xs)) (sym none)
      (subst (λ (u : V). IsPermutation (flat_map f (set xs i b)) (f u ++ flat_map f xs)) (sym x_is) (flat_set_more xs i v b (f w) at both))
  flat_join (x ∷ xs) (suc i) (suc j) v w b r at at_j ne both none =
      IsPermutation-append_right (f x) (flat_map f (set (set xs i b) j r)) (flat_map f xs) (flat_join xs i j v w b r at at_j (λ e. ne (ap suc e)) both none)

  -- only one view has anything
  flat_none : (xs : List V) → ((j : ℕ) (u : V) → get_elem? xs j ≡ some u → f u ≡ []) → flat_map f xs ≡ []
  flat_none [] each = refl
  flat_none (x ∷ xs) each = ap₂ (λ l m. l ++ m) (each 0 x refl) (flat_none xs (λ j u at. each (suc j) u at))

  append_none : (l m : List A) → m ≡ [] → l ++ m ≡ l
  append_none [] m e = e
  append_none (x ∷ l) m e = ap (λ k. x ∷ k) (append_none l m e)

  pub flat_alone : (xs : List V) (i : ℕ) (v : V) → get_elem? xs i ≡ some v → ((j : ℕ) (u : V) → get_elem? xs j ≡ some u → i ≢ j → f u ≡ []) → flat_map f xs ≡ f v
  flat_alone [] i v at each = absurd (some-ne-none v (sym at))
  flat_alone (x ∷ xs) zero v at each =
      append_none (f x) (flat_map f xs) (flat_none xs (λ j u at_j. each (suc j) u at_j (λ (e : 0 ≡ suc j). omega arith))) ∙ ap f (some-injective x v at)
  flat_alone (x ∷ xs) (suc i) v at each =
      ap (λ l. l ++ flat_map f xs) (each 0 x refl (λ (e : suc i ≡ 0). omega arith)) ∙ flat_alone xs i v at (λ j u at_j ne. each (suc j) u at_j (λ (e : suc i ≡ suc j). ne (omega arith)))
