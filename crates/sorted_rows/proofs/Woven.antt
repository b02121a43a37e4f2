-- The merge of the tail into the main rows, the greatest row first.
use Rattle.std.proofs.Common.{◌≡◌, ℕ, zero, suc, ◌+◌, ◌-◌, ◌<◌, ◌≤◌, arith, refl, sym, ap, subst, ◌∙◌, List, [], ◌∷◌, ◌++◌, length, get_or, set, take, drop, Some, cond, inl, inr, length-append, append_assoc}
use Rattle.std.specs.List.{slice_get, insert}
use Rattle.std.specs.List.Sorted.{IsStrictlySortedBy}
use Rattle.std.specs.Map.{keys_of, lookup}
use Rattle.std.specs.BTreeMap.{is_at}
use Rattle.std.specs.Cmp.{IsTotalOrder}
use Rattle.std.specs.Ordering.{is_eq}
use Rattle.std.specs.declared.cmp.Ordering.{Ordering}
use Rattle.std.specs.declared.cmp.Ordering.TheVariants.{Less, Equal, Greater}
use Rattle.std.proofs.lemmas.Cmp.{eq_by_cmp_equiv, tied_itself}
use Rattle.std.proofs.lemmas.List.{append-nil, take_all, drop_all, take_at, drop_at, take-take, take-set-le, drop-set, take_more, take-append-drop, length-take-le, length-set, get_or-set_same}
use Rattle.std.proofs.lemmas.Option.{slice_get_within, none-some, get_or_from_slice_get}
use Rattle.sorted_rows.specs.Places.{AreApart, IsBelowPrior, IsGap}
use Rattle.sorted_rows.proofs.Sorted.{rises, lookup_here, none_before, sorted-put, lookup-put}
use Rattle.sorted_rows.proofs.Apart.{rest_same}

at_take : {X : Type 0} (xs : List X) (i n : ℕ) (e : X) → slice_get (take i xs) n ≡ Some e → slice_get xs n ≡ Some e
at_take [] zero n e h = absurd (none-some e h)
at_take [] (suc i) n e h = absurd (none-some e h)
at_take (x ∷ xs) zero n e h = absurd (none-some e h)
at_take (x ∷ xs) (suc i) zero e h = h
at_take (x ∷ xs) (suc i) (suc n) e h = at_take xs i n e h

in_take : {X : Type 0} (xs : List X) (i n : ℕ) (e : X) → n < i → slice_get xs n ≡ Some e → slice_get (take i xs) n ≡ Some e
in_take [] i n e lt h = absurd (none-some e h)
in_take (x ∷ xs) zero n e lt h = absurd (omega arith)
in_take (x ∷ xs) (suc i) zero e lt h = h
in_take (x ∷ xs) (suc i) (suc n) e lt h = in_take xs i n e (omega arith) h

at_drop : {X : Type 0} (xs : List X) (k : ℕ) (e : X) → slice_get (drop k xs) 0 ≡ Some e → slice_get xs k ≡ Some e
at_drop [] zero e h = h
at_drop [] (suc k) e h = absurd (none-some e h)
at_drop (x ∷ xs) zero e h = h
at_drop (x ∷ xs) (suc k) e h = at_drop xs k e h

at_left : {X : Type 0} (xs ys : List X) (n : ℕ) (e : X) → n < length xs → slice_get (xs ++ ys) n ≡ Some e → slice_get xs n ≡ Some e
at_left [] ys n e lt h = absurd (omega arith)
at_left (x ∷ xs) ys zero e lt h = h
at_left (x ∷ xs) ys (suc n) e lt h = at_left xs ys n e (omega arith) h

at_right : {X : Type 0} (xs ys : List X) (n : ℕ) (e : X) → length xs ≡ n → slice_get (xs ++ ys) n ≡ Some e → slice_get ys 0 ≡ Some e
at_right [] ys zero e same h = h
at_right [] ys (suc n) e same h = absurd (omega arith)
at_right (x ∷ xs) ys zero e same h = absurd (omega arith)
at_right (x ∷ xs) ys (suc n) e same h = at_right xs ys n e (omega arith) h

at_set : {X : Type 0} (xs : List X) (k : ℕ) (x e : X) → k < length xs → slice_get (set xs k x) k ≡ Some e → e ≡ x
at_set xs k x e lt h = sym (get_or_from_slice_get (set xs k x) k e x h) ∙ get_or-set_same xs k x x lt

insert_between : {X : Type 0} (p q : List X) (i : ℕ) (y : X) → length p ≡ i → p ++ y ∷ q ≡ insert (p ++ q) i y
insert_between p q i y same =
    ap (λ z. z ++ y ∷ q) (sym (take_at p q i same)) ∙ ap (λ z. take i (p ++ q) ++ y ∷ z) (sym (drop_at p q i same))

what_is_left : (a : Ordering) → (a ≡ Less → ⊥) → (a ≡ Equal → ⊥) → a ≡ Greater
what_is_left Less n m = absurd (n refl)
what_is_left Equal n m = absurd (m refl)
what_is_left Greater n m = refl

-- what is merged so far: the first i rows, which are still where they were, and the rows from place k on
abbrev pub merged : {X : Type 0} → List X → ℕ → ℕ → List X
merged rows i k = take i rows ++ drop k rows

moved : {X : Type 0} (rows : List X) (i k : ℕ) (x : X) → i ≤ k → k < length rows → x ≡ get_or rows i x → merged (set rows k x) i k ≡ merged rows (i + 1) (k + 1)
moved rows i k x le lt at =
    ap (λ z. z ++ drop k (set rows k x)) (take-set-le i rows k x le)
    ∙ ap (λ z. take i rows ++ z) (drop-set rows k x lt)
    ∙ sym (append_assoc (take i rows) (x ∷ []) (drop (k + 1) rows))
    ∙ ap (λ z. (take i rows ++ z ∷ []) ++ drop (k + 1) rows) at
    ∙ ap (λ z. z ++ drop (k + 1) rows) (sym (take_more rows i x (omega arith)))

placed : {X : Type 0} (rows : List X) (i k : ℕ) (y : X) → i ≤ k → k < length rows → merged (set rows k y) i k ≡ insert (merged rows i (k + 1)) i y
placed rows i k y le lt =
    ap (λ z. z ++ drop k (set rows k y)) (take-set-le i rows k y le)
    ∙ ap (λ z. take i rows ++ z) (drop-set rows k y lt)
    ∙ insert_between (take i rows) (drop (k + 1) rows) i y (length-take-le i rows (omega arith))

pub record IsWoven {K V : Type 0} (R : K → K → Ordering) (tail old : List (K × V)) (count : ℕ) (rows : List (K × V)) (i j k : ℕ) : Type 0 where
  pub order : k ≡ i + j
  pub within : k ≤ length rows
  pub in_tail : j ≤ length tail
  pub in_count : i ≤ count
  pub same : take i rows ≡ take i old
  pub sorted : IsStrictlySortedBy R (keys_of (merged rows i k))
  pub under : 0 < j → (y e : K × V) → slice_get tail (j - 1) ≡ Some y → slice_get rows k ≡ Some e → R y.0 e.0 ≡ Less
  pub lookups : (q : K) → lookup (is_at (R q)) (take j tail ++ merged rows i k) ≡ lookup (is_at (R q)) (tail ++ take count old)

module _ {K V : Type 0} {R : K → K → Ordering} (o : IsTotalOrder R) where
  pub woven_start : (tail rows : List (K × V)) (count : ℕ) → length rows ≡ count + length tail → AreApart R tail (take count rows) → IsWoven R tail rows count rows count (length tail) (length rows)
  woven_start tail rows count fit two =
      let all : merged rows count (length rows) ≡ take count rows = ap (λ z. take count rows ++ z) (drop_all (length rows) rows (omega arith)) ∙ append-nil (take count rows) in
      record {
        order = fit;
        within = omega arith;
        in_tail = omega arith;
        in_count = omega arith;
        same = refl;
        sorted = subst (λ (z : List (K × V)). IsStrictlySortedBy R (keys_of z)) (sym all) two.main_sorted;
        under = λ some y e at_y at_e. let lt : length rows < length rows = slice_get_within rows (length rows) e at_e in absurd (omega arith);
        lookups = λ q.
            ap (λ z. lookup (is_at (R q)) (z ++ merged rows count (length rows))) (take_all (length tail) tail (omega arith))
            ∙ ap (λ z. lookup (is_at (R q)) (tail ++ z)) all;
      }

  pub woven_end : (tail old : List (K × V)) (count : ℕ) (rows : List (K × V)) (i k : ℕ) → IsWoven R tail old count rows i 0 k → IsStrictlySortedBy R (keys_of rows) × ((q : K) → lookup (is_at (R q)) rows ≡ lookup (is_at (R q)) (tail ++ take count old))
  woven_end tail old count rows i k w =
      let met : k ≡ i = w.order ∙ omega arith in
      let all : merged rows i k ≡ rows = ap (λ n. merged rows i n) met ∙ take-append-drop i rows in (
        subst (λ (z : List (K × V)). IsStrictlySortedBy R (keys_of z)) all w.sorted,
        λ q. sym (ap (lookup (is_at (R q))) all) ∙ w.lookups q,
      )

  pub woven_move : (tail old : List (K × V)) (count : ℕ) (rows : List (K × V)) (i j k : ℕ) (x : K × V) → IsWoven R tail old count rows (i + 1) j (k + 1) → x ≡ get_or rows i x → ((y : K × V) → slice_get tail (j - 1) ≡ Some y → R y.0 x.0 ≡ Less) → IsWoven R tail old count (set rows k x) i j k
  woven_move tail old count rows i j k x w at below =
      let order : k + 1 ≡ i + 1 + j = w.order in
      let within : k + 1 ≤ length rows = w.within in
      let in_count : i + 1 ≤ count = w.in_count in
      let chain : merged (set rows k x) i k ≡ merged rows (i + 1) (k + 1) = moved rows i k x (omega arith) (omega arith) at in
      record {
        order = omega arith;
        within = omega (arith, length-set rows k x);
        in_tail = w.in_tail;
        in_count = omega arith;
        same = take-set-le i rows k x (omega arith) ∙ sym (take-take i (i + 1) rows (omega arith)) ∙ ap (take i) w.same ∙ take-take i (i + 1) old (omega arith);
        sorted = subst (λ (z : List (K × V)). IsStrictlySortedBy R (keys_of z)) (sym chain) w.sorted;
        under = λ some y e at_y at_e. subst (λ (z : K × V). R y.0 z.0 ≡ Less) (sym (at_set rows k x e (omega arith) at_e)) (below y at_y);
        lookups = λ q. ap (λ z. lookup (is_at (R q)) (take j tail ++ z)) chain ∙ w.lookups q;
      }

  -- no row of the tail has a key of the main rows
  differs : (tail main : List (K × V)) (j n : ℕ) (y e : K × V) → AreApart R tail main → slice_get tail j ≡ Some y → slice_get main n ≡ Some e → R y.0 e.0 ≡ Equal → ⊥
  differs tail main j n y e two at_y at_e same =
      elim (two.apart y.0) [
        | inl none ↦ none-some y.1 (sym none ∙ lookup_here (is_at (R y.0)) tail j y at_y ((eq_by_cmp_equiv o).refl y.0) (none_before o y.0 tail j y two.tail_sorted at_y (tied_itself o y.0)))
        | inr none ↦ none-some e.1 (sym none ∙ lookup_here (is_at (R y.0)) main n e at_e (ap is_eq same) (none_before o y.0 main n e two.main_sorted at_e same))
      ]

  gap_there : (tail old : List (K × V)) (count : ℕ) (rows : List (K × V)) (i j k : ℕ) (y : K × V) → IsWoven R tail old count rows i (j + 1) (k + 1) → AreApart R tail (take count old) → slice_get tail j ≡ Some y → (IsBelowPrior R y.0 rows i → ⊥) → IsGap R y.0 (merged rows i (k + 1)) i
  gap_there tail old count rows i j k y w two at_y not =
      let order : k + 1 ≡ i + (j + 1) = w.order in
      let within : k + 1 ≤ length rows = w.within in
      let in_count : i ≤ count = w.in_count in
      let size : length (take i rows) ≡ i = length-take-le i rows (omega arith) in
      record {
        in_range = omega (arith, size, length-append (take i rows) (drop (k + 1) rows));
        before = λ n e next at.
            let part : slice_get (take i rows) n ≡ Some e = at_left (take i rows) (drop (k + 1) rows) n e (omega arith) at in
            let here : slice_get rows n ≡ Some e = at_take rows i n e part in
            let there : slice_get (take count old) n ≡ Some e = in_take old count n e (omega arith) (at_take old i n e (subst (λ (z : List (K × V)). slice_get z n ≡ Some e) w.same part)) in
            let place : n ≡ i - 1 = omega arith in
            what_is_left
            (R y.0 e.0)
            (λ less.
            not
            (record {
              prior = omega arith;
              below = λ f at_f. subst (λ (z : K × V). R y.0 z.0 ≡ Less) (sym (get_or_from_slice_get rows n e f here) ∙ get_or_from_slice_get rows n f f (subst (λ (m : ℕ). slice_get rows m ≡ Some f) (sym place) at_f)) less;
            }))
            (differs tail (take count old) j n y e two at_y there);
        after = λ e at.
            let back : j + 1 - 1 ≡ j = omega arith in
            w.under (omega arith) y e (subst (λ (m : ℕ). slice_get tail m ≡ Some y) (sym back) at_y) (at_drop rows (k + 1) e (at_right (take i rows) (drop (k + 1) rows) i e size at));
      }

  pub woven_place : (tail old : List (K × V)) (count : ℕ) (rows : List (K × V)) (i j k : ℕ) (y : K × V) → IsWoven R tail old count rows i (j + 1) (k + 1) → AreApart R tail (take count old) → slice_get tail j ≡ Some y → (IsBelowPrior R y.0 rows i → ⊥) → IsWoven R tail old count (set rows k y) i j k
  woven_place tail old count rows i j k y w two at_y not =
      let order : k + 1 ≡ i + (j + 1) = w.order in
      let within : k + 1 ≤ length rows = w.within in
      let in_tail : j + 1 ≤ length tail = w.in_tail in
      let so_far = merged rows i (k + 1) in
      let gap : IsGap R y.0 so_far i = gap_there tail old count rows i j k y w two at_y not in
      let chain : merged (set rows k y) i k ≡ insert so_far i y = placed rows i k y (omega arith) (omega arith) in
      let more : take (j + 1) tail ++ so_far ≡ take j tail ++ y ∷ so_far =
      ap (λ z. z ++ so_far) (take_more tail j y (omega arith) ∙ ap (λ z. take j tail ++ z ∷ []) (get_or_from_slice_get tail j y y at_y))
      ∙ append_assoc (take j tail) (y ∷ []) so_far in
      record {
        order = omega arith;
        within = omega (arith, length-set rows k y);
        in_tail = omega arith;
        in_count = w.in_count;
        same = take-set-le i rows k y (omega arith) ∙ w.same;
        sorted = subst (λ (z : List (K × V)). IsStrictlySortedBy R (keys_of z)) (sym chain) (sorted-put o y.0 so_far i y.1 w.sorted gap);
        under = λ some z e at_z at_e. subst (λ (x : K × V). R z.0 x.0 ≡ Less) (sym (at_set rows k y e (omega arith) at_e)) (rises o tail (j - 1) j z y two.tail_sorted (omega arith) at_z at_y);
        lookups = λ q.
            let one : lookup (is_at (R q)) (insert so_far i y) ≡ lookup (is_at (R q)) (y ∷ so_far) =
            lookup-put o y.0 so_far i y.1 q w.sorted gap
            ∙ ap (λ b. cond b (Some y.1) (lookup (is_at (R q)) so_far)) ((eq_by_cmp_equiv o).symm y.0 q) in
            ap (λ z. lookup (is_at (R q)) (take j tail ++ z)) chain
            ∙ rest_same (is_at (R q)) (take j tail) (insert so_far i y) (y ∷ so_far) one
            ∙ sym (ap (lookup (is_at (R q))) more)
            ∙ w.lookups q;
      }
