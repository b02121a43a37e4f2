-- Look-ups in the tail and the main rows together, and a write into either.
use Rattle.std.proofs.Common.{◌≡◌, Bool, true, false, cond, refl, sym, ap, ◌∙◌, List, [], ◌∷◌, ◌++◌, Option, Some, None, IsSome, ◌⊎◌, inl, inr, true≢false}
use Rattle.std.specs.List.Sorted.{IsStrictlySortedBy}
use Rattle.std.specs.Map.{keys_of, lookup}
use Rattle.std.specs.BTreeMap.{is_at}
use Rattle.std.specs.Cmp.{IsTotalOrder}
use Rattle.std.specs.Option.{is_none}
use Rattle.std.specs.Ordering.{is_eq}
use Rattle.std.specs.declared.cmp.Ordering.{Ordering}
use Rattle.std.proofs.lemmas.Cmp.{eq_by_cmp_equiv}
use Rattle.std.proofs.lemmas.Option.{none-some}
use Rattle.sorted_rows.specs.Places.{AreApart}

pub either : (b : Bool) → (b ≡ true) ⊎ (b ≡ false)
either true = inl refl
either false = inr refl

abbrev pub first : {V : Type 0} → Option V → Option V → Option V
first (Some v) b = Some v
first None b = b

first_of_cond : {V : Type 0} (b : Bool) (v : V) (x y : Option V) → first (cond b (Some v) x) y ≡ cond b (Some v) (first x y)
first_of_cond true v x y = refl
first_of_cond false v x y = refl

pub second_of_cond : {V : Type 0} (b : Bool) (v : V) (x y : Option V) → (b ≡ true → x ≡ None) → first x (cond b (Some v) y) ≡ cond b (Some v) (first x y)
second_of_cond true v x y none = ap (λ z. first z (Some v)) (none refl)
second_of_cond false v x y none = refl

pub lookup_append : {K V : Type 0} (test : K → Bool) (xs ys : List (K × V)) → lookup test (xs ++ ys) ≡ first (lookup test xs) (lookup test ys)
lookup_append test [] ys = refl
lookup_append test (x ∷ xs) ys =
    ap (λ r. cond (test x.0) (Some x.1) r) (lookup_append test xs ys) ∙ sym (first_of_cond (test x.0) x.1 (lookup test xs) (lookup test ys))

pub in_first : {K V : Type 0} (test : K → Bool) (xs ys : List (K × V)) (v : V) → Some v ≡ lookup test xs → Some v ≡ lookup test (xs ++ ys)
in_first test xs ys v h = ap (λ r. first r (lookup test ys)) h ∙ sym (lookup_append test xs ys)

pub in_second : {K V : Type 0} (test : K → Bool) (xs ys : List (K × V)) → None ≡ lookup test xs → lookup test ys ≡ lookup test (xs ++ ys)
in_second test xs ys h = ap (λ r. first r (lookup test ys)) h ∙ sym (lookup_append test xs ys)

-- where neither run has the key, the two together have it not
pub in_neither : {K V : Type 0} (test : K → Bool) (xs ys : List (K × V)) → lookup test xs ≡ None → lookup test ys ≡ None → lookup test (xs ++ ys) ≡ None
in_neither test xs ys none lacks = sym (in_second test xs ys (sym none)) ∙ lacks

none_of_two : {V : Type 0} (a b : Option V) → first a b ≡ None → (a ≡ None) × (b ≡ None)
none_of_two (Some v) b none = absurd (none-some v (sym none))
none_of_two None b none = (refl, none)

-- what the two together have not, neither run has
pub neither : {K V : Type 0} (test : K → Bool) (xs ys : List (K × V)) → lookup test (xs ++ ys) ≡ None → (lookup test xs ≡ None) × (lookup test ys ≡ None)
neither test xs ys none = none_of_two (lookup test xs) (lookup test ys) (sym (lookup_append test xs ys) ∙ none)

pub first_none : {V : Type 0} (a : Option V) → first a None ≡ a
first_none (Some v) = refl
first_none None = refl

-- where the second run lacks the key, the first decides
pub first_only : {K V : Type 0} (test : K → Bool) (xs ys : List (K × V)) → lookup test ys ≡ None → lookup test (xs ++ ys) ≡ lookup test xs
first_only test xs ys lacks = lookup_append test xs ys ∙ ap (first (lookup test xs)) lacks ∙ first_none (lookup test xs)

some_of_two : {V : Type 0} (a b : Option V) → IsSome b → false ≡ is_none (first a b)
some_of_two (Some v) b some = refl
some_of_two None None some = absurd (true≢false (sym some))
some_of_two None (Some v) some = refl

-- a key of the second run is a key of the two together
pub not_new : {K V : Type 0} (test : K → Bool) (xs ys : List (K × V)) → IsSome (lookup test ys) → false ≡ is_none (lookup test (xs ++ ys))
not_new test xs ys some = some_of_two (lookup test xs) (lookup test ys) some ∙ ap is_none (sym (lookup_append test xs ys))

pub rest_same : {K V : Type 0} (test : K → Bool) (xs ys zs : List (K × V)) → lookup test ys ≡ lookup test zs → lookup test (xs ++ ys) ≡ lookup test (xs ++ zs)
rest_same test xs ys zs h = lookup_append test xs ys ∙ ap (first (lookup test xs)) h ∙ sym (lookup_append test xs zs)

test_same : {K V : Type 0} (s t : K → Bool) (rows : List (K × V)) → ((x : K) → s x ≡ t x) → lookup s rows ≡ lookup t rows
test_same s t [] h = refl
test_same s t (x ∷ rows) h = ap (λ b. cond b (Some x.1) (lookup s rows)) (h x.0) ∙ ap (λ r. cond (t x.0) (Some x.1) r) (test_same s t rows h)

none_is_not_some : {V : Type 0} (x : Option V) → IsSome x → x ≡ None → ⊥
none_is_not_some None some none = absurd (true≢false (sym some))
none_is_not_some (Some v) some none = none-some v (sym none)

module _ {K V : Type 0} {R : K → K → Ordering} (o : IsTotalOrder R) where
  abbrev pub IsWritten : K → V → List (K × V) → List (K × V) → Type 0
  IsWritten k v old new = (q : K) → lookup (is_at (R q)) new ≡ cond (is_eq (R k q)) (Some v) (lookup (is_at (R q)) old)

  pub alike : (k q : K) (rows : List (K × V)) → is_eq (R k q) ≡ true → lookup (is_at (R k)) rows ≡ lookup (is_at (R q)) rows
  alike k q rows h = test_same (is_at (R k)) (is_at (R q)) rows (λ x. (eq_by_cmp_equiv o).congr k q x h)

  -- the tail lacks a key of the main rows
  pub tail_lacks : (k : K) (tail main : List (K × V)) → AreApart R tail main → IsSome (lookup (is_at (R k)) main) → lookup (is_at (R k)) tail ≡ None
  tail_lacks k tail main two some =
      elim (two.apart k) [
        | inl none ↦ none
        | inr none ↦ absurd (none_is_not_some (lookup (is_at (R k)) main) some none)
      ]

  pub apart_main : (k : K) (v : V) (tail main new : List (K × V)) → AreApart R tail main → IsStrictlySortedBy R (keys_of new) → IsWritten k v main new → lookup (is_at (R k)) tail ≡ None → AreApart R tail new
  apart_main k v tail main new two sorted written lacks = record {
    tail_sorted = two.tail_sorted;
    main_sorted = sorted;
    apart = λ q.
        elim (either (is_eq (R k q))) [
          | inl h ↦ inl (sym (alike k q tail h) ∙ lacks)
          | inr h ↦
              elim (two.apart q) [
                | inl none ↦ inl none
                | inr none ↦ inr (written q ∙ ap (λ b. cond b (Some v) (lookup (is_at (R q)) main)) h ∙ none)
              ]
        ];
  }

  pub written_main : (k : K) (v : V) (tail main new : List (K × V)) → IsWritten k v main new → lookup (is_at (R k)) tail ≡ None → IsWritten k v (tail ++ main) (tail ++ new)
  written_main k v tail main new written lacks = λ q.
      lookup_append (is_at (R q)) tail new
      ∙ ap (first (lookup (is_at (R q)) tail)) (written q)
      ∙ second_of_cond (is_eq (R k q)) v (lookup (is_at (R q)) tail) (lookup (is_at (R q)) main) (λ h. sym (alike k q tail h) ∙ lacks)
      ∙ ap (λ r. cond (is_eq (R k q)) (Some v) r) (sym (lookup_append (is_at (R q)) tail main))

  pub apart_tail : (k : K) (v : V) (tail main new : List (K × V)) → AreApart R tail main → IsStrictlySortedBy R (keys_of new) → IsWritten k v tail new → lookup (is_at (R k)) main ≡ None → AreApart R new main
  apart_tail k v tail main new two sorted written none = record {
    tail_sorted = sorted;
    main_sorted = two.main_sorted;
    apart = λ q.
        elim (either (is_eq (R k q))) [
          | inl h ↦ inr (sym (alike k q main h) ∙ none)
          | inr h ↦
              elim (two.apart q) [
                | inl lacks ↦ inl (written q ∙ ap (λ b. cond b (Some v) (lookup (is_at (R q)) tail)) h ∙ lacks)
                | inr lacks ↦ inr lacks
              ]
        ];
  }

  pub written_tail : (k : K) (v : V) (tail main new : List (K × V)) → IsWritten k v tail new → IsWritten k v (tail ++ main) (new ++ main)
  written_tail k v tail main new written = λ q.
      lookup_append (is_at (R q)) new main
      ∙ ap (λ r. first r (lookup (is_at (R q)) main)) (written q)
      ∙ first_of_cond (is_eq (R k q)) v (lookup (is_at (R q)) tail) (lookup (is_at (R q)) main)
      ∙ ap (λ r. cond (is_eq (R k q)) (Some v) r) (sym (lookup_append (is_at (R q)) tail main))

  pub no_tail : (main : List (K × V)) → IsStrictlySortedBy R (keys_of main) → AreApart R [] main
  unfolding IsStrictlySortedBy
  no_tail main sorted = record { tail_sorted = tt; main_sorted = sorted; apart = λ q. inl refl }
