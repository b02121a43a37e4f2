-- A list that rises strictly is told by its members.
use Rattle.std.proofs.Common.{◌≡◌, refl, sym, ap, ◌∙◌, subst, arith, ◌⊎◌, inl, inr, List, [], ◌∷◌}
use Rattle.std.specs.Prelude.{◌↔◌}
use Rattle.std.specs.Cmp.{IsTotalOrder}
use Rattle.std.specs.List.{Contains}
use Rattle.std.specs.List.Sorted.{IsStrictlySortedBy}
use Rattle.std.specs.Ordering.{ordering_reverse}
use Rattle.std.specs.declared.cmp.Ordering.{Ordering}
use Rattle.std.specs.declared.cmp.Ordering.TheVariants.{Less, Greater}
use Rattle.std.proofs.lemmas.List.Elements.{All-contains}
use Rattle.std.proofs.lemmas.Map.Keys.{sorted_tail}
use Rattle.std.proofs.lemmas.Map.Views.{All-after_first}
use Rattle.office_history.proofs.Among.{among_cases, among_head, among_rest}

module _ {K : Type 0} {R : K → K → Ordering} (o : IsTotalOrder R) where
  -- nothing is below itself, and nothing is below what is below it
  pub apart : (x y : K) → R x y ≡ Less → R y x ≡ Less → ⊥
  apart x y e f = let k : Less ≡ Greater = sym e ∙ o.antisymm x y ∙ ap ordering_reverse f in cc

  follows : (x : K) (xs : List K) (y : K) → IsStrictlySortedBy R (x ∷ xs) → Contains xs y → R x y ≡ Less
  follows x xs y up h = All-contains (λ q. R x q ≡ Less) xs y (All-after_first R x xs up) h

  pub one_list : (xs ys : List K) → IsStrictlySortedBy R xs → IsStrictlySortedBy R ys → ((q : K) → Contains xs q ↔ Contains ys q) → xs ≡ ys
  one_list [] [] up other same = refl
  one_list [] (y ∷ ys) up other same = absurd (omega (arith, ((same y).1 (among_head y ys)).1))
  one_list (x ∷ xs) [] up other same = absurd (omega (arith, ((same x).0 (among_head x xs)).1))
  one_list (x ∷ xs) (y ∷ ys) up other same =
      let first = head (among_cases y ys x ((same x).0 (among_head x xs))) (among_cases x xs y ((same y).1 (among_head y ys))) in
      let rest = one_list xs ys (sorted_tail R x xs up) (sorted_tail R y ys other) (λ q. (there first q, back first q)) in
      λ i. first i ∷ rest i
    where
      head : (y ≡ x) ⊎ Contains ys x → (x ≡ y) ⊎ Contains xs y → x ≡ y
      head (inl e) b = sym e
      head (inr h) (inl e) = e
      head (inr h) (inr k) = absurd (apart x y (follows x xs y up k) (follows y ys x other h))

      never : (z q : K) (zs : List K) → IsStrictlySortedBy R (z ∷ zs) → Contains zs q → z ≡ q → ⊥
      never z q zs up h e = let less = follows z zs q up h in apart z q less (subst (λ w. R q w ≡ Less) (sym e) (subst (λ w. R w q ≡ Less) e less))

      there : x ≡ y → (q : K) → Contains xs q → Contains ys q
      there first q h = go (among_cases y ys q ((same q).0 (among_rest x xs q h)))
        where
          go : (y ≡ q) ⊎ Contains ys q → Contains ys q
          go (inl e) = absurd (never x q xs up h (first ∙ e))
          go (inr k) = k

      back : x ≡ y → (q : K) → Contains ys q → Contains xs q
      back first q h = go (among_cases x xs q ((same q).1 (among_rest y ys q h)))
        where
          go : (x ≡ q) ⊎ Contains xs q → Contains xs q
          go (inl e) = absurd (never y q ys other h (sym first ∙ e))
          go (inr k) = k
