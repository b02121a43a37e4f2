-- A fact of each desk, while desks change one by one.
use Rattle.std.proofs.Common.{◌≡◌, ℕ, ◌+◌, ◌<◌, ◌≤◌, List, length, set, get_or, sym, ap, ◌∙◌, subst, arith, length-set, get_or-set_same, get_or-set_other}
use mathlib.Core.Logic.{dite}
use native.Mathlib.Decide.{ℕ_discrete}

module _ {X : Type 0} (P : X → Type 0) (xs : List X) (i : ℕ) (new : X) where
  -- it holds of those before i, and of the one at i
  pub more_behind : i < length xs → P new → ((k : ℕ) (d : X) → k < i → P (get_or xs k d)) → (k : ℕ) (d : X) → k < i + 1 → P (get_or (set xs i new) k d)
  more_behind lt is before k d below =
      dite (ℕ_discrete k i)
      (λ (e : k ≡ i). subst P (sym (ap (λ n. get_or (set xs i new) n d) e ∙ get_or-set_same xs i new d lt)) is)
      (λ (ne : ¬ (k ≡ i)). subst P (sym (get_or-set_other xs i k new d ne)) (before k d (omega (arith, below))))

  -- it holds of those from i on, and so of those past i
  pub fewer_ahead : ((k : ℕ) (d : X) → i ≤ k → k < length xs → P (get_or xs k d)) → (k : ℕ) (d : X) → i + 1 ≤ k → k < length (set xs i new) → P (get_or (set xs i new) k d)
  fewer_ahead ahead k d le lt = subst P (sym (get_or-set_other xs i k new d (λ (e : k ≡ i). omega (arith, le, e)))) (ahead k d (omega (arith, le)) (omega (arith, lt, length-set xs i new)))
