-- What is remembered in slots.
use Rattle.std.proofs.Common.{ℕ, zero, suc, List, [], ◌∷◌, Option, Some, None, get_or, replicate, set}
use Rattle.std.specs.Prelude.{IfSome}

-- where each slot holds what is right, it does so with one more
pub put_in : {X : Type 0} (P : X → Type 0) (slots : List (Option X)) (k : ℕ) (x : X) → ((i : ℕ) → IfSome (get_or slots i None) P) → P x →
    (i : ℕ) → IfSome (get_or (set slots k (Some x)) i None) P
put_in P [] k x all p i = all i
put_in P (o ∷ slots) zero x all p zero = p
put_in P (o ∷ slots) zero x all p (suc i) = all (suc i)
put_in P (o ∷ slots) (suc k) x all p zero = all zero
put_in P (o ∷ slots) (suc k) x all p (suc i) = put_in P slots k x (λ j. all (suc j)) p i

-- slots that are empty hold nothing
pub none_in : {X : Type 0} (P : X → Type 0) (n i : ℕ) → IfSome (get_or (replicate n None) i None) P
none_in P zero i = tt
none_in P (suc n) zero = tt
none_in P (suc n) (suc i) = none_in P n i
