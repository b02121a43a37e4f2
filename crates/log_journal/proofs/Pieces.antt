-- What a part of a file says of the file.
use Rattle.std.proofs.Common.{◌≡◌, ℕ, zero, suc, ◌+◌, ◌-◌, ◌<◌, ◌≤◌, List, [], ◌∷◌, length, take, drop, refl, sym, ◌∙◌, ap, arith}
use Rattle.std.proofs.lemmas.List.{take_all, drop_all, drop-take, length-take}
use Rattle.io_traits.specs.DiskState.{Fronts}
use Rattle.log_journal.proofs.Gathered.{drop-past, came}

-- behind the end of a file nothing stands
pub past_end : (n place : ℕ) (file : List ℕ) → length file ≤ place → [] ≡ take n (drop place file)
past_end n place file le = sym (ap (λ (l : List ℕ). take n l) (drop_all place file le) ∙ none n)
  where
    none : (n : ℕ) → take {A = ℕ} n [] ≡ []
    none zero = refl
    none (suc n) = refl

-- the rest of a part of a file
rest_of : (start k n : ℕ) (file : List ℕ) → drop k (take (k + n) (drop start file)) ≡ take n (drop (start + k) file)
rest_of start k n file = drop-take k n (drop start file) ∙ ap (λ (l : List ℕ). take n l) (sym (drop-past start k file))

-- a part of n bytes has the bytes that a read in it gives
pub inside : (held file : List ℕ) (start at need n : ℕ) → start ≤ at → at - start + need ≤ n → held ≡ take n (drop start file) → (size : ℕ) × (need ≤ size) × (drop (at - start) held ≡ take size (drop at file))
inside held file start at need n le fits is = (
  n - (at - start),
  omega arith,
  ap (λ (l : List ℕ). drop (at - start) l) is ∙ ap (λ (m : ℕ). drop (at - start) (take m (drop start file))) (let e : n ≡ (at - start) + (n - (at - start)) = omega arith in e)
      ∙ rest_of start (at - start) (n - (at - start)) file ∙ ap (λ (m : ℕ). take (n - (at - start)) (drop m file)) (let e : start + (at - start) ≡ at = omega arith in e),
)

-- one that is shorter has all that there are
pub to_end : (held file : List ℕ) (start at need n : ℕ) → start ≤ at → length held < n → held ≡ take n (drop start file) → (size : ℕ) × (need ≤ size) × (drop (at - start) held ≡ take size (drop at file))
to_end held file start at need n le short is =
    let whole : held ≡ drop start file = is ∙ take_all n (drop start file) (omega (arith, ap length is, length-take n (drop start file))) in (
      need + length (drop at file),
      omega arith,
      ap (λ (l : List ℕ). drop (at - start) l) whole ∙ sym (drop-past start (at - start) file)
          ∙ ap (λ (m : ℕ). drop m file) (let e : start + (at - start) ≡ at = omega arith in e)
          ∙ sym (take_all (need + length (drop at file)) (drop at file) (omega arith)),
    )

-- the front of what a read gives
pub front_of : (size most need : ℕ) (ahead file : List ℕ) → most ≤ need → need ≤ size → ahead ≡ take size file → take most ahead ≡ take most file
front_of size most need ahead file le le' is = ap (λ (l : List ℕ). take most l) is ∙ twice size most file (omega arith)
  where
    twice : (size most : ℕ) (file : List ℕ) → most ≤ size → take most (take size file) ≡ take most file
    twice size zero file le = refl
    twice zero (suc most) file le = absurd (omega arith)
    twice (suc size) (suc most) [] le = refl
    twice (suc size) (suc most) (x ∷ file) le = ap (λ (l : List ℕ). x ∷ l) (twice size most file (omega arith))

-- what a read of so many bytes gives
pub given : (file : List ℕ) (at n size : ℕ) (old new : List ℕ) → length old ≡ size → Fronts file at n old new → take n new ≡ take size (drop at file)
given file at n size old new is fronts = came file at n old new fronts ∙ ap (λ (m : ℕ). take m (drop at file)) is
