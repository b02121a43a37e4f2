-- The filing at a position.
use Rattle.std.proofs.Common.{◌≡◌, ℕ, zero, suc, ◌-◌, refl, sym, ap, ◌∙◌, arith, List, [], ◌∷◌, ◌++◌, reverse, map}
use Rattle.std.specs.Prelude.{option_map, slice_get}
use Rattle.std.proofs.lemmas.List.{map-append, reverse-append, reverse-reverse}
use Rattle.std.proofs.lemmas.Option.{slice_get-map}
use Rattle.log_rules.specs.Ruled.{filing_in, history_of}
use Rattle.log_rules.specs.declared.rules.Filed.{Filed}

reverse-map : {A B : Type 0} (f : A → B) (xs : List A) → reverse (map f xs) ≡ map f (reverse xs)
reverse-map f [] = refl
reverse-map {A} {B} f (x ∷ xs) =
    reverse-append (f x ∷ []) (map f xs) ∙ ap (λ (l : List B). l ++ f x ∷ []) (reverse-map f xs)
    ∙ sym (ap (λ (l : List A). map f l) (reverse-append (x ∷ []) xs) ∙ map-append f (reverse xs) (x ∷ []))

-- it is that at its index among those that are read oldest first
pub filing_there : {Entry Outcome : Type 0} (h : List (Filed Entry Outcome)) (p : ℕ) → (p ≡ 0 → ⊥) → filing_in (history_of h) p ≡ option_map (λ (f : Filed Entry Outcome). f.entry) (slice_get h (p - 1))
filing_there h zero some = absurd (some refl)
filing_there {Entry} {Outcome} h (suc n) some =
    let index : suc n - 1 ≡ n = omega arith in
    let entry : Filed Entry Outcome → Entry = λ f. f.entry in
    ap (λ (l : List Entry). slice_get l n) (reverse-map entry (reverse h) ∙ ap (λ (l : List (Filed Entry Outcome)). map entry l) (reverse-reverse h))
    ∙ slice_get-map entry h n
    ∙ ap (λ (i : ℕ). option_map entry (slice_get h i)) (sym index)
