-- A read into a front of a buffer is a read into the buffer.
use Rattle.std.proofs.Common.{arith, ◌≡◌, ◌∙◌, sym, ap, subst, ℕ, List, ◌≤◌, ◌++◌, length, take, drop, Result, Ok, Err}
use Rattle.std.specs.Prelude.{IfOk}
use Rattle.std.proofs.lemmas.List.{take-append-le, drop-append-le, take-append-drop}
use Rattle.io_traits.specs.Moved.{IsFrontRead}

front_whole : (n : ℕ) (left left' front front' rest : List ℕ) → n ≤ length front → length front' ≡ length front → IsFrontRead n left left' front front' → IsFrontRead n left left' (front ++ rest) (front' ++ rest)
front_whole n left left' front front' rest fits same read = record {
  front = read.front ∙ ap (λ (l : List ℕ). l ++ left') (sym (take-append-le n front' rest (omega (arith, same, fits))));
  rest = drop-append-le n front' rest (omega (arith, same, fits)) ∙ ap (λ (l : List ℕ). l ++ rest) read.rest ∙ sym (drop-append-le n front rest fits);
}

pub piece_read : {E : Type 0} (result : Result ℕ E) (most : ℕ) (left left' buffer front' : List ℕ) → length front' ≡ length (take most buffer) → IfOk result (λ n. n ≤ length (take most buffer)) → IfOk result (λ n. IsFrontRead n left left' (take most buffer) front') → IfOk result (λ n. IsFrontRead n left left' buffer (front' ++ drop most buffer))
piece_read (Ok n) most left left' buffer front' same fits read =
    subst (λ (l : List ℕ). IsFrontRead n left left' l (front' ++ drop most buffer)) (take-append-drop most buffer) (front_whole n left left' (take most buffer) front' (drop most buffer) fits same read)
piece_read (Err e) most left left' buffer front' same fits read = tt
