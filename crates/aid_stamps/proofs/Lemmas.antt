-- A name in its array.
use Rattle.std.proofs.Common.{◌≡◌, ◌∙◌, sym, ap, subst, ℕ, IsTrue, List, ◌++◌, length, take, drop, replicate}
use Rattle.std.proofs.lemmas.List.{drop-replicate}
use Rattle.aid_types.specs.Filled.{filled, IsFilled}
use Rattle.aid_types.proofs.FilledLemmas.{IsFilled-filled, take-filled}
use Rattle.aid_stamps.specs.Clerks.{IsClerk, is_clerk}

pub array_named : (name array : List ℕ) → IsClerk name → array ≡ name ++ drop (length name) (replicate 32 0)
    → IsFilled 32 0 (length name) array × IsTrue (is_clerk (take (length name) array))
array_named name array is e =
    let whole : array ≡ filled 32 0 name = e ∙ ap (λ (ys : List ℕ). name ++ ys) (drop-replicate (length name) 32 0) in
    let back : name ≡ take (length name) array = sym (ap (take (length name)) whole ∙ take-filled 32 0 name) in
    (subst (IsFilled 32 0 (length name)) (sym whole) (IsFilled-filled 32 0 name is.short), subst (λ (ys : List ℕ). IsTrue (is_clerk ys)) back is.bytes)
