-- Pieces written one by one.
use Rattle.std.proofs.Common.{◌≡◌, ℕ, List, [], ◌∷◌, ◌++◌, append-nil, append_assoc, sym, ap, ◌∙◌}
use Rattle.std.specs.List.{concat}

-- pieces appended one by one
abbrev pub IsAppended : List ℕ → List (List ℕ) → List ℕ → Type 0
IsAppended old [] new = new ≡ old
IsAppended old (piece ∷ []) new = new ≡ old ++ piece
IsAppended old (piece ∷ next ∷ more) new = (text : List ℕ) × (text ≡ old ++ piece) × IsAppended text (next ∷ more) new

pub appended : (old : List ℕ) (pieces : List (List ℕ)) (new : List ℕ) → IsAppended old pieces new → new ≡ old ++ concat pieces
appended old [] new e = e ∙ sym (append-nil old)
appended old (piece ∷ []) new e = e ∙ ap (λ (last : List ℕ). old ++ last) (sym (append-nil piece))
appended old (piece ∷ next ∷ more) new (text, e, rest) =
    appended text (next ∷ more) new rest ∙ ap (λ (front : List ℕ). front ++ concat (next ∷ more)) e ∙ append_assoc old piece (concat (next ∷ more))
