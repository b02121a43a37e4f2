-- Lines that are appended to a text.
use Rattle.std.proofs.Common.{◌≡◌, ℕ, ◌+◌, ◌<◌, refl, ap, ◌∙◌, append_assoc, List, ◌++◌, length, map, take, get_or}
use Rattle.std.specs.List.{concat}
use Rattle.office_reports.proofs.Passes.{lines-more}

-- the line of a row more
pub lines_behind : {X : Type 0} (line : X → List ℕ) (front : List ℕ) (h : List X) (i : ℕ) (x : X) → i < length h → x ≡ get_or h i x → (out more : List ℕ)
    → out ≡ front ++ concat (map line (take i h)) → more ≡ out ++ line x → more ≡ front ++ concat (map line (take (i + 1) h))
lines_behind line front h i x lt at out more is e =
    e ∙ ap (λ text. text ++ line x) is ∙ append_assoc front (concat (map line (take i h))) (line x)
    ∙ ap (λ behind. front ++ behind) (lines-more line h i x lt at (concat (map line (take i h))) (concat (map line (take i h)) ++ line x) refl refl)
