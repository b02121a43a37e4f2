-- Words written one by one.
use Rattle.std.proofs.Common.{◌≡◌, ℕ, List, [], ◌∷◌, ◌++◌, sym, ap, ◌∙◌, append_assoc}
use Rattle.office_export.specs.Lines.{line_of}

-- words appended one by one, each with the byte behind it
abbrev pub IsWritten : List ℕ → List (List ℕ) → List ℕ → Type 0
IsWritten old [] new = new ≡ old
IsWritten old (word ∷ []) new = new ≡ old ++ word ++ 10 ∷ []
IsWritten old (word ∷ next ∷ more) new = (text : List ℕ) × (text ≡ old ++ word ++ 32 ∷ []) × IsWritten text (next ∷ more) new

pub written : (old word : List ℕ) (more : List (List ℕ)) (new : List ℕ) → IsWritten old (word ∷ more) new → new ≡ old ++ line_of (word ∷ more)
written old word [] new e = e ∙ append_assoc old word (10 ∷ [])
written old word (next ∷ more) new (text, e, rest) =
    written text next more new rest ∙ ap (λ front. front ++ line_of (next ∷ more)) e
    ∙ append_assoc (old ++ word) (32 ∷ []) (line_of (next ∷ more)) ∙ append_assoc old word (32 ∷ line_of (next ∷ more))
    ∙ ap (λ behind. old ++ behind) (sym (append_assoc word (32 ∷ []) (line_of (next ∷ more))))
