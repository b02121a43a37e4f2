-- A connection is taken from the end of those that are kept the last first.
use Rattle.std.proofs.Common.{◌≡◌, List, [], ◌∷◌, ◌++◌, map, reverse, ap, ◌∙◌}
use Rattle.std.proofs.lemmas.List.{reverse-append}

pub handed : {A B : Type 0} (f : A → B) (items rest : List A) (x : A) → items ≡ rest ++ x ∷ [] → map f (reverse items) ≡ f x ∷ map f (reverse rest)
handed f items rest x is = ap (λ l. map f (reverse l)) is ∙ ap (map f) (reverse-append rest (x ∷ []))
