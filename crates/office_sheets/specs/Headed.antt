-- Lines below a heading. Own format.
use Rattle.std.specs.Prelude.{ℕ, List, [], ◌∷◌, ◌++◌, codes}
use Rattle.std.specs.List.{concat}

-- the heading and the lines, or that there is none
abbrev pub headed : List ℕ → List (List ℕ) → List ℕ
headed heading [] = codes "none\n"
headed heading (line ∷ lines) = heading ++ concat (line ∷ lines)
