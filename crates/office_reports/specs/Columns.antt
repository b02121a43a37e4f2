-- Columns of a table and its last line. Own format.
use Rattle.std.specs.Prelude.{ℕ, ◌-◌, List, [], ◌∷◌, ◌++◌, codes, decimal, length, replicate}
use Rattle.std.specs.List.{concat}

-- a text with blanks before it, or behind it, up to a width; a wider one is whole
abbrev pub right : ℕ → List ℕ → List ℕ
right width text = replicate (width - length text) 32 ++ text

abbrev pub left : ℕ → List ℕ → List ℕ
left width text = text ++ replicate (width - length text) 32

-- lines, and how many there are
abbrev pub table : List (List ℕ) → List ℕ
table lines = concat lines ++ codes "rows " ++ decimal (length lines) ++ codes "\n"
