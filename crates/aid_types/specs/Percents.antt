-- How a percent is written. Own format.
use Rattle.std.specs.Prelude.{ℕ, ◌/◌, ◌%◌, List, ◌++◌, codes, decimal}

-- tenths of a percent, with one decimal
abbrev pub percent_text : ℕ → List ℕ
percent_text tenths = decimal (tenths / 10) ++ codes "." ++ decimal (tenths % 10)
