-- The positions of a list that is read from its oldest filing on.
use Rattle.std.specs.Prelude.{ℕ, ◌+◌, Option, Some, None}

-- an index counts from 0, a position from 1; 0 is none
abbrev pub place_of : Option ℕ → ℕ
place_of None = 0
place_of (Some i) = i + 1
