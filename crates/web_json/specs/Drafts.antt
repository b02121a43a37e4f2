-- How the numbers of a filing are put one behind the other.
use Rattle.std.specs.Prelude.{ℤ, List, [], ◌∷◌, Option, Some, None, option_and_then, if◌then◌else◌}
use Rattle.format_table.specs.Draft.{Progress, accepts, onward}

-- numbers put one behind the other, where each is within its limit
abbrev pub put_all : List ℤ → Progress → Option Progress
put_all [] p = Some p
put_all (z ∷ zs) p = if accepts p z then put_all zs (onward p z) else None

-- the same of numbers that there may be
abbrev pub put_said : Option (List ℤ) → Progress → Option Progress
put_said zs p = option_and_then (λ zs. put_all zs p) zs
