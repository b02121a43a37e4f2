-- The programs of aid in the order of returns (34 CFR 668.22(i)), and lists of six amounts in that order.
use Rattle.std.specs.Prelude.{ℕ, ◌+◌, ◌-◌, List, [], ◌∷◌}
use Rattle.aid_types.specs.declared.number.Program.{Program}
use Rattle.aid_types.specs.declared.number.Program.TheVariants.{Unsub, Sub, Plus, Pell, Fseog, Teach}

-- a program's place in that order, from 0
abbrev pub rank : Program → ℕ
rank Unsub = 0
rank Sub = 1
rank Plus = 2
rank Pell = 3
rank Fseog = 4
rank Teach = 5

-- the six amounts that a place gives
abbrev pub six : (ℕ → ℕ) → List ℕ
six g = g 0 ∷ g 1 ∷ g 2 ∷ g 3 ∷ g 4 ∷ g 5 ∷ []

-- sums program by program
abbrev pub plus : List ℕ → List ℕ → List ℕ
plus [] ms = []
plus (n ∷ ns) [] = []
plus (n ∷ ns) (m ∷ ms) = (n + m) ∷ plus ns ms

-- what remains of each amount
abbrev pub minus : List ℕ → List ℕ → List ℕ
minus [] taken = []
minus (n ∷ ns) [] = n ∷ ns
minus (n ∷ ns) (t ∷ ts) = (n - t) ∷ minus ns ts
