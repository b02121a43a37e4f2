-- The numbers of a filing in order: which field each is of, and which may follow.
use Rattle.std.specs.Prelude.{⊤, ℕ, zero, suc, ◌-◌, ℤ, pos, int_lt, Bool, if◌then◌else◌, List, [], ◌∷◌, ◌++◌, length, map, take, unsigned_abs, IsTrue}
use Rattle.format_table.specs.Limits.{fits}
use Rattle.format_table.specs.Parts.{Line, Slot}

-- a field of a row, which counts nothing
abbrev pub plain : Line → Slot
plain line = record { line = line; first = []; later = []; ends = 0 }

-- so many rows, each of these fields
abbrev pub rows_again : ℕ → List Line → List Slot
rows_again zero lines = []
rows_again (suc n) lines = map plain lines ++ rows_again n lines

-- so many rows, the first of its own fields
abbrev pub rows : ℕ → List Line → List Line → List Slot
rows n [] later = []
rows zero (line ∷ lines) later = []
rows (suc n) (line ∷ lines) later = map plain (line ∷ lines) ++ rows_again n later

-- what is left of what is to come, where so many at its end stand only behind a number above 1
abbrev pub cut : ℕ → ℤ → List Slot → List Slot
cut zero z slots = slots
cut (suc n) z slots = if int_lt (pos 1) z then slots else take (length slots - suc n) slots

-- what is to come once the next number stands: the rows that it counts, and what it leaves of what was to come behind them
abbrev pub after : List Slot → ℤ → List Slot
after [] z = []
after (slot ∷ slots) z = rows (unsigned_abs z) slot.first slot.later ++ cut slot.ends z slots

-- Numbers for all that is to come, none left over, each within its limit after the numbers before it, which are read newest
-- first.
abbrev pub AreNumbers : List Slot → List ℤ → List ℤ → Type 0
AreNumbers [] earlier [] = ⊤
AreNumbers [] earlier (z ∷ zs) = ⊥
AreNumbers (slot ∷ slots) earlier [] = ⊥
AreNumbers (slot ∷ slots) earlier (z ∷ zs) = IsTrue (fits slot.line.limit earlier z) × AreNumbers (after (slot ∷ slots) z) (z ∷ earlier) zs
