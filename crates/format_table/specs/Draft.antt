-- The numbers of a filing so far, and what is still to come.
use Rattle.std.specs.Prelude.{◌≡◌, ℕ, ◌+◌, ◌≤◌, ℤ, Bool, true, false, List, [], ◌∷◌, All, length}
use Rattle.format_table.specs.Forms.{are_sound, most_numbers, most_of}
use Rattle.format_table.specs.Layout.{after}
use Rattle.format_table.specs.Limits.{IsNarrow, fits}
use Rattle.format_table.specs.Parts.{Slot}

-- the fields to come, and the numbers before them, newest first
pub record Progress : Type 0 where
  pub slots : List Slot
  pub earlier : List ℤ

-- whether a number may be the next
abbrev pub may_follow : List Slot → List ℤ → ℤ → Bool
may_follow [] earlier z = false
may_follow (slot ∷ slots) earlier z = fits slot.line.limit earlier z

abbrev pub accepts : Progress → ℤ → Bool
accepts p z = may_follow p.slots p.earlier z

-- what stands once it is there
abbrev pub onward : Progress → ℤ → Progress
onward p z = record { slots = after p.slots z; earlier = z ∷ p.earlier }

-- The table's limits hold for what is to come, each number so far is no further from 0 than 10^12, and the others have room among
-- so many, which are no more than a filing has.
pub record IsDraft (most : ℕ) (slots : List Slot) (numbers : List ℤ) : Type 0 where
  pub sound : are_sound slots ≡ true
  pub narrow : All IsNarrow numbers
  pub room : length numbers + most_of slots ≤ most
  pub few : most ≤ most_numbers
