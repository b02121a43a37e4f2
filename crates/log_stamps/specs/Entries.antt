-- Lists of entries with stamps, read newest first.
use Rattle.std.specs.Prelude.{ℕ, zero, suc, ◌∷◌, [], List, reverse, slice_get, Option, None}
use Rattle.aid_stamps.specs.Stamps.{plain_stamp}
use Rattle.aid_stamps.specs.declared.stamp.Stamp.{Stamp}
use Rattle.log_stamps.specs.declared.entry.StampedEntry.{StampedEntry}

-- an entry with a stamp
abbrev pub with_stamp : {E : Type 0} → Stamp → E → StampedEntry E
with_stamp stamp entry = record { entry = entry; stamp = stamp }

-- the entries alone
abbrev pub entries : {E : Type 0} → List (StampedEntry E) → List E
entries [] = []
entries (e ∷ past) = e.entry ∷ entries past

-- the first of some stamps, and the others; the plain one stands where there is none
abbrev pub first_stamp : List Stamp → Stamp
first_stamp [] = plain_stamp
first_stamp (s ∷ ss) = s

abbrev pub later_stamps : List Stamp → List Stamp
later_stamps [] = []
later_stamps (s ∷ ss) = ss

-- entries and stamps in step
abbrev pub stamped : {E : Type 0} → List E → List Stamp → List (StampedEntry E)
stamped [] ss = []
stamped (e ∷ es) ss = with_stamp (first_stamp ss) e ∷ stamped es (later_stamps ss)

-- the stamps alone
abbrev pub stamps_of : {E : Type 0} → List (StampedEntry E) → List Stamp
stamps_of [] = []
stamps_of (e ∷ past) = e.stamp ∷ stamps_of past

-- the stamp at a position among these, which counts from 1
abbrev pub nth_stamp : List Stamp → ℕ → Option Stamp
nth_stamp ss zero = None
nth_stamp ss (suc n) = slice_get ss n

-- that of the entry at a position, the oldest being at 1
abbrev pub stamp_at : {E : Type 0} → List (StampedEntry E) → ℕ → Option Stamp
stamp_at past position = nth_stamp (reverse (stamps_of past)) position
