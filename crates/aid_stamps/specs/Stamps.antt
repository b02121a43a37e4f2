-- A stamp and its bytes.
use Rattle.std.specs.Prelude.{ℕ, ◌≤◌, ℤ, pos, ◌-ℤ◌, List, [], ◌++◌}
use Rattle.std.specs.Int.{w32, to_le_bytes, cast_unsigned}
use Rattle.aid_stamps.specs.Clerks.{IsClerk, clerk_bytes}
use Rattle.aid_stamps.specs.declared.stamp.Stamp.{Stamp}

-- 1900-01-01 to 9999-12-31
abbrev pub IsDay : ℕ → Type 0
IsDay day = day ≤ 2958463

-- the days since 1970-01-01
abbrev pub day_number : ℕ → ℤ
day_number day = pos day -ℤ pos 25567

-- in four bytes, the least first; a number below 0 is that of its two's complement
abbrev pub day_bytes : ℕ → List ℕ
day_bytes day = to_le_bytes w32 (cast_unsigned w32 (day_number day))

-- 1970-01-01, and no name
abbrev pub plain_stamp : Stamp
plain_stamp = record { day = 25567; clerk = [] }

-- the stamp is one that a program may hold
pub record IsStamp (s : Stamp) : Type 0 where
  pub day : IsDay s.day
  pub clerk : IsClerk s.clerk

abbrev pub stamp_bytes : Stamp → List ℕ
stamp_bytes s = day_bytes s.day ++ clerk_bytes s.clerk
