-- What a contract sees of a stamping docket.
use Rattle.std.specs.Prelude.{ℕ, List}
use Rattle.aid_stamps.specs.declared.stamp.Stamp.{Stamp}

-- the docket below, the stamps, the newest first, and how many more there is room for
pub record Held (R : Type 0) : Type 0 where
  pub inner : R
  pub stamps : List Stamp
  pub spare : ℕ
