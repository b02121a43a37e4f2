-- What one seal shows of exports. The newest filing stands first.
use Rattle.std.specs.Prelude.{◌≡◌, ◌⊎◌, ℕ, ◌-◌, List, drop, length}
use Rattle.std.specs.List.{AllByRecursion}
use Rattle.aid_filings.specs.declared.filing.Filing.{Filing}
use Rattle.aid_seals.specs.Seals.{IsCollision, clash}
use Rattle.aid_stamps.specs.declared.stamp.Stamp.{Stamp}
use Rattle.format_bytes.specs.Numbers.{IsFiling}
use Rattle.office_export.specs.Seals.{office_name, payloads}
use Rattle.audit.specs.Findings.{AreStamped}

-- the first so many of a list
abbrev pub front_of : {A : Type 0} → ℕ → List A → List A
front_of n past = drop (length past - n) past

-- the same filings under the same stamps
pub record AreSameFilings (past : List Filing) (stamps : List Stamp) (other : List Filing) (others : List Stamp) : Type 0 where
  pub filings : past ≡ other
  pub stamped : stamps ≡ others

-- Two lists are one, or the two messages that `clash` finds in them are a collision of SHA-256.
abbrev pub AreSameOrCollision : List Filing → List Stamp → List Filing → List Stamp → Type 0
AreSameOrCollision past stamps other others =
    AreSameFilings past stamps other others ⊎ IsCollision (clash office_name (payloads past stamps) office_name (payloads other others))

-- filings that an office may hold, each under its stamp
pub record AreOnFile (past : List Filing) (stamps : List Stamp) : Type 0 where
  pub filings : AllByRecursion IsFiling past
  pub stamped : AreStamped past stamps
