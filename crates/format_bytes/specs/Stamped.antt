-- The first fault of bytes that spell no filing behind a stamp.
use Rattle.std.specs.Prelude.{◌≡◌, ℕ, ◌+◌, List, ◌++◌, length, Err}
use Rattle.aid_stamps.specs.Reading.{IsNoStamp}
use Rattle.aid_stamps.specs.Stamps.{IsStamp, stamp_bytes}
use Rattle.aid_stamps.specs.declared.stamp.Stamp.{Stamp}
use Rattle.format_bytes.specs.Taking.{taken}
use Rattle.format_bytes.specs.declared.reading.TakeError.{TakeError}
use Rattle.format_bytes.specs.declared.reading.TakeError.TheVariants.{NotFiling, NoMemory}

-- They begin with no stamp; or behind one the bytes of no filing stand, whose place counts from the stamp's first byte; or there was no
-- memory for the book behind it.
pub data IsNoStamped (bytes : List ℕ) : TakeError → Type 0 where
  no_stamp : (place : ℕ) → IsNoStamp bytes place → IsNoStamped bytes (NotFiling place)
  no_filing : (stamp : Stamp) (rest : List ℕ) (place : ℕ) → IsStamp stamp → bytes ≡ stamp_bytes stamp ++ rest → taken rest ≡ Err place
      → IsNoStamped bytes (NotFiling (length (stamp_bytes stamp) + place))
  no_memory : (stamp : Stamp) (rest : List ℕ) → IsStamp stamp → bytes ≡ stamp_bytes stamp ++ rest → IsNoStamped bytes NoMemory

-- a fault with its place behind so many bytes
abbrev pub moved : ℕ → TakeError → TakeError
moved width (NotFiling place) = NotFiling (width + place)
moved width NoMemory = NoMemory
