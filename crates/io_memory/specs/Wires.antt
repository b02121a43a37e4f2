-- What contracts see of a link in memory.
use Rattle.std.specs.Prelude.{ℕ, ◌+◌, ◌-◌, ◌^◌, min}
use Rattle.io_memory.specs.Kept.{Feed, Tape}
use Rattle.web_session.specs.ConnectionState.{ConnectionState}
use Rattle.std.specs.Prelude.{true}

-- its bytes, its text, and how many bytes a call moves at most
pub record Wire : Type 0 where
  pub feed : Feed
  pub tape : Tape
  pub piece : ℕ

-- what it tells
abbrev pub wire_tells : Wire → ConnectionState
wire_tells w = record { honest = true; left = w.feed.left; text = w.tape.text }

-- the faults of both ways, in one count
abbrev pub wire_faults : Wire → ℕ
wire_faults w = min (w.feed.faults + w.tape.faults) (2 ^ 64 - 1)
