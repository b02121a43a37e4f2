-- What becomes of a call of a disk in memory, by its number.
use Rattle.std.specs.Prelude.{ℕ, Bool, true, false, List, Option, Some, None, ◌==◌, nat_eq, nat_lt, if◌then◌else◌}
use Rattle.std.specs.List.{list_any}
use Rattle.io_memory.specs.declared.stop.Fill.TheVariants.{Unwritten}
use Rattle.io_memory.specs.declared.stop.DiskStop.{DiskStop}
use Rattle.io_memory.specs.declared.stop.Turn.{Turn}
use Rattle.io_memory.specs.declared.stop.Turn.TheVariants.{Works, Fails}

-- a call fails where its number is one of these
abbrev pub turn_by : List ℕ → ℕ → Turn
turn_by failing call = if list_any (λ n. nat_eq n call) failing then Fails Unwritten else Works

-- where the disk stops it leaves what the stop says, and after that nothing
abbrev pub turn_of : List ℕ → Option DiskStop → ℕ → Turn
turn_of failing None call = turn_by failing call
turn_of failing (Some stop) call = if call == stop.call then Fails stop.fill else (if nat_lt stop.call call then Fails Unwritten else turn_by failing call)

-- it fails
abbrev pub is_failure : Turn → Bool
is_failure Works = false
is_failure (Fails fill) = true
