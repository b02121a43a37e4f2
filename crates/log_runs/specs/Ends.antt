-- How a run ends: its last text, its status, and which counts of faults rose. Own.
use Rattle.std.specs.Prelude.{◌≡◌, ◌≤◌, ℕ, Bool, false, IsTrue, List, Result, Ok, Err}
use Rattle.io_traits.specs.Faults.{Rose}
use Rattle.io_traits.specs.declared.sink.Sink.{Ghosts}
use Rattle.log_runs.specs.Puts.{HasCut, HasPut}
use Rattle.log_runs.specs.Statuses.{fault_line, status_of}
use Rattle.log_runs.specs.declared.stop.RunStop.{RunStop}

-- The end of a run with its last text: all of it was written, and the status is the one that goes with it; or the text is cut short, and a write failed.
pub data EndsWith {K : Type 0} (sink : Ghosts K) (text : List ℕ) (shown : ℕ) (old new : K) : ℕ → Type 0 where
  told : HasPut sink text old new → EndsWith sink text shown old new shown
  untold : HasCut sink text old new → EndsWith sink text shown old new 4

-- The end of a run, by how it went: nothing is written where all was done, and otherwise the line of the stop.
pub data Ends {K : Type 0} (sink : Ghosts K) (old new : K) : Result Unit RunStop → ℕ → Type 0 where
  well : new ≡ old → Ends sink old new (Ok tt) 0
  stopped : (stop : RunStop) (status : ℕ) → EndsWith sink (fault_line stop) (status_of stop) old new status → Ends sink old new (Err stop) status

-- a count of faults rose where this is so, and otherwise stood still
pub record Moved (failed : Bool) (count : ℕ × ℕ) : Type 0 where
  pub rose : IsTrue failed → Rose count.0 count.1
  pub same : failed ≡ false → count.1 ≡ count.0

-- an input can be read: its source is honest and has not too many bytes
abbrev pub IsShort : Bool → ℕ → Type 0
IsShort honest size = IsTrue honest × (size ≤ 16777216)
