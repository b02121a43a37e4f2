-- What a run does that writes a text of a list.
use Rattle.std.specs.Prelude.{◌≡◌, ℕ, List, Option, Some, None, Result, Err}
use Rattle.std.specs.Borrow.{Bor}
use Rattle.io_traits.specs.declared.sink.Sink.{Ghosts as SinkGhosts}
use Rattle.io_traits.specs.declared.disk.Disk.{Ghosts}
use Rattle.log_machine.specs.Scheme.{Scheme}
use Rattle.log_runs.specs.Counts.{Counts, HasCause, written}
use Rattle.log_runs.specs.Ends.{Ends}
use Rattle.log_runs.specs.Statuses.{ended_file}
use Rattle.log_runs.specs.declared.stop.RunStop.TheVariants.{Usage}
use Rattle.log_session.specs.Reports.{Reports}
use Rattle.log_session.specs.declared.stop.SessionStop.{SessionStop}

-- the counts of faults of a run that has no source
abbrev pub edges : ℕ × ℕ → ℕ × ℕ → Counts
edges sink disk = record { source = (0, 0); sink = sink; disk = disk }

-- the text that is asked for, by the list of which it tells
abbrev pub text_of : {T Entry : Type 0} → (T → List Entry → List ℕ) → Option (Bor T) → Option (List Entry → List ℕ)
text_of texts None = None
text_of texts (Some report) = Some (texts report.now)

-- A run over a disk and a sink, by its status.
pub data RanReport {D K Entry : Type 0} (disk : Ghosts D) (sink : SinkGhosts K) (scheme : Scheme Entry) (counts : Counts) (asked : Option (List Entry → List ℕ)) (old new : D) (out out' : K) : ℕ → Type 0 where
  -- no text is asked for: no call is made on the disk
  unasked : (status : ℕ) → asked ≡ None → new ≡ old → HasCause counts (Err Usage) status → Ends sink out out' (Err Usage) status
      → RanReport disk sink scheme counts asked old new out out' status
  -- one is: the list is opened, and its text has been written when the run ends
  did : (text : List Entry → List ℕ) (at : K) (ended : Result Unit SessionStop) (status : ℕ) → asked ≡ Some text
      → Reports disk scheme text old new (written sink out at) ended → sink.honest at ≡ sink.honest out
      → HasCause counts (ended_file ended) status → Ends sink at out' (ended_file ended) status
      → RanReport disk sink scheme counts asked old new out out' status
