-- The counts of faults of a run, and what a status shows of them.
use Rattle.std.specs.Prelude.{◌≡◌, ◌==◌, ℕ, false, Result}
use Rattle.io_traits.specs.declared.sink.Sink.{Ghosts}
use Rattle.log_session.specs.Edges.{Output}
use Rattle.log_runs.specs.Ends.{Moved}
use Rattle.log_runs.specs.Statuses.{is_disk_fault, is_read_fault}
use Rattle.log_runs.specs.declared.stop.RunStop.{RunStop}

-- what a sink has taken between two states of it
abbrev pub written : {K : Type 0} → Ghosts K → K → K → Output
written sink old new = record { honest = sink.honest old; before = sink.text old; after = sink.text new }

-- the counts of faults before and after: of the source, the sink and the disk
pub record Counts : Type 0 where
  pub source : ℕ × ℕ
  pub sink : ℕ × ℕ
  pub disk : ℕ × ℕ

-- Why a run ended as it did: the count of the source, or of the disk, rose exactly where it stopped by that; and the count of
-- the sink exactly where the status is 4.
pub record HasCause (counts : Counts) (ended : Result Unit RunStop) (status : ℕ) : Type 0 where
  pub source : Moved (is_read_fault ended) counts.source
  pub disk : Moved (is_disk_fault ended) counts.disk
  pub sink : Moved (status == 4) counts.sink

-- What a status shows of the counts: the sink's rose exactly at 4; and at every other status the source's exactly at 3, and the
-- disk's exactly at 5.
pub record Shows (counts : Counts) (status : ℕ) : Type 0 where
  pub sink : Moved (status == 4) counts.sink
  pub source : (status == 4) ≡ false → Moved (status == 3) counts.source
  pub disk : (status == 4) ≡ false → Moved (status == 5) counts.disk
