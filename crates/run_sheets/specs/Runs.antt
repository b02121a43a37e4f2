-- What a run does that writes a sheet.
use Rattle.std.specs.Prelude.{◌≡◌, ℕ, List, Result, Err}
use Rattle.io_traits.specs.declared.sink.Sink.{Ghosts as SinkGhosts}
use Rattle.io_traits.specs.declared.disk.Disk.{Ghosts}
use Rattle.office_log.specs.Scheme.{office_scheme}
use Rattle.log_runs.specs.Counts.{Counts, HasCause, written}
use Rattle.log_runs.specs.Ends.{Ends}
use Rattle.log_runs.specs.Statuses.{ended_file}
use Rattle.log_runs.specs.declared.stop.RunStop.TheVariants.{Usage}
use Rattle.log_session.specs.Reports.{Reports}
use Rattle.log_session.specs.declared.stop.SessionStop.{SessionStop}
use Rattle.run_sheets.specs.Texts.{sheet_text}
use Rattle.run_sheets.specs.Words.{sheet_words}
use Rattle.run_sheets.specs.declared.request.SheetRow.{SheetRow}

-- A run with these words over a disk and a sink, by its status.
pub data RanSheets {D K : Type 0} (disk : Ghosts D) (sink : SinkGhosts K) (counts : Counts) (words : List (List ℕ)) (old new : D) (out out' : K) : ℕ → Type 0 where
  -- the words are no row: no call is made on the disk
  no_row : (status : ℕ) → ((row : SheetRow) → words ≡ sheet_words row → ⊥) → new ≡ old → HasCause counts (Err Usage) status → Ends sink out out' (Err Usage) status
      → RanSheets disk sink counts words old new out out' status
  -- they are a row: the office is opened, and the text of the sheet has been written when the run ends
  did : (row : SheetRow) (at : K) (ended : Result Unit SessionStop) (status : ℕ) → words ≡ sheet_words row
      → Reports disk office_scheme (sheet_text row) old new (written sink out at) ended → sink.honest at ≡ sink.honest out
      → HasCause counts (ended_file ended) status → Ends sink at out' (ended_file ended) status
      → RanSheets disk sink counts words old new out out' status
