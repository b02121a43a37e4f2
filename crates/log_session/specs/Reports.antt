-- A text that tells of a list, written once the list was opened.
use Rattle.std.specs.Prelude.{◌≡◌, ℕ, List, [], Result, Ok, Err}
use Rattle.io_traits.specs.declared.disk.Disk.{Ghosts}
use Rattle.log_journal.specs.declared.opening.OpenError.{OpenError}
use Rattle.log_machine.specs.Scheme.{Scheme}
use Rattle.log_session.specs.Edges.{Output, HasWritten, HasWrittenShort}
use Rattle.log_session.specs.Links.{IsOpened}
use Rattle.log_session.specs.Sessions.{IsUnopened}
use Rattle.log_session.specs.declared.stop.FileStop.TheVariants.{Write, NoMemory}
use Rattle.log_session.specs.declared.stop.SessionStop.{SessionStop}
use Rattle.log_session.specs.declared.stop.SessionStop.TheVariants.{Opening, Filing}

-- The journal is opened, and then the text of its list is written. No entry is added.
pub data Reports {D Entry : Type 0} (disk : Ghosts D) (scheme : Scheme Entry) (text : List Entry → List ℕ) (old new : D) (output : Output) : Result Unit SessionStop → Type 0 where
  -- no list was opened
  unopened : (error : OpenError) → IsUnopened disk scheme error old new → output.after ≡ output.before
      → Reports disk scheme text old new output (Err (Opening error))
  -- a list was opened, and its text written whole
  told : (past : List Entry) → IsOpened disk scheme past old new → HasWritten (text past) output
      → Reports disk scheme text old new output (Ok tt)
  -- the text was cut short
  unwritten : (past : List Entry) → IsOpened disk scheme past old new → HasWrittenShort [] (text past) output
      → Reports disk scheme text old new output (Err (Filing Write))
  -- there was no memory for the text
  starved : (past : List Entry) → IsOpened disk scheme past old new → output.after ≡ output.before
      → Reports disk scheme text old new output (Err (Filing NoMemory))
