-- Rows that are planned on the list as it is opened, with a constructor for each way to end.
use Rattle.std.specs.Prelude.{◌≡◌, ℕ, List, [], map, Result, Ok, Err}
use Rattle.io_traits.specs.declared.disk.Disk.{Ghosts}
use Rattle.log_journal.specs.declared.opening.OpenError.{OpenError}
use Rattle.log_machine.specs.Scheme.{Scheme, Semantics}
use Rattle.log_session.specs.Edges.{Output, HasWritten, HasWrittenShort}
use Rattle.log_machine.specs.Texts.{Texts}
use Rattle.log_session.specs.Links.{IsOpened}
use Rattle.log_session.specs.Sessions.{IsUnopened, Takes, ended_filing}
use Rattle.log_session.specs.declared.stop.FileStop.{FileStop}
use Rattle.log_session.specs.declared.stop.FileStop.TheVariants.{Write, NoMemory}
use Rattle.log_session.specs.declared.stop.SessionStop.{SessionStop}
use Rattle.log_session.specs.declared.stop.SessionStop.TheVariants.{Opening, Filing}
use Rattle.log_session.specs.Asks.{rows_of_asks}

-- the sink up to a text that it had meanwhile, and from it on
abbrev pub until : List ℕ → Output → Output
until text output = record { honest = output.honest; before = output.before; after = text }

abbrev pub since : List ℕ → Output → Output
since text output = record { honest = output.honest; before = text; after = output.after }

-- Rows are filed into an open list of `past`, and a closing text is written behind their lines.
pub data Closes {D Entry Operation Response Error : Type 0} (disk : Ghosts D) (scheme : Scheme Entry) (semantics : Semantics Entry Operation Response) (texts : Texts Operation Response Error) (past : List Entry) (old new : D) (output : Output) (left : List texts.Meaning) (closing : List ℕ) : Result Unit FileStop → Type 0 where
  -- the rows were filed to the last, and the closing text was written
  closed : (now : List Entry) (lines : List ℕ) → Takes disk scheme semantics texts past now old new (until lines output) left (Ok tt)
      → HasWritten closing (since lines output) → Closes disk scheme semantics texts past old new output left closing (Ok tt)
  -- the closing text was cut short; what the rows add stands
  unclosed : (now : List Entry) (lines : List ℕ) → Takes disk scheme semantics texts past now old new (until lines output) left (Ok tt)
      → HasWrittenShort [] closing (since lines output) → Closes disk scheme semantics texts past old new output left closing (Err Write)
  -- the rows weren't filed to the last
  stopped : (now : List Entry) (stop : FileStop) → Takes disk scheme semantics texts past now old new output left (Err stop)
      → Closes disk scheme semantics texts past old new output left closing (Err stop)

-- The journal is opened, asks and a closing text are planned on its list, the asks are filed, and the closing text is
-- written behind their lines.
pub data Planned {D Entry Operation Response Error : Type 0} (disk : Ghosts D) (scheme : Scheme Entry) (semantics : Semantics Entry Operation Response) (texts : Texts Operation Response Error) (plans : List Entry → List Operation → List ℕ → Type 0) (old new : D) (output : Output) : Result Unit SessionStop → Type 0 where
  -- no list was opened
  unopened : (error : OpenError) → IsUnopened disk scheme error old new → output.after ≡ output.before
      → Planned disk scheme semantics texts plans old new output (Err (Opening error))
  -- there was no memory for the plan
  unplanned : (past : List Entry) → IsOpened disk scheme past old new → output.after ≡ output.before
      → Planned disk scheme semantics texts plans old new output (Err (Filing NoMemory))
  -- the asks that were planned on the list were filed, or some of them in front
  filed : (past : List Entry) (at : D) (operations : List Operation) (closing : List ℕ) (ended : Result Unit FileStop) → IsOpened disk scheme past old at
      → plans past operations closing → Closes disk scheme semantics texts past at new output (map texts.said (rows_of_asks operations)) closing ended
      → Planned disk scheme semantics texts plans old new output (ended_filing ended)
