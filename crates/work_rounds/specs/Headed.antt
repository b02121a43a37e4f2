-- A round with a heading, with a constructor for each way to end.
use Rattle.std.specs.Prelude.{◌≡◌, ℕ, IsTrue, List, [], map, Result, Err}
use Rattle.io_traits.specs.declared.disk.Disk.{Ghosts}
use Rattle.log_journal.specs.declared.opening.OpenError.{OpenError}
use Rattle.log_machine.specs.Scheme.{Scheme, Semantics}
use Rattle.log_machine.specs.Texts.{Texts}
use Rattle.log_session.specs.Asks.{rows_of_asks}
use Rattle.log_session.specs.Edges.{Input, Output, IsReadWhole, HasWritten, HasWrittenShort}
use Rattle.log_session.specs.Links.{IsOpened}
use Rattle.log_session.specs.Planned.{Closes, since, until}
use Rattle.log_session.specs.Sessions.{IsUnopened, IsUnread, ended_filing}
use Rattle.log_session.specs.declared.stop.ReadStop.{ReadStop}
use Rattle.log_session.specs.declared.stop.FileStop.{FileStop}
use Rattle.log_session.specs.declared.stop.FileStop.TheVariants.{Write, NoMemory}
use Rattle.log_session.specs.declared.stop.SessionStop.{SessionStop}
use Rattle.log_session.specs.declared.stop.SessionStop.TheVariants.{Reading, Opening, Filing}

-- The journal is opened, and a heading, asks and a closing text are planned on its list. The heading is written, the asks are filed
-- behind it, and the closing text is written behind their lines.
pub data Headed {D Entry Operation Response Error : Type 0} (disk : Ghosts D) (scheme : Scheme Entry) (semantics : Semantics Entry Operation Response) (texts : Texts Operation Response Error) (plans : List Entry → List ℕ → List Operation → List ℕ → Type 0) (old new : D) (output : Output) : Result Unit SessionStop → Type 0 where
  -- no list was opened
  unopened : (error : OpenError) → IsUnopened disk scheme error old new → output.after ≡ output.before
      → Headed disk scheme semantics texts plans old new output (Err (Opening error))
  -- there was no memory for the plan
  unplanned : (past : List Entry) → IsOpened disk scheme past old new → output.after ≡ output.before
      → Headed disk scheme semantics texts plans old new output (Err (Filing NoMemory))
  -- the heading was cut short; no ask was filed
  unheaded : (past : List Entry) (heading : List ℕ) (operations : List Operation) (closing : List ℕ) → IsOpened disk scheme past old new
      → plans past heading operations closing → HasWrittenShort [] heading output
      → Headed disk scheme semantics texts plans old new output (Err (Filing Write))
  -- the heading was written, and the asks were filed, or some of them in front
  filed : (past : List Entry) (at : D) (heading : List ℕ) (operations : List Operation) (closing text : List ℕ) (ended : Result Unit FileStop) → IsOpened disk scheme past old at
      → plans past heading operations closing → HasWritten heading (until text output)
      → Closes disk scheme semantics texts past at new (since text output) (map texts.said (rows_of_asks operations)) closing ended
      → Headed disk scheme semantics texts plans old new output (ended_filing ended)

-- The same from the text of an input: the input is read whole, and then the journal is opened. `plans` tells what may be planned
-- from a text on a list.
pub data HeadedSession {D Entry Operation Response Error : Type 0} (disk : Ghosts D) (scheme : Scheme Entry) (semantics : Semantics Entry Operation Response) (texts : Texts Operation Response Error) (plans : List ℕ → List Entry → List ℕ → List Operation → List ℕ → Type 0) (limit : ℕ) (old new : D) (input : Input) (output : Output) : Result Unit SessionStop → Type 0 where
  -- the input wasn't read: the disk is as it was
  unread : (stop : ReadStop) → IsUnread stop limit input → new ≡ old → output.after ≡ output.before
      → HeadedSession disk scheme semantics texts plans limit old new input output (Err (Reading stop))
  -- it was
  read : (text : List ℕ) (ended : Result Unit SessionStop) → IsReadWhole limit input → (IsTrue input.honest → text ≡ input.before)
      → Headed disk scheme semantics texts (plans text) old new output ended
      → HeadedSession disk scheme semantics texts plans limit old new input output ended
