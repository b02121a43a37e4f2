-- Rows that are filed without lines, and counted; one text ends them. There is a constructor for each way to end.
use Rattle.std.specs.Prelude.{◌≡◌, ◌++◌, ℕ, IsTrue, List, [], ◌∷◌, map, Option, Some, None, Result, Ok, Err}
use Rattle.io_traits.specs.declared.disk.Disk.{Ghosts}
use Rattle.log_journal.specs.declared.opening.OpenError.{OpenError}
use Rattle.log_machine.specs.Scheme.{Scheme, Semantics}
use Rattle.log_session.specs.Edges.{Input, Output, IsReadWhole, HasWritten, HasWrittenShort}
use Rattle.log_machine.specs.Texts.{Texts}
use Rattle.log_session.specs.Links.{IsFaulted, IsOpened, Runs}
use Rattle.log_session.specs.Sessions.{IsUnopened, IsUnread}
use Rattle.log_session.specs.declared.stop.ReadStop.{ReadStop}
use Rattle.log_session.specs.declared.stop.FileStop.{FileStop}
use Rattle.log_session.specs.declared.stop.FileStop.TheVariants.{Write, DiskFault, NoMemory}
use Rattle.log_session.specs.declared.stop.SessionStop.{SessionStop}
use Rattle.log_session.specs.declared.stop.SessionStop.TheVariants.{Reading, Opening, Filing}
use Rattle.log_session.specs.Asks.{after_asks, answers_to, rows_of_asks}

-- a tally with these verdicts more
abbrev pub tallied : {Tally Response : Type 0} → (Tally → Response → Tally) → Tally → List Response → Tally
tallied counted tally [] = tally
tallied counted tally (response ∷ responses) = tallied counted (counted tally response) responses

-- What came behind asks that were answered, by what was left then.
pub data StopsBehind {D Entry Operation Response Error : Type 0} (disk : Ghosts D) (scheme : Scheme Entry) (semantics : Semantics Entry Operation Response) (texts : Texts Operation Response Error) (past : List Entry) (old new : D) : List texts.Meaning → Result (Option Error) FileStop → Type 0 where
  -- nothing was left
  all : new ≡ old → StopsBehind disk scheme semantics texts past old new [] (Ok None)
  -- a row that is no ask
  no_ask : (error : Error) (rest : List texts.Meaning) → new ≡ old → StopsBehind disk scheme semantics texts past old new (texts.said (Err error) ∷ rest) (Ok (Some error))
  -- the disk failed in the turn of a further ask
  faulted : (operation : Operation) (rest : List texts.Meaning) (undecided : Option ℕ) → IsFaulted {Error = Error} disk scheme semantics undecided (Ok operation) past old new
      → StopsBehind disk scheme semantics texts past old new (texts.said (Ok operation) ∷ rest) (Err (DiskFault undecided))
  -- there was no memory for a further row, or, before the first, for the entries that the rows may add
  starved : (rest : List texts.Meaning) → new ≡ old → StopsBehind disk scheme semantics texts past old new rest (Err NoMemory)

-- Of the rows that are left some in front are asks that were filed, and their answers counted; then something came behind
-- them. `start` is the tally before and `final` the one after.
pub record Counts {D Entry Operation Response Error Tally : Type 0} (disk : Ghosts D) (scheme : Scheme Entry) (semantics : Semantics Entry Operation Response) (texts : Texts Operation Response Error) (counted : Tally → Response → Tally) (past : List Entry) (old new : D) (start final : Tally) (left : List texts.Meaning) (ended : Result (Option Error) FileStop) : Type 0 where
  pub operations : List Operation
  pub rest : List texts.Meaning
  pub last : D
  pub taken : left ≡ map texts.said (rows_of_asks operations) ++ rest
  pub runs : Runs {Error = Error} disk scheme semantics (rows_of_asks operations) past old last
  pub tally : final ≡ tallied counted start (answers_to semantics past operations)
  pub behind : StopsBehind disk scheme semantics texts (after_asks semantics past operations) last new rest ended

-- the one text of rows that were counted: what a tally tells, or why a row is no ask
abbrev pub told : {Operation Response Error Tally : Type 0} → Texts Operation Response Error → (Tally → List ℕ) → Tally → Option Error → List ℕ
told texts ending final None = ending final
told texts ending final (Some error) = texts.error_line error

-- The journal is opened, the rows that are left are filed up to one that is no ask, and their answers are counted.
pub data Counted {D Entry Operation Response Error Tally : Type 0} (disk : Ghosts D) (scheme : Scheme Entry) (semantics : Semantics Entry Operation Response) (texts : Texts Operation Response Error) (counted : Tally → Response → Tally) (ending : Tally → List ℕ) (start : Tally) (old new : D) (output : Output) (left : List texts.Meaning) : Result Unit SessionStop → Type 0 where
  -- no list was opened
  unopened : (error : OpenError) → IsUnopened disk scheme error old new → output.after ≡ output.before
      → Counted disk scheme semantics texts counted ending start old new output left (Err (Opening error))
  -- all rows were answered, or those before one that is no ask, and the text was written
  ended : (past : List Entry) (at : D) (final : Tally) (error : Option Error) → IsOpened disk scheme past old at
      → Counts disk scheme semantics texts counted past at new start final left (Ok error)
      → HasWritten (told texts ending final error) output → Counted disk scheme semantics texts counted ending start old new output left (Ok tt)
  -- the text was cut short; what the rows add stands
  unwritten : (past : List Entry) (at : D) (final : Tally) (error : Option Error) → IsOpened disk scheme past old at
      → Counts disk scheme semantics texts counted past at new start final left (Ok error)
      → HasWrittenShort [] (told texts ending final error) output → Counted disk scheme semantics texts counted ending start old new output left (Err (Filing Write))
  -- there was no memory for the text
  untold : (past : List Entry) (at : D) (final : Tally) (error : Option Error) → IsOpened disk scheme past old at
      → Counts disk scheme semantics texts counted past at new start final left (Ok error)
      → output.after ≡ output.before → Counted disk scheme semantics texts counted ending start old new output left (Err (Filing NoMemory))
  -- the rows weren't filed to the last
  stopped : (past : List Entry) (at : D) (final : Tally) (stop : FileStop) → IsOpened disk scheme past old at
      → Counts disk scheme semantics texts counted past at new start final left (Err stop)
      → output.after ≡ output.before → Counted disk scheme semantics texts counted ending start old new output left (Err (Filing stop))

-- The same over the rows of an input: the input is read whole, and then the journal is opened.
pub data CountedSession {D Entry Operation Response Error Tally : Type 0} (disk : Ghosts D) (scheme : Scheme Entry) (semantics : Semantics Entry Operation Response) (texts : Texts Operation Response Error) (counted : Tally → Response → Tally) (ending : Tally → List ℕ) (start : Tally) (rows_of : List ℕ → List texts.Meaning) (limit : ℕ) (old new : D) (input : Input) (output : Output) : Result Unit SessionStop → Type 0 where
  -- the input wasn't read: the disk is as it was
  unread : (stop : ReadStop) → IsUnread stop limit input → new ≡ old → output.after ≡ output.before
      → CountedSession disk scheme semantics texts counted ending start rows_of limit old new input output (Err (Reading stop))
  -- it was
  read : (left : List texts.Meaning) (ended : Result Unit SessionStop) → IsReadWhole limit input → (IsTrue input.honest → left ≡ rows_of input.before)
      → Counted disk scheme semantics texts counted ending start old new output left ended
      → CountedSession disk scheme semantics texts counted ending start rows_of limit old new input output ended
