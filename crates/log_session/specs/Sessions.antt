-- What a session does, with a constructor for each way to end.
use Rattle.std.specs.Prelude.{◌≡◌, ◌⊎◌, ◌+◌, ◌++◌, ℕ, Bool, true, false, IsTrue, IsOk, List, [], ◌∷◌, length, map, Option, Result, Ok, Err}
use Rattle.io_traits.specs.DiskState.{EachImage, EachMoment, IsHonest, IsQuiet, IsRead}
use Rattle.io_traits.specs.declared.disk.Disk.{Ghosts}
use Rattle.log_journal.specs.Founded.{UnbornOrEmpty}
use Rattle.log_journal.specs.Head.{IsBorn, IsForeign, IsOld}
use Rattle.log_journal.specs.Stands.{IsUnborn}
use Rattle.log_journal.specs.declared.opening.OpenError.{OpenError}
use Rattle.log_journal.specs.declared.opening.OpenError.TheVariants as opening
use Rattle.log_machine.specs.Scheme.{Scheme, Semantics}
use Rattle.log_machine.specs.Recovers.{Recovers}
use Rattle.log_machine.specs.Faulty.{IsFaultyAt}
use Rattle.log_machine.specs.declared.log.FoundFault.{FoundFault}
use Rattle.log_machine.specs.declared.log.FoundFault.TheVariants as founding
use Rattle.log_session.specs.Edges.{Input, Output, IsReadWhole, IsReadWithin, IsReadPast, HasWritten, HasWrittenShort}
use Rattle.log_machine.specs.Texts.{Texts, after_rows, lines_of, row_line}
use Rattle.log_session.specs.Links.{IsFaulted, IsOpened, Runs}
use Rattle.log_session.specs.declared.stop.ReadStop.{ReadStop}
use Rattle.log_session.specs.declared.stop.ReadStop.TheVariants as reading
use Rattle.log_session.specs.declared.stop.FileStop.{FileStop}
use Rattle.log_session.specs.declared.stop.FileStop.TheVariants as filing
use Rattle.log_session.specs.declared.stop.SessionStop.{SessionStop}
use Rattle.log_session.specs.declared.stop.SessionStop.TheVariants.{Reading, Opening, Filing}
use Rattle.log_session.specs.declared.stop.FoundStop.{FoundStop}
use Rattle.log_session.specs.declared.stop.FoundStop.TheVariants as unfounded

-- a stop in the turn of a row, before its line: the disk failed, or there was no memory and nothing was done
abbrev pub StopsRow : {D Entry Operation Response Error : Type 0} (disk : Ghosts D) → Scheme Entry → Semantics Entry Operation Response → FileStop → Result Operation Error → List Entry → D → D → Type 0
StopsRow disk scheme semantics filing.Write row past old new = ⊥
StopsRow disk scheme semantics (filing.DiskFault undecided) row past old new = IsFaulted disk scheme semantics undecided row past old new
StopsRow disk scheme semantics filing.NoMemory row past old new = new ≡ old

-- Rows filed into an open list of `past`, from one state of the disk to another, with what was written: all of them, or
-- up to a stop. Each row before the stop has its line, and stands in the chain.
pub data Files {D Entry Operation Response Error : Type 0} (disk : Ghosts D) (scheme : Scheme Entry) (semantics : Semantics Entry Operation Response) (texts : Texts Operation Response Error) (past : List Entry) (old new : D) (output : Output) : List (Result Operation Error) → Result Unit FileStop → Type 0 where
  -- all rows were answered
  all : (rows : List (Result Operation Error)) → Runs disk scheme semantics rows past old new
      → HasWritten (lines_of semantics texts past 1 rows) output
      → Files disk scheme semantics texts past old new output rows (Ok tt)
  -- the line of a row was cut short; what the row adds stands
  unwritten : (front : List (Result Operation Error)) (row : Result Operation Error) → Runs disk scheme semantics (front ++ row ∷ []) past old new
      → HasWrittenShort (lines_of semantics texts past 1 front) (row_line semantics texts (after_rows semantics past front) (length front + 1) row) output
      → Files disk scheme semantics texts past old new output (front ++ row ∷ []) (Err filing.Write)
  -- the disk failed in the turn of a row
  faulted : (front : List (Result Operation Error)) (row : Result Operation Error) (last : D) (undecided : Option ℕ) → Runs disk scheme semantics front past old last
      → IsFaulted disk scheme semantics undecided row (after_rows semantics past front) last new
      → HasWritten (lines_of semantics texts past 1 front) output
      → Files disk scheme semantics texts past old new output (front ++ row ∷ []) (Err (filing.DiskFault undecided))
  -- there was no memory for a further row, or for its line, or, before the first row, for the entries that the rows may add
  starved : (front : List (Result Operation Error)) → Runs disk scheme semantics front past old new
      → HasWritten (lines_of semantics texts past 1 front) output
      → Files disk scheme semantics texts past old new output front (Err filing.NoMemory)

-- Of the rows that are left some in front are taken and filed, and all of them where nothing stops that. `now` is the list
-- that is open then.
pub record Takes {D Entry Operation Response Error : Type 0} (disk : Ghosts D) (scheme : Scheme Entry) (semantics : Semantics Entry Operation Response) (texts : Texts Operation Response Error) (past now : List Entry) (old new : D) (output : Output) (left : List texts.Meaning) (ended : Result Unit FileStop) : Type 0 where
  pub rows : List (Result Operation Error)
  pub rest : List texts.Meaning
  pub taken : left ≡ map texts.said rows ++ rest
  pub whole : IsOk ended → rest ≡ []
  pub list : IsOk ended → now ≡ after_rows semantics past rows
  pub files : Files disk scheme semantics texts past old new output rows ended

-- why no list was opened: what the bytes of the file show, and what was written to the disk
pub record IsUnopened {D Entry : Type 0} (disk : Ghosts D) (scheme : Scheme Entry) (error : OpenError) (before after : D) : Type 0 where
  pub honest : (disk.tells after).honest ≡ (disk.tells before).honest
  pub unborn : IsHonest (disk.tells before) → error ≡ opening.NoOffice → IsUnborn (disk.tells before).reads
  pub foreign : IsHonest (disk.tells before) → error ≡ opening.NotJournal → IsForeign scheme.header (disk.tells before).reads
  pub old : IsHonest (disk.tells before) → error ≡ opening.OldVersion → IsOld scheme.header (disk.tells before).reads
  pub damaged : IsHonest (disk.tells before) → (place : ℕ) → error ≡ opening.Damaged place
      → IsBorn scheme.header (disk.tells before).reads × IsFaultyAt scheme (disk.tells before).reads place
  pub complete : IsHonest (disk.tells before) → (past : List Entry) → Recovers scheme (disk.tells before).reads past
      → (error ≡ opening.NoMemory) ⊎ (error ≡ opening.DiskFault)
  pub unfiled : IsHonest (disk.tells before) → (error ≡ opening.DiskFault → ⊥) → IsRead (disk.tells before) (disk.tells after)
  pub untouched : IsHonest (disk.tells before) → ((past : List Entry) × Recovers scheme (disk.tells before).reads past) ⊎ IsRead (disk.tells before) (disk.tells after)
  pub moments : IsHonest (disk.tells before) → (past : List Entry) → EachImage (disk.tells before) (λ file. Recovers scheme file past)
      → EachMoment (disk.tells before) (disk.tells after) (λ file. Recovers scheme file past)

-- why an input wasn't read: never more than one byte past the limit is
abbrev pub IsUnread : ReadStop → ℕ → Input → Type 0
IsUnread reading.Read limit input = IsReadWithin limit input
IsUnread reading.TooLong limit input = IsReadPast limit input
IsUnread reading.NoMemory limit input = IsReadWithin (limit + 1) input

-- how a session ended whose list was opened
abbrev pub ended_filing : Result Unit FileStop → Result Unit SessionStop
ended_filing (Ok done) = Ok tt
ended_filing (Err stop) = Err (Filing stop)

-- the disk refused a call
abbrev pub is_disk_fault : SessionStop → Bool
is_disk_fault (Reading stop) = false
is_disk_fault (Opening opening.NoOffice) = false
is_disk_fault (Opening opening.NotJournal) = false
is_disk_fault (Opening opening.OldVersion) = false
is_disk_fault (Opening (opening.Damaged place)) = false
is_disk_fault (Opening opening.DiskFault) = true
is_disk_fault (Opening opening.NoMemory) = false
is_disk_fault (Filing filing.Write) = false
is_disk_fault (Filing (filing.DiskFault undecided)) = true
is_disk_fault (Filing filing.NoMemory) = false

-- The journal is opened, and then the rows that are left are filed.
pub data Opens {D Entry Operation Response Error : Type 0} (disk : Ghosts D) (scheme : Scheme Entry) (semantics : Semantics Entry Operation Response) (texts : Texts Operation Response Error) (old new : D) (output : Output) (left : List texts.Meaning) : Result Unit SessionStop → Type 0 where
  -- no list was opened
  unopened : (error : OpenError) → IsUnopened disk scheme error old new → output.after ≡ output.before
      → Opens disk scheme semantics texts old new output left (Err (Opening error))
  -- a list was opened, and the rows were filed, or some of them in front
  opened : (past now : List Entry) (at : D) (ended : Result Unit FileStop) → IsOpened disk scheme past old at
      → Takes disk scheme semantics texts past now at new output left ended
      → Opens disk scheme semantics texts old new output left (ended_filing ended)

-- A session over the rows of an input: the input is read whole, then the journal is opened, then the rows are filed.
-- `rows_of` tells what the rows of a text say.
pub data Session {D Entry Operation Response Error : Type 0} (disk : Ghosts D) (scheme : Scheme Entry) (semantics : Semantics Entry Operation Response) (texts : Texts Operation Response Error) (rows_of : List ℕ → List texts.Meaning) (limit : ℕ) (old new : D) (input : Input) (output : Output) : Result Unit SessionStop → Type 0 where
  -- the input wasn't read: the disk is as it was
  unread : (stop : ReadStop) → IsUnread stop limit input → new ≡ old → output.after ≡ output.before
      → Session disk scheme semantics texts rows_of limit old new input output (Err (Reading stop))
  -- it was
  read : (left : List texts.Meaning) (ended : Result Unit SessionStop) → IsReadWhole limit input → (IsTrue input.honest → left ≡ rows_of input.before)
      → Opens disk scheme semantics texts old new output left ended
      → Session disk scheme semantics texts rows_of limit old new input output ended

-- a list without entries was founded
pub record IsFounded {D Entry : Type 0} (disk : Ghosts D) (scheme : Scheme Entry) (old new : D) : Type 0 where
  pub honest : (disk.tells new).honest ≡ (disk.tells old).honest
  pub unborn : IsHonest (disk.tells old) → IsUnborn (disk.tells old).reads
  pub quiet : IsHonest (disk.tells old) → IsQuiet (disk.tells new)
  pub images : IsHonest (disk.tells old) → EachImage (disk.tells new) (λ file. Recovers scheme file [])
  pub moments : IsHonest (disk.tells old) → EachImage (disk.tells old) (UnbornOrEmpty scheme.header) → EachMoment (disk.tells old) (disk.tells new) (UnbornOrEmpty scheme.header)

-- why no list was founded: what the bytes of the file show, and what was written to the disk
pub record IsNotFounded {D Entry : Type 0} (disk : Ghosts D) (scheme : Scheme Entry) (fault : FoundFault) (old new : D) : Type 0 where
  pub honest : (disk.tells new).honest ≡ (disk.tells old).honest
  pub exists : IsHonest (disk.tells old) → fault ≡ founding.Exists
      → (IsBorn scheme.header (disk.tells old).reads ⊎ IsOld scheme.header (disk.tells old).reads) × IsRead (disk.tells old) (disk.tells new)
  pub foreign : IsHonest (disk.tells old) → fault ≡ founding.NotJournal → IsForeign scheme.header (disk.tells old).reads × IsRead (disk.tells old) (disk.tells new)
  pub unfounded : fault ≡ founding.NoMemory → new ≡ old
  pub untouched : IsHonest (disk.tells old) → IsUnborn (disk.tells old).reads ⊎ IsRead (disk.tells old) (disk.tells new)
  pub moments : IsHonest (disk.tells old) → EachImage (disk.tells old) (UnbornOrEmpty scheme.header) → EachMoment (disk.tells old) (disk.tells new) (UnbornOrEmpty scheme.header)

-- A founding, and the line that says so.
pub data FoundSession {D Entry : Type 0} (disk : Ghosts D) (scheme : Scheme Entry) (old new : D) (line : List ℕ) (output : Output) : Result Unit FoundStop → Type 0 where
  founded : IsFounded disk scheme old new → HasWritten line output → FoundSession disk scheme old new line output (Ok tt)
  unsaid : IsFounded disk scheme old new → HasWrittenShort [] line output → FoundSession disk scheme old new line output (Err unfounded.Write)
  refused : (fault : FoundFault) → IsNotFounded disk scheme fault old new → output.after ≡ output.before → FoundSession disk scheme old new line output (Err (unfounded.Founding fault))
