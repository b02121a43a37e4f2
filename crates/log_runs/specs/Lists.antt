-- What a run of `found`, or of `file`, does over any list.
use Rattle.std.specs.Prelude.{◌≡◌, ℕ, Bool, true, false, IsTrue, List, [], map, codes, Option, Some, None, Result, Err}
use Rattle.io_traits.specs.declared.sink.Sink.{Ghosts as SinkGhosts}
use Rattle.io_traits.specs.DiskState.{EachImage, IsHonest, DiskState}
use Rattle.io_traits.specs.declared.disk.Disk.{Ghosts}
use Rattle.log_journal.specs.Head.{IsBorn}
use Rattle.log_journal.specs.Stands.{IsUnborn}
use Rattle.log_machine.specs.Faulty.{IsFaultyAt}
use Rattle.log_machine.specs.Recovers.{Recovers}
use Rattle.log_machine.specs.Scheme.{Semantics, Scheme}
use Rattle.log_machine.specs.Texts.{Texts, after_rows}
use Rattle.log_session.specs.Edges.{Input, Output}
use Rattle.log_session.specs.Links.{RecoversOf}
use Rattle.log_session.specs.Sessions.{FoundSession, Session}
use Rattle.log_session.specs.declared.stop.FoundStop.{FoundStop}
use Rattle.log_session.specs.declared.stop.SessionStop.{SessionStop}
use Rattle.log_runs.specs.Counts.{Counts, HasCause, written}
use Rattle.log_runs.specs.Ends.{Ends, IsShort}
use Rattle.log_runs.specs.Statuses.{ended_file, ended_found}
use Rattle.log_runs.specs.declared.list.ListCommand.{ListCommand}
use Rattle.log_runs.specs.declared.list.ListCommand.TheVariants.{Found, File}
use Rattle.log_runs.specs.declared.stop.RunStop.{RunStop}
use Rattle.log_runs.specs.declared.stop.RunStop.TheVariants as stops

-- What a command does, up to how it ends: to the disk, of the input, and with what it writes. `rows_of` tells what the rows of a
-- text say.
pub data DoesList {D Entry Operation Response Error : Type 0} (disk : Ghosts D) (scheme : Scheme Entry) (semantics : Semantics Entry Operation Response) (texts : Texts Operation Response Error) (rows_of : List ℕ → List texts.Meaning) (old new : D) (input : Input) (output : Output) : ListCommand → Result Unit RunStop → Type 0 where
  -- `found`: a list is founded, and `founded` is written
  founding : (ended : Result Unit FoundStop) → FoundSession disk scheme old new (codes "founded\n") output ended
      → DoesList disk scheme semantics texts rows_of old new input output Found (ended_found ended)
  -- `file`: the rows of the input are filed, and a line is written for each
  filing : (ended : Result Unit SessionStop) → Session disk scheme semantics texts rows_of 16777216 old new input output ended
      → DoesList disk scheme semantics texts rows_of old new input output File (ended_file ended)

-- A run over a disk and a sink, by the command that its words are, if any.
pub data RanList {D K Entry Operation Response Error : Type 0} (disk : Ghosts D) (sink : SinkGhosts K) (scheme : Scheme Entry) (semantics : Semantics Entry Operation Response) (texts : Texts Operation Response Error) (rows_of : List ℕ → List texts.Meaning) (counts : Counts) (old new : D) (input : Input) (out out' : K) : Option ListCommand → ℕ → Type 0 where
  -- the words are no row: nothing is read, and no call is made on the disk
  no_row : (status : ℕ) → new ≡ old → input.after ≡ input.before → HasCause counts (Err stops.Usage) status → Ends sink out out' (Err stops.Usage) status
      → RanList disk sink scheme semantics texts rows_of counts old new input out out' None status
  -- they are the row of a command, which has written its text when the run ends
  did : (command : ListCommand) (at : K) (ended : Result Unit RunStop) (status : ℕ) → DoesList disk scheme semantics texts rows_of old new input (written sink out at) command ended
      → sink.honest at ≡ sink.honest out → HasCause counts ended status → Ends sink at out' ended status
      → RanList disk sink scheme semantics texts rows_of counts old new input out out' (Some command) status

-- whether a command reads the input
abbrev pub reads_input : Option ListCommand → Bool
reads_input (Some File) = true
reads_input _ = false

-- A file at a moment of a command recovers the list before it, with what some rows in front of the input's add.
abbrev pub MayRecoverList : {Entry Operation Response Error : Type 0} → Scheme Entry → Semantics Entry Operation Response → (texts : Texts Operation Response Error) → (List ℕ → List texts.Meaning) → Option ListCommand → Input → List Entry → List ℕ → Type 0
MayRecoverList scheme semantics texts rows_of (Some File) input past file = RecoversOf scheme semantics texts rows_of input past file
MayRecoverList scheme semantics texts rows_of _ input past file = Recovers scheme file past

-- the list before a command that works on one: the disk reads as it
abbrev pub StoodBefore : {Entry : Type 0} → Scheme Entry → ListCommand → List ℕ → List Entry → Type 0
StoodBefore scheme Found file past = Unit {0}
StoodBefore scheme File file past = Recovers scheme file past

-- What each image recovers after a command that was done: no entries after `found`, and after `file` the list with what these rows
-- add, which are all of the input's where its source is honest.
abbrev pub StandsList : {Entry Operation Response Error : Type 0} → Scheme Entry → Semantics Entry Operation Response → (texts : Texts Operation Response Error) → (List ℕ → List texts.Meaning) → ListCommand → Input → List Entry → DiskState → Type 0
StandsList scheme semantics texts rows_of Found input past told = EachImage told (λ file. Recovers scheme file [])
StandsList {Entry} {Operation} {Response} {Error} scheme semantics texts rows_of File input past told =
    (rows : List (Result Operation Error)) × (IsTrue input.honest → map texts.said rows ≡ rows_of input.before) × EachImage told (λ file. Recovers scheme file (after_rows semantics past rows))

-- an honest disk whose file is a list's, and isn't damaged
abbrev pub IsListAt : {Entry : Type 0} → Scheme Entry → DiskState → Type 0
IsListAt scheme disk = IsHonest disk × IsBorn scheme.header disk.reads × ((place : ℕ) → IsFaultyAt scheme disk.reads place → ⊥)

-- a command can be done: its input can be read, and the file is one for it
abbrev pub CanBeDone : {Entry : Type 0} → Scheme Entry → ListCommand → Bool → ℕ → DiskState → Type 0
CanBeDone scheme Found honest size disk = IsHonest disk × IsUnborn disk.reads
CanBeDone scheme File honest size disk = IsShort honest size × IsListAt scheme disk
