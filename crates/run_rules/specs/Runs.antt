-- What a run of `found`, or of `file`, over a list under rules promises.
use Rattle.std.specs.Prelude.{◌≡◌, ◌≤◌, ◌⊎◌, ◌++◌, ℕ, ℤ, List, [], length, Option, Some, Result, Ok, Err}
use Rattle.io_traits.specs.Faults.{Rose}
use Rattle.io_traits.specs.declared.sink.Sink.{Ghosts as SinkGhosts}
use Rattle.io_traits.specs.DiskState.{EachImage, EachMoment, IsHonest}
use Rattle.io_traits.specs.declared.disk.Disk.{Ghosts}
use Rattle.format_rows.specs.Meanings.{meanings}
use Rattle.format_rows.specs.TableRowFormat.{row_meaning}
use Rattle.format_rows.specs.declared.error.RowError.{RowError}
use Rattle.format_table.specs.Parts.{Slot}
use Rattle.format_table.specs.Tables.{KindRow}
use Rattle.log_machine.specs.Recovers.{Recovers}
use Rattle.log_machine.specs.Scheme.{Semantics, Scheme}
use Rattle.log_machine.specs.Texts.{Texts}
use Rattle.log_runs.specs.Counts.{Counts, Shows, written}
use Rattle.log_runs.specs.Ends.{EndsWith}
use Rattle.log_runs.specs.Lists.{CanBeDone, MayRecoverList, RanList, StandsList, StoodBefore}
use Rattle.log_runs.specs.Statuses.{session_line, session_status}
use Rattle.log_runs.specs.declared.list.ListCommand.{ListCommand}
use Rattle.log_runs.specs.declared.list.ListCommand.TheVariants.{Found, File}
use Rattle.log_session.specs.Edges.{Input}
use Rattle.log_session.specs.Sessions.{Session}
use Rattle.log_session.specs.declared.stop.SessionStop.{SessionStop}
use Rattle.log_rules.specs.Ruled.{semantics_of, scheme_of}
use Rattle.log_rules.specs.Ruling.{Ruling}
use Rattle.log_rules.specs.declared.response.RuleResponse.{RuleResponse}

-- what the rows of a text say, each of a kind of the table
abbrev pub table_rows : List (List ℕ) → List Slot → List KindRow → List ℕ → List (Result (ℕ × List ℤ) RowError)
table_rows words key kinds text = meanings (row_meaning words key kinds) text

-- A run of `file`: a session over the rows of the input, and behind what it writes, where it stopped, the line of the stop.
pub record FileRan {D K Entry Operation Response Error : Type 0} (disk : Ghosts D) (sink : SinkGhosts K) (scheme : Scheme Entry) (semantics : Semantics Entry Operation Response) (texts : Texts Operation Response Error) (rows_of : List ℕ → List texts.Meaning)
    (old new : D) (input : Input) (out out' : K) (status : ℕ) : Type 0 where
  pub at : K
  pub ended : Result Unit SessionStop
  pub session : Session disk scheme semantics texts rows_of 16777216 old new input (written sink out at) ended
  pub honest : sink.honest at ≡ sink.honest out
  pub done : ended ≡ Ok tt → (out' ≡ at) × (status ≡ 0)
  pub early : (stop : SessionStop) → ended ≡ Err stop → EndsWith sink (session_line stop) (session_status stop) at out' status

-- All that a run promises, by the command that its words say, if any. `IsWithin` holds of each legal list.
pub record RanRuled {D K Entry Outcome : Type 0} (ruling : Ruling Entry Outcome) (IsWithin : List Entry → Type 0) (texts : Texts Entry (RuleResponse Outcome) RowError) (rows_of : List ℕ → List texts.Meaning)
    (disk : Ghosts D) (sink : SinkGhosts K) (counts : Counts) (command : Option ListCommand) (old new : D) (input : Input) (out out' : K) (status : ℕ) : Type 0 where
  -- What a file recovers is one list at most, and is within the law.
  pub within : (file : List ℕ) (history : List Entry) → Recovers (scheme_of ruling) file history → IsWithin history
  pub one : (file : List ℕ) (history other : List Entry) → Recovers (scheme_of ruling) file history → Recovers (scheme_of ruling) file other → history ≡ other
  -- All that a run does, by how it ended: the text, the disk at every moment, the counts, and the status.
  pub ran : RanList disk sink (scheme_of ruling) (semantics_of ruling) texts rows_of counts old new input out out' command status
  -- A list without filings was founded.
  pub founded : command ≡ Some Found → status ≡ 0 → IsHonest (disk.tells old) → EachImage (disk.tells new) (λ file. Recovers (scheme_of ruling) file [])
  -- Whatever the command, no filing that stood is lost at any moment.
  pub keeps : (past : List Entry) → IsHonest (disk.tells old) → EachImage (disk.tells old) (λ file. Recovers (scheme_of ruling) file past)
      → EachMoment (disk.tells old) (disk.tells new) (λ file. (added : List Entry) × Recovers (scheme_of ruling) file (added ++ past))
  -- What `file` acknowledges, at every end: the rows that were filed, a line for each, and how it ended.
  pub file_ran : command ≡ Some File → FileRan disk sink (scheme_of ruling) (semantics_of ruling) texts rows_of old new input out out' status
  -- Whatever a run comes to, each image at each moment of it recovers the list before it, with what some rows in front of the
  -- input's add; where it was done, with what all of them add.
  pub moments : (past : List Entry) → IsHonest (disk.tells old) → EachImage (disk.tells old) (λ file. Recovers (scheme_of ruling) file past)
      → EachMoment (disk.tells old) (disk.tells new) (MayRecoverList (scheme_of ruling) (semantics_of ruling) texts rows_of command input past)
  pub stands : (it : ListCommand) (past : List Entry) → command ≡ Some it → status ≡ 0 → IsHonest (disk.tells old) → StoodBefore (scheme_of ruling) it (disk.tells old).reads past
      → StandsList (scheme_of ruling) (semantics_of ruling) texts rows_of it input past (disk.tells new)
  -- 3, 4 and 5 come only where the count of the source, the sink or the disk rose, and no fault is passed over.
  pub shows : Shows counts status
  -- Where no count rose, a command that can be done is done, if there is memory.
  pub complete : (it : ListCommand) → command ≡ Some it → CanBeDone (scheme_of ruling) it input.honest (length input.before) (disk.tells old)
      → (Rose counts.source.0 counts.source.1 → ⊥) → (Rose counts.sink.0 counts.sink.1 → ⊥) → (Rose counts.disk.0 counts.disk.1 → ⊥)
      → (status ≡ 0) ⊎ (status ≡ 9)
  pub source_later : counts.source.0 ≤ counts.source.1
  pub sink_later : counts.sink.0 ≤ counts.sink.1
  pub disk_later : counts.disk.0 ≤ counts.disk.1
  pub sink_honest : sink.honest out' ≡ sink.honest out
  pub disk_honest : (disk.tells new).honest ≡ (disk.tells old).honest
