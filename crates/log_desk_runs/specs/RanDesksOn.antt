-- What a run of many desks does: their inputs, the list on the disk, what they filed, the text and the status.
use Rattle.std.specs.Prelude.{◌≡◌, ◌≢◌, ◌⊎◌, ◌+◌, ◌<◌, ◌≤◌, ◌++◌, ℕ, Bool, IsTrue, List, [], ◌∷◌, length, reverse, Option, Some, None, get_or, codes}
use Rattle.std.specs.List.{All}
use Rattle.io_traits.specs.Faults.{Rose}
use Rattle.io_traits.specs.declared.sink.Sink.{Ghosts as SinkGhosts}
use Rattle.io_traits.specs.DiskState.{EachMoment, IsHonest}
use Rattle.io_traits.specs.declared.disk.Disk.{Ghosts}
use Rattle.log_journal.specs.declared.opening.OpenError.{OpenError}
use Rattle.log_journal.specs.declared.opening.OpenError.TheVariants as opening
use Rattle.log_machine.specs.Kept.{IsSound}
use Rattle.log_machine.specs.Names.{rows_of as row_names}
use Rattle.log_machine.specs.Scheme.{Scheme, Semantics}
use Rattle.log_machine.specs.Texts.{Texts}
use Rattle.log_machine.specs.Submits.{with_entry}
use Rattle.log_machine.specs.declared.names.Filed.{Filed}
use Rattle.log_machine.specs.declared.names.RowName.{RowName}
use Rattle.log_session.specs.Edges.{Input, IsReadWhole}
use Rattle.log_session.specs.Links.{IsOpened}
use Rattle.log_session.specs.Sessions.{IsUnopened, IsUnread}
use Rattle.log_session.specs.declared.stop.ReadStop.{ReadStop}
use Rattle.log_session.specs.declared.stop.ReadStop.TheVariants as reading
use Rattle.log_lock.specs.Passes.{Known}
use Rattle.log_lock.specs.declared.turned.Snapshot.{Snapshot}
use Rattle.log_desks.specs.Answered.{Files}
use Rattle.log_desks.specs.Desks.{DeskView, Ran, all_shown}
use Rattle.log_desks.specs.Shares.{stand_of, RecoversBetween}
use Rattle.log_desks.specs.declared.stop.DeskEnd.TheVariants.{Open}
use Rattle.log_runs.specs.Ends.{EndsWith}
use Rattle.log_runs.specs.Statuses.{open_line, open_status, read_line, read_status}
use Rattle.log_desk_runs.specs.DeskTexts.{admitted_text, desk_prefix, desks_status, desks_text}
use Rattle.log_desk_runs.specs.Names.{names_of}
use Rattle.log_desk_runs.specs.Reads.{Reads}

-- the input of the desk at a place, counted from 0, before and after
abbrev pub input_at : {I RowFormat : Type 0} → Reads I RowFormat → List I → List I → ℕ → I → Input
input_at reads old new k i = record {
  honest = reads.honest (get_or old k i);
  before = reads.left (get_or old k i);
  after = reads.left (get_or new k i);
}

-- what its rows say, by how they are read and what was left of it
abbrev pub rows_at : {I RowFormat Meaning : Type 0} → (RowFormat → List ℕ → List Meaning) → Reads I RowFormat → List I → ℕ → I → List Meaning
rows_at rows_of reads old k i = rows_of (reads.forms (get_or old k i)) (reads.left (get_or old k i))

-- the count of faults of the input at a place, counted from 0, stood still
abbrev pub HasStood : {I RowFormat : Type 0} → Reads I RowFormat → List I → List I → ℕ → I → Type 0
HasStood reads old new k i = reads.faults (get_or new k i) ≡ reads.faults (get_or old k i)

-- so many desks can file at once
pub record AreFew (desks : ℕ) : Type 0 where
  pub some : 1 ≤ desks
  pub most : desks ≤ 16

-- a desk that hasn't begun, with the rows of an input that was read whole. `left` tells what rows say that weren't taken yet
pub record IsDeskOf {Entry Lines Meaning : Type 0} (left : Lines → List Meaning) (number : ℕ) (meanings : List Meaning) (input : Input)
    (desk : DeskView Entry Lines) : Type 0 where
  pub numbered : desk.number ≡ number
  pub prefix : desk.prefix ≡ desk_prefix number
  pub unbegun : desk.ended ≡ Open
  pub whole : IsReadWhole 16777216 input
  pub rows : IsTrue input.honest → left desk.rows ≡ meanings

-- such a desk was made, behind others
pub record Joins {Entry Lines Meaning : Type 0} (left : Lines → List Meaning) (number : ℕ) (meanings : List Meaning) (input : Input)
    (before after : List (DeskView Entry Lines)) : Type 0 where
  pub desk : DeskView Entry Lines
  pub of : IsDeskOf left number meanings input desk
  pub behind : after ≡ before ++ desk ∷ []

-- the first n inputs were read, their counts of faults stood still, and each has its desk, numbered from 1
pub record AreRead {I RowFormat Entry Lines Meaning : Type 0} (left : Lines → List Meaning) (rows_of : RowFormat → List ℕ → List Meaning)
    (reads : Reads I RowFormat) (n : ℕ) (old new : List I) (desks : List (DeskView Entry Lines)) : Type 0 where
  pub count : length desks ≡ n
  pub unmoved : (k : ℕ) (i : I) → k < n → HasStood reads old new k i
  pub each : (k : ℕ) (i : I) (d : DeskView Entry Lines) → k < n
      → IsDeskOf left (k + 1) (rows_at rows_of reads old k i) (input_at reads old new k i) (get_or desks k d)

-- One input couldn't be read. Those before it were read whole, and nothing of those behind it was. No count of faults rose but
-- that of its source, and that one where a read failed.
pub record IsUnreadAt {I RowFormat : Type 0} (reads : Reads I RowFormat) (stop : ReadStop) (old new : List I) : Type 0 where
  pub place : ℕ
  pub inside : place < length old
  pub before : (k : ℕ) (i : I) → k < place → IsReadWhole 16777216 (input_at reads old new k i)
  pub here : (i : I) → IsUnread stop 16777216 (input_at reads old new place i)
  pub behind : (k : ℕ) (i : I) → place < k → k < length old → get_or new k i ≡ get_or old k i
  pub fault : (i : I) → stop ≡ reading.Read → Rose (reads.faults (get_or old place i)) (reads.faults (get_or new place i))
  pub unmoved : (k : ℕ) (i : I) → k < place → HasStood reads old new k i
  pub still : (i : I) → stop ≢ reading.Read → HasStood reads old new place i

-- What a desk filed: each row was answered on a list that goes on from the list that the desk had seen, and has its line.
pub record FilesOwn {Entry Operation Response Error Lines : Type 0} (semantics : Semantics Entry Operation Response) (own copied : Operation → Option Entry)
    (texts : Texts Operation Response Error) (left : Lines → List texts.Meaning)
    (opening : Snapshot (Filed Entry)) (old new : DeskView Entry Lines) : Type 0 where
  pub number : new.number ≡ old.number
  pub prefix : new.prefix ≡ old.prefix
  pub ended : new.ended ≢ Open
  pub known : Known (Filed Entry)
  pub has : new.handle ≡ Some known
  pub opening_is : known.opening ≡ opening
  pub files : Files semantics own copied texts old.number old.prefix (left old.rows) new.text new.answered new.ended new.last known

-- What the desks filed. `desks` are they as they were before they gave their passes back.
pub record HasFiled {Entry Operation Response Error Lines : Type 0} (semantics : Semantics Entry Operation Response) (own copied : Operation → Option Entry)
    (texts : Texts Operation Response Error) (left : Lines → List texts.Meaning)
    (opening closed : Snapshot (Filed Entry)) (before after : List (DeskView Entry Lines)) : Type 0 where
  pub desks : List (DeskView Entry Lines)
  pub count : length desks ≡ length before
  pub each : (k : ℕ) (d : DeskView Entry Lines) → k < length before
      → FilesOwn semantics own copied texts left opening (get_or before k d) (get_or desks k d)
  pub ran : Ran opening closed desks
  pub shown : all_shown after ≡ all_shown desks

-- the desks are numbered from 1, and none has begun
pub record AreNew {Entry Lines : Type 0} (desks : List (DeskView Entry Lines)) : Type 0 where
  pub few : length desks ≤ 16
  pub numbered : (k : ℕ) (d : DeskView Entry Lines) → k < length desks → (get_or desks k d).number ≡ k + 1
  pub unbegun : All (λ (d : DeskView Entry Lines). d.ended ≡ Open) desks

-- What becomes of the rows of desks once they were read, by how the run ended. `same` tells whether two entries are one.
pub data FilesAll {D K Entry Operation Response Error Lines : Type 0} (scheme : Scheme Entry) (semantics : Semantics Entry Operation Response)
    (own copied : Operation → Option Entry) (same : Entry → Entry → Bool)
    (texts : Texts Operation Response Error) (left : Lines → List texts.Meaning) (disk : Ghosts D) (sink : SinkGhosts K) (old new : D)
    (before : List (DeskView Entry Lines)) (out out' : K) : ℕ → Type 0 where
  -- no list was opened
  unopened : (error : OpenError) (status : ℕ) → IsUnopened disk scheme error old new
      → (error ≡ opening.DiskFault → Rose (disk.faults old) (disk.faults new))
      → (error ≡ opening.DiskFault) ⊎ (disk.faults new ≡ disk.faults old)
      → EndsWith sink (open_line error) (open_status error) out out' status
      → FilesAll scheme semantics own copied same texts left disk sink old new before out out' status
  -- there was no memory for the desks: nothing was filed
  starved : (past : List Entry) (status : ℕ) → IsOpened disk scheme past old new → disk.faults new ≡ disk.faults old
      → EndsWith sink (codes "fault memory\n") 9 out out' status
      → FilesAll scheme semantics own copied same texts left disk sink old new before out out' status
  -- The desks filed. Each image of the disk then recovers the list at the end, with or without one undecided entry. At each moment from the
  -- opening on each image recovers a list on the way to it.
  worked : (after : List (DeskView Entry Lines)) (past history : List Entry) (pending : Option Entry) (log : List RowName) (waiting : Option RowName)
      (at : D) (status : ℕ)
      → IsOpened disk scheme past old at
      → (filed : HasFiled semantics own copied texts left (stand_of past None [] None (disk.faults old) (disk.tells at).honest)
      (stand_of history pending log waiting (disk.faults new) (disk.tells new).honest) before after)
      → (IsHonest (disk.tells new) → IsSound scheme (disk.tells new) history pending)
      → (IsHonest (disk.tells new) → EachMoment (disk.tells at) (disk.tells new) (RecoversBetween scheme past (with_entry pending history)))
      → EndsWith sink
      (desks_text after ++ admitted_text (length past + 1) (names_of same after (length past + 1) (reverse (row_names filed.ran.added))))
      (desks_status after) out out' status
      → FilesAll scheme semantics own copied same texts left disk sink old new before out out' status

-- A run of many desks, by how it ended.
pub data RanDesksOn {D I RowFormat K Entry Operation Response Error Lines : Type 0} (scheme : Scheme Entry) (semantics : Semantics Entry Operation Response)
    (own copied : Operation → Option Entry) (same : Entry → Entry → Bool)
    (texts : Texts Operation Response Error) (left : Lines → List texts.Meaning) (rows_of : RowFormat → List ℕ → List texts.Meaning) (reads : Reads I RowFormat)
    (disk : Ghosts D) (sink : SinkGhosts K) (old new : D) (inputs inputs' : List I) (out out' : K) : ℕ → Type 0 where
  -- there is no desk, or more than 16: nothing is read
  unasked : (status : ℕ) → (AreFew (length inputs) → ⊥) → new ≡ old → inputs' ≡ inputs → EndsWith sink (codes "fault usage\n") 2 out out' status
      → RanDesksOn scheme semantics own copied same texts left rows_of reads disk sink old new inputs inputs' out out' status
  -- an input wasn't read: no call is made on the disk
  unread : (stop : ReadStop) (status : ℕ) → AreFew (length inputs) → IsUnreadAt reads stop inputs inputs' → new ≡ old
      → EndsWith sink (read_line stop) (read_status stop) out out' status
      → RanDesksOn scheme semantics own copied same texts left rows_of reads disk sink old new inputs inputs' out out' status
  -- all inputs were read, each into a desk, and the desks filed
  read : (before : List (DeskView Entry Lines)) (status : ℕ) → AreFew (length inputs)
      → AreRead left rows_of reads (length inputs) inputs inputs' before
      → FilesAll scheme semantics own copied same texts left disk sink old new before out out' status
      → RanDesksOn scheme semantics own copied same texts left rows_of reads disk sink old new inputs inputs' out out' status
