-- What an amendment does, by how it ends. A list is read newest first.
use Rattle.std.specs.Prelude.{◌≡◌, ◌==◌, ◌<◌, ◌⊎◌, ℕ, IsTrue, List, [], length, Result, Ok, Err}
use Rattle.aid_filings.specs.declared.filing.Filing.{Filing}
use Rattle.aid_stamps.specs.declared.stamp.Stamp.{Stamp}
use Rattle.io_traits.specs.DiskState.{EachImage, IsHonest}
use Rattle.io_traits.specs.declared.disk.Disk.{Ghosts}
use Rattle.io_traits.specs.declared.sink.Sink.{Ghosts as SinkGhosts}
use Rattle.log_journal.specs.Head.{IsBorn, IsForeign, IsOld}
use Rattle.log_journal.specs.Stands.{IsUnborn}
use Rattle.log_runs.specs.Ends.{EndsWith, Moved}
use Rattle.log_session.specs.Edges.{Input, IsReadWhole}
use Rattle.log_session.specs.Sessions.{IsUnread}
use Rattle.log_session.specs.declared.stop.ReadStop.{ReadStop}
use Rattle.log_stamps.specs.Entries.{entries}
use Rattle.log_stamps.specs.declared.entry.StampedEntry.{StampedEntry}
use Rattle.office_amends.specs.Amended.{amended}
use Rattle.office_amends.specs.Plans.{Says, amended_text, errors_text, refused_text}
use Rattle.office_amends.specs.declared.correction.Correction.{Correction}
use Rattle.office_history.specs.Answer.{IsLegal}
use Rattle.office_log.specs.Faulty.{IsFaultyAt}
use Rattle.office_log.specs.Recovers.{Recovers}
use Rattle.office_log.specs.Scheme.{office_header}
use Rattle.run_builds.specs.Ends.{amend_status, amend_text, is_input_stop, is_source_stop, is_target_stop}
use Rattle.run_builds.specs.Targets.{Builds, IsNoOffice}
use Rattle.run_builds.specs.declared.ending.AmendEnd.{AmendEnd}
use Rattle.run_builds.specs.declared.ending.AmendEnd.TheVariants.{Input as Unread, Source, NoMemory, NotMade, Target, Made}
use Rattle.run_builds.specs.declared.ending.BuildFault.{BuildFault}
use Rattle.run_builds.specs.declared.ending.SourceFault.{SourceFault}
use Rattle.run_builds.specs.declared.ending.SourceFault.TheVariants as source

-- what the bytes of a source show that gives no list with stamps; a fault of its disk, and want of memory, show nothing
abbrev pub RefusesList : List ℕ → SourceFault → Type 0
RefusesList file source.NoOffice = IsUnborn file
RefusesList file source.NotJournal = IsForeign office_header file
RefusesList file source.NewVersion = ⊥
RefusesList file source.OldVersion = IsOld office_header file
RefusesList file (source.Damaged place) = IsBorn office_header file × IsFaultyAt file place
RefusesList file source.DiskFault = Unit {0}
RefusesList file source.NoMemory = Unit {0}

-- the source has this list
pub record HasStamped {A : Type 0} (disk : Ghosts A) (past : List (StampedEntry Filing)) (source : A) : Type 0 where
  pub recovers : IsHonest (disk.tells source) → Recovers (disk.tells source).reads past
  pub legal : IsLegal (entries past)

-- how an amendment ended by how its target was built
abbrev pub ended_amendment : Result Unit BuildFault → AmendEnd
ended_amendment (Ok done) = Made
ended_amendment (Err fault) = Target fault

-- What an input of these bytes makes of a list and a target, and the text that tells it. Only where the new list is legal is a call made
-- on the target.
pub data MakesOf {B : Type 0} (to : Ghosts B) (past : List (StampedEntry Filing)) (stamp : Stamp) (number : ℕ) (bytes : List ℕ) (old new : B) : AmendEnd → List ℕ → Type 0 where
  -- rows are no corrections that fit
  wrong_rows : (fits : List Correction) (lines : List (List ℕ)) (text : List ℕ) → Says past number bytes fits lines → 0 < length lines → text ≡ errors_text lines → new ≡ old
      → MakesOf to past stamp number bytes old new NotMade text
  -- filings of the new list don't stand
  not_legal : (fits : List Correction) (text : List ℕ) → Says past number bytes fits [] → (IsLegal (entries (amended stamp fits past)) → ⊥) → text ≡ refused_text stamp fits past → new ≡ old
      → MakesOf to past stamp number bytes old new NotMade text
  -- all stand, and the new list is built
  legal : (fits : List Correction) (text : List ℕ) (ended : Result Unit BuildFault) (end : AmendEnd) → Says past number bytes fits [] → IsLegal (entries (amended stamp fits past))
      → text ≡ amended_text stamp fits past → Builds to (amended stamp fits past) old new ended → end ≡ ended_amendment ended → MakesOf to past stamp number bytes old new end text

-- An amendment up to what it writes: how it ended, and the text that tells what becomes of the list.
pub data Amends {A B : Type 0} (from : Ghosts A) (to : Ghosts B) (stamp : Stamp) (number : ℕ) (input : Input) (source : A) (old new : B) : AmendEnd → List ℕ → Type 0 where
  unread : (stop : ReadStop) → IsUnread stop 16777216 input → new ≡ old → Amends from to stamp number input source old new (Unread stop) []
  source_refused : (fault : SourceFault) → (IsHonest (from.tells source) → RefusesList (from.tells source).reads fault) → new ≡ old
      → Amends from to stamp number input source old new (Source fault) []
  starved : new ≡ old → Amends from to stamp number input source old new NoMemory []
  read : (past : List (StampedEntry Filing)) (bytes : List ℕ) (end : AmendEnd) (text : List ℕ) → HasStamped from past source → IsReadWhole 16777216 input
      → (IsTrue input.honest → bytes ≡ input.before) → MakesOf to past stamp number bytes old new end text → Amends from to stamp number input source old new end text

-- the counts of faults before and after: of the input, the source, the target and the sink
pub record AmendCounts : Type 0 where
  pub input : ℕ × ℕ
  pub source : ℕ × ℕ
  pub target : ℕ × ℕ
  pub sink : ℕ × ℕ

-- why an amendment ended as it did: a count rose exactly where it stopped by that edge, and the sink's exactly at 4
pub record HasAmendCause (counts : AmendCounts) (end : AmendEnd) (status : ℕ) : Type 0 where
  pub input : Moved (is_input_stop end) counts.input
  pub source : Moved (is_source_stop end) counts.source
  pub target : Moved (is_target_stop end) counts.target
  pub sink : Moved (status == 4) counts.sink

-- An amendment: what becomes of the list, and then what is written, with the status.
pub record Amending {A B K : Type 0} (from : Ghosts A) (to : Ghosts B) (sink : SinkGhosts K) (counts : AmendCounts) (stamp : Stamp) (number : ℕ) (input : Input) (source : A) (old new : B) (out out' : K) (status : ℕ) : Type 0 where
  pub end : AmendEnd
  pub text : List ℕ
  pub amends : Amends from to stamp number input source old new end text
  pub cause : HasAmendCause counts end status
  pub ends : EndsWith sink (amend_text end text) (amend_status end) out out' status

-- no office is in the file, or it recovers what the rows of an input make of this list, where all of them are corrections that fit
abbrev pub NoneOrAmended : List (StampedEntry Filing) → Stamp → ℕ → List ℕ → List ℕ → Type 0
NoneOrAmended past stamp number bytes file = IsNoOffice file ⊎ ((fits : List Correction) × Says past number bytes fits [] × Recovers file (amended stamp fits past))

-- the new list was made: the rows are corrections that fit, the list is legal, each image of the target recovers it, and the text tells it
pub record IsAmended {B : Type 0} (to : Ghosts B) (past : List (StampedEntry Filing)) (stamp : Stamp) (number : ℕ) (bytes : List ℕ) (old new : B) (shown : List ℕ) : Type 0 where
  pub fits : List Correction
  pub says : Says past number bytes fits []
  pub legal : IsLegal (entries (amended stamp fits past))
  pub images : IsHonest (to.tells old) → EachImage (to.tells new) (λ file. Recovers file (amended stamp fits past))
  pub text : shown ≡ amended_text stamp fits past

-- it wasn't, and the text tells why: rows are none that fit, or the list that they make isn't legal
pub data IsNotAmended (past : List (StampedEntry Filing)) (stamp : Stamp) (number : ℕ) (bytes text : List ℕ) : Type 0 where
  rows : (fits : List Correction) (lines : List (List ℕ)) → Says past number bytes fits lines → 0 < length lines → text ≡ errors_text lines → IsNotAmended past stamp number bytes text
  list : (fits : List Correction) → Says past number bytes fits [] → (IsLegal (entries (amended stamp fits past)) → ⊥) → text ≡ refused_text stamp fits past
      → IsNotAmended past stamp number bytes text
