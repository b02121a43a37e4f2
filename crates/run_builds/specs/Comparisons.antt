-- What a comparison of two journals does, by how it ends. A list is read newest first.
use Rattle.std.specs.Prelude.{◌≡◌, ◌==◌, ℕ, List, []}
use Rattle.aid_filings.specs.declared.filing.Filing.{Filing}
use Rattle.io_traits.specs.DiskState.{IsHonest}
use Rattle.io_traits.specs.declared.disk.Disk.{Ghosts}
use Rattle.io_traits.specs.declared.sink.Sink.{Ghosts as SinkGhosts}
use Rattle.log_runs.specs.Ends.{EndsWith, Moved}
use Rattle.log_stamps.specs.declared.entry.StampedEntry.{StampedEntry}
use Rattle.office_amends.specs.Changes.{changes_text}
use Rattle.run_builds.specs.Amendments.{HasStamped, RefusesList}
use Rattle.run_builds.specs.Ends.{changes_shown, changes_status, is_new_stop, is_old_stop}
use Rattle.run_builds.specs.declared.ending.ChangesEnd.{ChangesEnd}
use Rattle.run_builds.specs.declared.ending.ChangesEnd.TheVariants.{Old, New, NoMemory, Told}
use Rattle.run_builds.specs.declared.ending.SourceFault.{SourceFault}

-- A comparison up to what it writes: how it ended, and the text that tells what differs. Where it is told, each journal was read whole.
pub data Compares {A B : Type 0} (one : Ghosts A) (other : Ghosts B) (old : A) (new : B) : ChangesEnd → List ℕ → Type 0 where
  old_refused : (fault : SourceFault) → (IsHonest (one.tells old) → RefusesList (one.tells old).reads fault) → Compares one other old new (Old fault) []
  new_refused : (past : List (StampedEntry Filing)) (fault : SourceFault) → HasStamped one past old → (IsHonest (other.tells new) → RefusesList (other.tells new).reads fault)
      → Compares one other old new (New fault) []
  starved : (past now : List (StampedEntry Filing)) → HasStamped one past old → HasStamped other now new → Compares one other old new NoMemory []
  told : (past now : List (StampedEntry Filing)) (text : List ℕ) → HasStamped one past old → HasStamped other now new → text ≡ changes_text past now
      → Compares one other old new Told text

-- the counts of faults before and after: of either disk and of the sink
pub record ChangesCounts : Type 0 where
  pub old : ℕ × ℕ
  pub new : ℕ × ℕ
  pub sink : ℕ × ℕ

-- why a comparison ended as it did: a count rose exactly where it stopped by that disk, and the sink's exactly at 4
pub record HasChangesCause (counts : ChangesCounts) (end : ChangesEnd) (status : ℕ) : Type 0 where
  pub old : Moved (is_old_stop end) counts.old
  pub new : Moved (is_new_stop end) counts.new
  pub sink : Moved (status == 4) counts.sink

-- a comparison: what differs, and then what is written, with the status
pub record Comparing {A B K : Type 0} (one : Ghosts A) (other : Ghosts B) (sink : SinkGhosts K) (counts : ChangesCounts) (old : A) (new : B) (out out' : K) (status : ℕ) : Type 0 where
  pub end : ChangesEnd
  pub text : List ℕ
  pub compares : Compares one other old new end text
  pub cause : HasChangesCause counts end status
  pub ends : EndsWith sink (changes_shown end text) (changes_status end) out out' status
