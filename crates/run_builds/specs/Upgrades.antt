-- What an upgrade does, by how it ends. A list is read newest first.
use Rattle.std.specs.Prelude.{◌≡◌, ◌==◌, ℕ, List, length, Result, Ok, Err}
use Rattle.io_traits.specs.declared.sink.Sink.{Ghosts as SinkGhosts}
use Rattle.aid_filings.specs.declared.filing.Filing.{Filing}
use Rattle.io_traits.specs.DiskState.{IsHonest, DiskState}
use Rattle.io_traits.specs.declared.disk.Disk.{Ghosts}
use Rattle.log_journal.specs.Head.{IsBorn, IsForeign}
use Rattle.log_journal.specs.Stands.{IsUnborn}
use Rattle.log_machine.specs.Faulty.{IsFaultyAt}
use Rattle.log_machine.specs.Recovers as list
use Rattle.office_log.specs.Scheme.{filing_scheme, office_header, old_header}
use Rattle.log_runs.specs.Ends.{EndsWith, Moved}
use Rattle.office_history.specs.Answer.{IsLegal}
use Rattle.run_builds.specs.Ends.{is_source_fault, is_target_fault, line_of, status_of}
use Rattle.run_builds.specs.Targets.{Builds, under_plain}
use Rattle.run_builds.specs.declared.ending.BuildFault.{BuildFault}
use Rattle.run_builds.specs.declared.ending.SourceFault.{SourceFault}
use Rattle.run_builds.specs.declared.ending.SourceFault.TheVariants as source
use Rattle.run_builds.specs.declared.ending.UpgradeEnd.{UpgradeEnd}
use Rattle.run_builds.specs.declared.ending.UpgradeEnd.TheVariants.{Source, Target, Copied}

-- the file stands for this list of filings without stamps, and the list is legal
abbrev pub RecoversOld : List ℕ → List Filing → Type 0
RecoversOld = list.Recovers filing_scheme

-- what the bytes of a source show that gives no list; a fault of its disk, and want of memory, show nothing
abbrev pub Refuses : List ℕ → SourceFault → Type 0
Refuses file source.NoOffice = IsUnborn file
Refuses file source.NotJournal = IsForeign old_header file × (IsBorn office_header file → ⊥)
Refuses file source.NewVersion = IsBorn office_header file
Refuses file source.OldVersion = ⊥
Refuses file (source.Damaged place) = IsBorn old_header file × IsFaultyAt filing_scheme file place
Refuses file source.DiskFault = Unit {0}
Refuses file source.NoMemory = Unit {0}

-- the source has this list
pub record HasList {A : Type 0} (disk : Ghosts A) (history : List Filing) (source : A) : Type 0 where
  pub recovers : IsHonest (disk.tells source) → RecoversOld (disk.tells source).reads history
  pub legal : IsLegal history

-- how an upgrade ended by how its target was built
abbrev pub ended_upgrade : ℕ → Result Unit BuildFault → UpgradeEnd
ended_upgrade count (Ok done) = Copied count
ended_upgrade count (Err fault) = Target fault

-- An upgrade up to its last line: the source gives no list, and no call is made on the target; or it gives one, which is copied.
pub data Copies {A B : Type 0} (from : Ghosts A) (to : Ghosts B) (source : A) (old new : B) : UpgradeEnd → Type 0 where
  source_refused : (fault : SourceFault) → (IsHonest (from.tells source) → Refuses (from.tells source).reads fault) → new ≡ old
      → Copies from to source old new (Source fault)
  source_read : (history : List Filing) (ended : Result Unit BuildFault) (end : UpgradeEnd) → HasList from history source → Builds to (under_plain history) old new ended
      → end ≡ ended_upgrade (length history) ended → Copies from to source old new end

-- the counts of faults before and after: of the source, the target and the sink
pub record Counts : Type 0 where
  pub source : ℕ × ℕ
  pub target : ℕ × ℕ
  pub sink : ℕ × ℕ

-- why an upgrade ended as it did: the count of a disk rose exactly where it stopped by that, and the sink's exactly at 4
pub record HasCause (counts : Counts) (end : UpgradeEnd) (status : ℕ) : Type 0 where
  pub source : Moved (is_source_fault end) counts.source
  pub target : Moved (is_target_fault end) counts.target
  pub sink : Moved (status == 4) counts.sink

-- An upgrade: what becomes of the list, and then the last line with the status.
pub record Upgrades {A B K : Type 0} (from : Ghosts A) (to : Ghosts B) (sink : SinkGhosts K) (counts : Counts) (source : A) (old new : B) (out out' : K) (status : ℕ) : Type 0 where
  pub end : UpgradeEnd
  pub copies : Copies from to source old new end
  pub cause : HasCause counts end status
  pub ends : EndsWith sink (line_of end) (status_of end) out out' status

-- an honest disk whose file is an office's of version 1, and isn't damaged
abbrev pub IsOldOffice : DiskState → Type 0
IsOldOffice disk = IsHonest disk × IsBorn old_header disk.reads × ((place : ℕ) → IsFaultyAt filing_scheme disk.reads place → ⊥)
