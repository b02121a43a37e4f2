-- What becomes of a target in which an office is built. A list is read newest first.
use Rattle.std.specs.Prelude.{◌≡◌, ◌⊎◌, ℕ, List, map, Result, Ok, Err}
use Rattle.aid_filings.specs.declared.filing.Filing.{Filing}
use Rattle.aid_stamps.specs.Stamps.{plain_stamp}
use Rattle.io_traits.specs.DiskState.{EachImage, EachMoment, IsHonest, IsRead}
use Rattle.io_traits.specs.declared.disk.Disk.{Ghosts}
use Rattle.log_builds.specs.Built.{IsNoJournal}
use Rattle.log_journal.specs.Head.{IsBorn, IsForeign, IsOld}
use Rattle.log_journal.specs.Stands.{IsUnborn}
use Rattle.log_journal.specs.declared.founding.FoundError.{FoundError}
use Rattle.log_journal.specs.declared.founding.FoundError.TheVariants as target
use Rattle.log_stamps.specs.Entries.{with_stamp}
use Rattle.log_stamps.specs.declared.entry.StampedEntry.{StampedEntry}
use Rattle.office_log.specs.Recovers.{Recovers}
use Rattle.office_log.specs.Scheme.{office_header}
use Rattle.run_builds.specs.declared.ending.BuildFault.{BuildFault}
use Rattle.run_builds.specs.declared.ending.BuildFault.TheVariants.{Target, NoMemory}

-- these filings, each under the plain stamp
abbrev pub under_plain : List Filing → List (StampedEntry Filing)
under_plain filings = map (with_stamp plain_stamp) filings

-- no office is in the file, of this version or of the one before: a run finds none there, or no journal
abbrev pub IsNoOffice : List ℕ → Type 0
IsNoOffice file = IsNoJournal office_header file

-- no office is in the file, or it recovers all of this list
abbrev pub NoneOrAll : List (StampedEntry Filing) → List ℕ → Type 0
NoneOrAll list file = IsNoOffice file ⊎ Recovers file list

-- what a target is at each moment: each image is one of those that there were before, or no office, or recovers the whole list
abbrev pub IsNeverHalf : {B : Type 0} → Ghosts B → List (StampedEntry Filing) → B → B → Type 0
IsNeverHalf disk list old new = IsHonest (disk.tells old)
    → EachMoment (disk.tells old) (disk.tells new) (λ file. (disk.tells old).image file ⊎ NoneOrAll list file)

-- why this list wasn't built: what the bytes of the target show, and what was written
pub record IsNotBuilt {B : Type 0} (disk : Ghosts B) (list : List (StampedEntry Filing)) (error : FoundError) (old new : B) : Type 0 where
  pub honest : (disk.tells new).honest ≡ (disk.tells old).honest
  pub exists : IsHonest (disk.tells old) → error ≡ target.Exists
      → (IsBorn office_header (disk.tells old).reads ⊎ IsOld office_header (disk.tells old).reads) × IsRead (disk.tells old) (disk.tells new)
  pub foreign : IsHonest (disk.tells old) → error ≡ target.NotJournal → IsForeign office_header (disk.tells old).reads × IsRead (disk.tells old) (disk.tells new)
  pub untouched : IsHonest (disk.tells old) → IsUnborn (disk.tells old).reads ⊎ IsRead (disk.tells old) (disk.tells new)
  pub moments : IsNeverHalf disk list old new

-- this list was built in an unborn target: each image recovers the whole list
pub record IsBuilt {B : Type 0} (disk : Ghosts B) (list : List (StampedEntry Filing)) (old new : B) : Type 0 where
  pub honest : (disk.tells new).honest ≡ (disk.tells old).honest
  pub unborn : IsHonest (disk.tells old) → IsUnborn (disk.tells old).reads
  pub images : IsHonest (disk.tells old) → EachImage (disk.tells new) (λ file. Recovers file list)
  pub moments : IsNeverHalf disk list old new

-- What becomes of a target in which this list is built.
pub data Builds {B : Type 0} (disk : Ghosts B) (list : List (StampedEntry Filing)) (old new : B) : Result Unit BuildFault → Type 0 where
  -- there was no memory for a filing's bytes, and no call was made
  starved : new ≡ old → Builds disk list old new (Err NoMemory)
  -- the target was refused, or its disk failed
  not_built : (error : FoundError) → IsNotBuilt disk list error old new → Builds disk list old new (Err (Target error))
  -- all was built
  built : IsBuilt disk list old new → Builds disk list old new (Ok tt)
