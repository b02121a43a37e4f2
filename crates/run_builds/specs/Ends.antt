-- How a run over two journals ends: its status and its last line. Own.
use Rattle.std.specs.Prelude.{ℕ, Bool, true, false, List, ◌++◌, codes, decimal, Result, Err}
use Rattle.log_journal.specs.declared.founding.FoundError.TheVariants as target
use Rattle.log_runs.specs.Statuses.{read_line, read_status}
use Rattle.log_session.specs.declared.stop.ReadStop.TheVariants as reading
use Rattle.run_builds.specs.declared.ending.BuildFault.{BuildFault}
use Rattle.run_builds.specs.declared.ending.BuildFault.TheVariants.{Target, NoMemory}
use Rattle.run_builds.specs.declared.ending.SourceFault.{SourceFault}
use Rattle.run_builds.specs.declared.ending.SourceFault.TheVariants as source
use Rattle.run_builds.specs.declared.ending.UpgradeEnd.{UpgradeEnd}
use Rattle.run_builds.specs.declared.ending.UpgradeEnd.TheVariants as upgrade
use Rattle.run_builds.specs.declared.ending.AmendEnd.{AmendEnd}
use Rattle.run_builds.specs.declared.ending.AmendEnd.TheVariants as amend
use Rattle.run_builds.specs.declared.ending.ChangesEnd.{ChangesEnd}
use Rattle.run_builds.specs.declared.ending.ChangesEnd.TheVariants as changes

-- ---- where the source gives no list
abbrev pub source_status : SourceFault → ℕ
source_status source.NoOffice = 6
source_status source.NotJournal = 6
source_status source.NewVersion = 6
source_status source.OldVersion = 6
source_status (source.Damaged place) = 7
source_status source.DiskFault = 5
source_status source.NoMemory = 9

abbrev pub source_line : SourceFault → List ℕ
source_line source.NoOffice = codes "fault no office\n"
source_line source.NotJournal = codes "fault not a journal\n"
source_line source.NewVersion = codes "fault new version\n"
source_line source.OldVersion = codes "fault old version\n"
source_line (source.Damaged place) = codes "fault damaged " ++ decimal place ++ codes "\n"
source_line source.DiskFault = codes "fault disk source\n"
source_line source.NoMemory = codes "fault memory\n"

-- ---- where the target wasn't built
abbrev pub build_status : BuildFault → ℕ
build_status (Target target.Exists) = 6
build_status (Target target.NotJournal) = 6
build_status (Target target.DiskFault) = 5
build_status NoMemory = 9

abbrev pub build_line : BuildFault → List ℕ
build_line (Target target.Exists) = codes "fault office exists\n"
build_line (Target target.NotJournal) = codes "fault target\n"
build_line (Target target.DiskFault) = codes "fault disk target\n"
build_line NoMemory = codes "fault memory\n"

-- the source's disk refused a call, and the target's did
abbrev pub is_disk_fault : SourceFault → Bool
is_disk_fault source.DiskFault = true
is_disk_fault _ = false

abbrev pub is_build_fault : Result Unit BuildFault → Bool
is_build_fault (Err (Target target.DiskFault)) = true
is_build_fault _ = false

-- ---- an upgrade
abbrev pub status_of : UpgradeEnd → ℕ
status_of (upgrade.Source fault) = source_status fault
status_of (upgrade.Target fault) = build_status fault
status_of (upgrade.Copied count) = 0

-- where all was copied: how many filings there are
abbrev pub copied_line : ℕ → List ℕ
copied_line count = codes "copied " ++ decimal count ++ codes "\n"

abbrev pub line_of : UpgradeEnd → List ℕ
line_of (upgrade.Source fault) = source_line fault
line_of (upgrade.Target fault) = build_line fault
line_of (upgrade.Copied count) = copied_line count

abbrev pub is_source_fault : UpgradeEnd → Bool
is_source_fault (upgrade.Source fault) = is_disk_fault fault
is_source_fault _ = false

abbrev pub is_target_fault : UpgradeEnd → Bool
is_target_fault (upgrade.Target fault) = is_build_fault (Err fault)
is_target_fault _ = false

-- ---- an amendment
abbrev pub amend_status : AmendEnd → ℕ
amend_status (amend.Input stop) = read_status stop
amend_status (amend.Source fault) = source_status fault
amend_status amend.NoMemory = 9
amend_status amend.NotMade = 1
amend_status (amend.Target fault) = build_status fault
amend_status amend.Made = 0

-- the line of a fault
abbrev pub amend_line : AmendEnd → List ℕ
amend_line (amend.Input stop) = read_line stop
amend_line (amend.Source fault) = source_line fault
amend_line amend.NoMemory = codes "fault memory\n"
amend_line amend.NotMade = codes ""
amend_line (amend.Target fault) = build_line fault
amend_line amend.Made = codes ""

-- all that is written: the text that tells what becomes of the list, or the line of a fault alone
abbrev pub amend_text : AmendEnd → List ℕ → List ℕ
amend_text amend.NotMade text = text
amend_text amend.Made text = text
amend_text end text = amend_line end

-- which edge an amendment stopped by
abbrev pub is_input_stop : AmendEnd → Bool
is_input_stop (amend.Input reading.Read) = true
is_input_stop _ = false

abbrev pub is_source_stop : AmendEnd → Bool
is_source_stop (amend.Source fault) = is_disk_fault fault
is_source_stop _ = false

abbrev pub is_target_stop : AmendEnd → Bool
is_target_stop (amend.Target fault) = is_build_fault (Err fault)
is_target_stop _ = false

-- ---- a comparison
-- the line of a journal that gives no list
abbrev pub list_line : SourceFault → List ℕ
list_line source.DiskFault = codes "fault disk none\n"
list_line fault = source_line fault

abbrev pub changes_status : ChangesEnd → ℕ
changes_status (changes.Old fault) = source_status fault
changes_status (changes.New fault) = source_status fault
changes_status changes.NoMemory = 9
changes_status changes.Told = 0

-- the lines of a fault: in front of that of the old journal stands a line that says so
abbrev pub changes_line : ChangesEnd → List ℕ
changes_line (changes.Old fault) = codes "in the old journal\n" ++ list_line fault
changes_line (changes.New fault) = list_line fault
changes_line changes.NoMemory = codes "fault memory\n"
changes_line changes.Told = codes ""

-- all that is written: the text that tells what differs, or the lines of a fault alone
abbrev pub changes_shown : ChangesEnd → List ℕ → List ℕ
changes_shown changes.Told text = text
changes_shown end text = changes_line end

-- which edge a comparison stopped by
abbrev pub is_old_stop : ChangesEnd → Bool
is_old_stop (changes.Old fault) = is_disk_fault fault
is_old_stop _ = false

abbrev pub is_new_stop : ChangesEnd → Bool
is_new_stop (changes.New fault) = is_disk_fault fault
is_new_stop _ = false
