-- The status of a run that stopped, and its last line. Own.
use Rattle.std.specs.Prelude.{ℕ, Bool, true, false, List, [], ◌++◌, codes, decimal, Some, None, Result, Ok, Err}
use Rattle.log_machine.specs.declared.log.FoundFault.TheVariants as founding
use Rattle.log_journal.specs.declared.opening.OpenError.{OpenError}
use Rattle.log_journal.specs.declared.opening.OpenError.TheVariants as opening
use Rattle.log_session.specs.declared.stop.ReadStop.{ReadStop}
use Rattle.log_session.specs.declared.stop.ReadStop.TheVariants as reading
use Rattle.log_session.specs.declared.stop.FileStop.{FileStop}
use Rattle.log_session.specs.declared.stop.FileStop.TheVariants as filing
use Rattle.log_session.specs.declared.stop.FoundStop.{FoundStop}
use Rattle.log_session.specs.declared.stop.FoundStop.TheVariants as founded
use Rattle.log_session.specs.declared.stop.SessionStop.{SessionStop}
use Rattle.log_session.specs.declared.stop.SessionStop.TheVariants.{Reading, Opening, Filing}
use Rattle.log_runs.specs.declared.stop.RunStop.{RunStop}
use Rattle.log_runs.specs.declared.stop.RunStop.TheVariants.{Usage, Found, File, Check, Socket}
use Rattle.log_session.specs.declared.checking.CheckTally.{CheckTally}
use Rattle.log_session.specs.declared.checking.CheckStop.{CheckStop}
use Rattle.log_session.specs.declared.checking.CheckStop.TheVariants as checking

-- the status of the program
abbrev pub read_status : ReadStop → ℕ
read_status reading.Read = 3
read_status reading.TooLong = 8
read_status reading.NoMemory = 9

abbrev pub open_status : OpenError → ℕ
open_status opening.NoOffice = 6
open_status opening.NotJournal = 6
open_status opening.OldVersion = 6
open_status (opening.Damaged place) = 7
open_status opening.DiskFault = 5
open_status opening.NoMemory = 9

abbrev pub file_status : FileStop → ℕ
file_status filing.Write = 4
file_status (filing.DiskFault undecided) = 5
file_status filing.NoMemory = 9

abbrev pub session_status : SessionStop → ℕ
session_status (Reading stop) = read_status stop
session_status (Opening error) = open_status error
session_status (Filing stop) = file_status stop

abbrev pub found_status : FoundStop → ℕ
found_status (founded.Founding founding.Exists) = 6
found_status (founded.Founding founding.NotJournal) = 6
found_status (founded.Founding founding.DiskFault) = 5
found_status (founded.Founding founding.NoMemory) = 9
found_status founded.Write = 4

abbrev pub check_status : CheckStop → ℕ
check_status (checking.Reading stop) = read_status stop
check_status checking.Write = 4
check_status checking.NoMemory = 9

abbrev pub status_of : RunStop → ℕ
status_of Usage = 2
status_of (Found stop) = found_status stop
status_of (File stop) = session_status stop
status_of (Check stop) = check_status stop
status_of Socket = 10

-- its last line; there is none after a write that failed
abbrev pub read_line : ReadStop → List ℕ
read_line reading.Read = codes "fault read\n"
read_line reading.TooLong = codes "fault too long\n"
read_line reading.NoMemory = codes "fault memory\n"

abbrev pub open_line : OpenError → List ℕ
open_line opening.NoOffice = codes "fault no office\n"
open_line opening.NotJournal = codes "fault not a journal\n"
open_line opening.OldVersion = codes "fault old version\n"
open_line (opening.Damaged place) = codes "fault damaged " ++ decimal place ++ codes "\n"
open_line opening.DiskFault = codes "fault disk none\n"
open_line opening.NoMemory = codes "fault memory\n"

abbrev pub file_line : FileStop → List ℕ
file_line filing.Write = []
file_line (filing.DiskFault None) = codes "fault disk none\n"
file_line (filing.DiskFault (Some position)) = codes "fault disk " ++ decimal position ++ codes "\n"
file_line filing.NoMemory = codes "fault memory\n"

abbrev pub session_line : SessionStop → List ℕ
session_line (Reading stop) = read_line stop
session_line (Opening error) = open_line error
session_line (Filing stop) = file_line stop

abbrev pub found_line : FoundStop → List ℕ
found_line (founded.Founding founding.Exists) = codes "fault office exists\n"
found_line (founded.Founding founding.NotJournal) = codes "fault not a journal\n"
found_line (founded.Founding founding.DiskFault) = codes "fault disk none\n"
found_line (founded.Founding founding.NoMemory) = codes "fault memory\n"
found_line founded.Write = []

abbrev pub check_line : CheckStop → List ℕ
check_line (checking.Reading stop) = read_line stop
check_line checking.Write = []
check_line checking.NoMemory = codes "fault memory\n"

abbrev pub fault_line : RunStop → List ℕ
fault_line Usage = codes "fault usage\n"
fault_line (Found stop) = found_line stop
fault_line (File stop) = session_line stop
fault_line (Check stop) = check_line stop
fault_line Socket = codes "fault socket\n"

-- how a run ended, by how its founding, its session or its check did
abbrev pub ended_found : Result Unit FoundStop → Result Unit RunStop
ended_found (Ok done) = Ok tt
ended_found (Err stop) = Err (Found stop)

abbrev pub ended_file : Result Unit SessionStop → Result Unit RunStop
ended_file (Ok done) = Ok tt
ended_file (Err stop) = Err (File stop)

abbrev pub ended_check : Result CheckTally CheckStop → Result Unit RunStop
ended_check (Ok tally) = Ok tt
ended_check (Err stop) = Err (Check stop)

-- ---- which edge stopped a run
-- a read failed
abbrev pub is_read_fault : Result Unit RunStop → Bool
is_read_fault (Err (File (Reading reading.Read))) = true
is_read_fault (Err (Check (checking.Reading reading.Read))) = true
is_read_fault _ = false

-- a write failed, of what comes before the last line
abbrev pub is_write_fault : Result Unit RunStop → Bool
is_write_fault (Err (Found founded.Write)) = true
is_write_fault (Err (File (Filing filing.Write))) = true
is_write_fault (Err (Check checking.Write)) = true
is_write_fault _ = false

-- the disk refused a call
abbrev pub is_disk_fault : Result Unit RunStop → Bool
is_disk_fault (Err (Found (founded.Founding founding.DiskFault))) = true
is_disk_fault (Err (File (Opening opening.DiskFault))) = true
is_disk_fault (Err (File (Filing (filing.DiskFault undecided)))) = true
is_disk_fault _ = false
