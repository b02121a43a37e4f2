-- What a run of the web desk does: the journal, the connections of each port, and the status. The workers that served the ports
-- stay inside it.
use Rattle.std.specs.Prelude.{◌≡◌, ◌⊎◌, ◌<◌, ◌≤◌, ℕ, Bool, true, false, if◌then◌else◌, IsTrue, List, [], ◌++◌, length, map, get_or, Option, None, Result, Ok, Err}
use Rattle.std.specs.List.{list_any}
use Rattle.io_traits.specs.Faults.{Rose}
use Rattle.io_traits.specs.declared.sink.Sink.{Ghosts as SinkGhosts}
use Rattle.aid_filings.specs.declared.filing.Filing.{Filing}
use Rattle.io_traits.specs.DiskState.{EachMoment, IsHonest}
use Rattle.io_traits.specs.declared.disk.Disk.{Ghosts}
use Rattle.log_journal.specs.declared.opening.OpenError.{OpenError}
use Rattle.log_journal.specs.declared.opening.OpenError.TheVariants as opening
use Rattle.log_desks.specs.Shares.{RecoversBetween, stand_of}
use Rattle.log_machine.specs.declared.names.RowName.{RowName}
use Rattle.log_machine.specs.Kept.{IsSound}
use Rattle.log_machine.specs.Submits.{with_entry}
use Rattle.office_log.specs.Scheme.{office_scheme}
use Rattle.office_log.specs.Submits.{filing_asked, filing_semantics}
use Rattle.log_stamps.specs.Rows.{semantics_under, own_under}
use Rattle.aid_stamps.specs.declared.stamp.Stamp.{Stamp}
use Rattle.log_stamps.specs.declared.entry.StampedEntry.{StampedEntry}
use Rattle.log_session.specs.Links.{IsOpened}
use Rattle.log_session.specs.Sessions.{IsUnopened}
use Rattle.log_session.specs.declared.stop.FileStop.TheVariants as filing
use Rattle.log_session.specs.declared.stop.SessionStop.TheVariants as session
use Rattle.web_session.specs.Ports.{Closed, AcceptorState}
use Rattle.web_workers.specs.Workers.{HasServed, WorkerView, ports_of, worker_of}
use Rattle.web_workers.specs.declared.stop.WebEnd.{WebEnd}
use Rattle.web_workers.specs.declared.stop.WebEnd.TheVariants as ended
use Rattle.log_runs.specs.Ends.{Ends}
use Rattle.run_server.specs.OfficeApi.{office_web}
use Rattle.log_runs.specs.declared.stop.RunStop.{RunStop}
use Rattle.log_runs.specs.declared.stop.RunStop.TheVariants.{Usage, File, Socket}

-- the worker's port failed
abbrev pub has_failed : WebEnd → Bool
has_failed ended.Open = false
has_failed ended.Done = false
has_failed ended.AcceptorFault = true

-- how the run ends once the workers have served: for want of memory where a session ended so, else by a port that failed, where one did
abbrev pub web_end : {P : Type 0} → List (WorkerView (StampedEntry Filing) P) → Result Unit RunStop
web_end {P} workers =
    if list_any (λ (d : WorkerView (StampedEntry Filing) P). d.starved) workers then Err (File (session.Filing filing.NoMemory))
    else if list_any (λ (d : WorkerView (StampedEntry Filing) P). has_failed d.ended) workers then Err Socket
    else Ok tt

-- so many ports can be served, so many connections each
pub record CanServe (ports sessions : ℕ) : Type 0 where
  pub some : 0 < ports
  pub few : ports ≤ 16
  pub one : 0 < sessions
  pub most : sessions ≤ 1000000

-- A run of the web desk over these ports, which files under one stamp, by how it ended.
pub data RanWeb {D K P : Type 0} (disk : Ghosts D) (sink : SinkGhosts K) (tells : P → AcceptorState) (faults : P → ℕ) (sessions : ℕ) (stamp : Stamp) (old new : D) (before after : List P) (out out' : K) : ℕ → Type 0 where
  -- there is no port, or more than 16, or the number of sessions is out of range: nothing is done
  unasked : (status : ℕ) → (CanServe (length before) sessions → ⊥) → new ≡ old → after ≡ before → Ends sink out out' (Err Usage) status
      → RanWeb disk sink tells faults sessions stamp old new before after out out' status
  -- no office was opened: no call was made on a port
  unopened : (error : OpenError) (status : ℕ) → CanServe (length before) sessions → IsUnopened disk office_scheme error old new → (error ≡ opening.DiskFault → Rose (disk.faults old) (disk.faults new))
      → (error ≡ opening.DiskFault) ⊎ (disk.faults new ≡ disk.faults old) → after ≡ before → Ends sink out out' (Err (File (session.Opening error))) status
      → RanWeb disk sink tells faults sessions stamp old new before after out out' status
  -- there was no memory for the workers or their lock: no call was made on a port
  starved : (past : List (StampedEntry Filing)) (status : ℕ) → CanServe (length before) sessions → IsOpened disk office_scheme past old new → disk.faults new ≡ disk.faults old → after ≡ before → Ends sink out out' (Err (File (session.Filing filing.NoMemory))) status
      → RanWeb disk sink tells faults sessions stamp old new before after out out' status
  -- The workers of these ports served, and gave them back. Each image of the disk then recovers the list at the end, with or without one undecided filing.
  -- At each moment from the opening on each image recovers a list on the way to it.
  served : (past history : List (StampedEntry Filing)) (pending : Option (StampedEntry Filing)) (log : List RowName) (waiting : Option RowName) (at : D) (workers : List (WorkerView (StampedEntry Filing) P)) (status : ℕ)
      → CanServe (length before) sessions
      → IsOpened disk office_scheme past old at
      → HasServed (semantics_under stamp filing_semantics) (own_under stamp filing_asked) office_web tells faults sessions (stand_of past None [] None (disk.faults old) (disk.tells at).honest) (stand_of history pending log waiting (disk.faults new) (disk.tells new).honest) (map worker_of before) workers
      → after ≡ ports_of workers
      → (IsHonest (disk.tells new) → IsSound office_scheme (disk.tells new) history pending)
      → (IsHonest (disk.tells new) → EachMoment (disk.tells at) (disk.tells new) (RecoversBetween office_scheme past (with_entry pending history)))
      → Ends sink out out' (web_end workers) status
      → RanWeb disk sink tells faults sessions stamp old new before after out out' status

-- ---- what a run shows of its causes
-- what a count did that didn't rise
abbrev pub IsUnrisen : ℕ → ℕ → Type 0
IsUnrisen old new = Rose old new → ⊥

-- a port failed
abbrev pub HasAcceptorFault : {P : Type 0} → (P → ℕ) → List P → List P → Type 0
HasAcceptorFault {P} faults before after = (k : ℕ) × (p : P) × (k < length before) × Rose (faults (get_or before k p)) (faults (get_or after k p))

-- the port took as many connections back as it was to hand out
pub record HasServedAll {P : Type 0} (tells : P → AcceptorState) (sessions : ℕ) (old new : P) : Type 0 where
  pub back : List Closed
  pub count : length back ≡ sessions
  pub closed : IsTrue (tells old).honest → (tells new).closed ≡ (tells old).closed ++ back
