-- What a run of the web desk shows of what it answered.
use Rattle.std.specs.Prelude.{◌≡◌, ℕ, List, map}
use Rattle.aid_filings.specs.declared.filing.Filing.{Filing}
use Rattle.io_traits.specs.DiskState.{IsHonest}
use Rattle.io_traits.specs.declared.disk.Disk.{Ghosts}
use Rattle.log_machine.specs.Names.{entries_of, entry_of}
use Rattle.log_machine.specs.declared.names.Filed.{Filed}
use Rattle.log_machine.specs.Kept.{IsSound}
use Rattle.office_log.specs.Scheme.{office_scheme}
use Rattle.office_log.specs.Submits.{filing_asked, filing_semantics}
use Rattle.log_stamps.specs.Rows.{semantics_under, own_under}
use Rattle.aid_stamps.specs.declared.stamp.Stamp.{Stamp}
use Rattle.log_stamps.specs.declared.entry.StampedEntry.{StampedEntry}
use Rattle.web_workers.specs.AllTold.{AllHonest, CreatedStand, EachIsTold, HaveRoom, all_unavailable}
use Rattle.web_session.specs.Ports.{AcceptorState}
use Rattle.web_workers.specs.Workers.{HasServed, WorkerView, ports_of, worker_of}
use Rattle.log_lock.specs.Turning.{RoseBy}
use Rattle.log_lock.specs.declared.turned.Snapshot.{Snapshot}
use Rattle.run_server.specs.OfficeApi.{office_web}

-- The workers of these ports served, and what the connections of an honest port were told is of the list at the end. Each image of the disk then
-- recovers that list, with or without one undecided filing.
pub record HasAnswered {D P : Type 0} (disk : Ghosts D) (tells : P → AcceptorState) (faults : P → ℕ) (sessions : ℕ) (stamp : Stamp) (new : D) (before after : List P) : Type 0 where
  pub workers : List (WorkerView (StampedEntry Filing) P)
  pub ports : after ≡ ports_of workers
  pub opening : Snapshot (Filed (StampedEntry Filing))
  pub closed : Snapshot (Filed (StampedEntry Filing))
  pub served : HasServed (semantics_under stamp filing_semantics) (own_under stamp filing_asked) office_web tells faults sessions opening closed (map worker_of before) workers
  pub told : EachIsTold (semantics_under stamp filing_semantics) (own_under stamp filing_asked) office_web tells faults sessions opening closed (map worker_of before) workers served
  pub sound : IsHonest (disk.tells new) → IsSound office_scheme (disk.tells new) (entries_of closed.list) (entry_of closed.pending)

-- and the disk's count of faults rose by all 503 that were answered, where all ports are honest, and stood still where there was none
pub record CountsFaults {D P : Type 0} (disk : Ghosts D) (tells : P → AcceptorState) (faults : P → ℕ) (sessions : ℕ) (stamp : Stamp) (old new : D) (before after : List P) : Type 0 where
  pub answered : HasAnswered disk tells faults sessions stamp new before after
  pub counted : (honest : AllHonest tells (map worker_of before)) (d : WorkerView (StampedEntry Filing) P)
      → RoseBy (all_unavailable (semantics_under stamp filing_semantics) (own_under stamp filing_asked) office_web tells faults sessions answered.opening answered.closed (map worker_of before) answered.workers answered.served answered.told honest d) (disk.faults old) (disk.faults new)
      × (all_unavailable (semantics_under stamp filing_semantics) (own_under stamp filing_asked) office_web tells faults sessions answered.opening answered.closed (map worker_of before) answered.workers answered.served answered.told honest d ≡ 0 → disk.faults new ≡ disk.faults old)

-- and where any ask was answered 507, at least as many as there are ports were answered otherwise, where all ports are honest
pub record ReservesMemory {D P : Type 0} (disk : Ghosts D) (tells : P → AcceptorState) (faults : P → ℕ) (sessions : ℕ) (stamp : Stamp) (new : D) (before after : List P) : Type 0 where
  pub answered : HasAnswered disk tells faults sessions stamp new before after
  pub room : HaveRoom (semantics_under stamp filing_semantics) (own_under stamp filing_asked) office_web tells faults sessions answered.opening answered.closed (map worker_of before) answered.workers answered.served answered.told

-- and where an honest port answered 201, the request's own filing stands in the list at the end
pub record KeepsCreated {D P : Type 0} (disk : Ghosts D) (tells : P → AcceptorState) (faults : P → ℕ) (sessions : ℕ) (stamp : Stamp) (new : D) (before after : List P) : Type 0 where
  pub answered : HasAnswered disk tells faults sessions stamp new before after
  pub created : CreatedStand (semantics_under stamp filing_semantics) (own_under stamp filing_asked) office_web tells faults sessions answered.opening answered.closed (map worker_of before) answered.workers answered.served answered.told
