-- What a run of the web desk shows of what it answered.
use Rattle.std.proofs.Common.{◌≡◌, ◌⊎◌, inl, inr, ℕ, List, [], Option, None, map, sym, subst}
use Rattle.io_traits.specs.declared.sink.Sink.{Ghosts as SinkGhosts}
use Rattle.aid_filings.specs.declared.filing.Filing.{Filing}
use Rattle.io_traits.specs.DiskState.{IsHonest}
use Rattle.io_traits.specs.declared.disk.Disk.{Ghosts}
use Rattle.log_desks.proofs.Going.{entries_filed, entry_filed}
use Rattle.log_machine.specs.Names.{entry_of, filed_pending}
use Rattle.log_desks.specs.Shares.{stand_of}
use Rattle.log_machine.specs.declared.names.Filed.{Filed}
use Rattle.log_machine.specs.declared.names.RowName.{RowName}
use Rattle.log_machine.specs.Kept.{IsSound}
use Rattle.office_log.specs.OwnLaws.{own_added, adds_added}
use Rattle.office_log.specs.Scheme.{office_scheme}
use Rattle.office_log.specs.Submits.{filing_asked, filing_semantics}
use Rattle.log_stamps.specs.Rows.{semantics_under, own_under}
use Rattle.aid_stamps.specs.declared.stamp.Stamp.{Stamp}
use Rattle.log_stamps.specs.declared.entry.StampedEntry.{StampedEntry}
use Rattle.web_workers.proofs.AllStates.{are_counted, each_told, have_room}
use Rattle.web_workers.proofs.Creating.{created_stand}
use Rattle.web_workers.proofs.Stamped.{own_added_under, adds_added_under}
use Rattle.web_workers.specs.AllTold.{EachIsTold}
use Rattle.web_session.specs.Ports.{AcceptorState}
use Rattle.web_workers.specs.Workers.{HasServed, WorkerView, ports_of, worker_of}
use Rattle.office_history.specs.Answer.{is_admit}
use Rattle.log_lock.specs.declared.turned.Snapshot.{Snapshot}
use Rattle.run_server.specs.RanWeb.{RanWeb, served, starved, unasked, unopened}
use Rattle.run_server.specs.WebAnswers.{CountsFaults, HasAnswered, KeepsCreated, ReservesMemory}
use Rattle.run_server.specs.WebLaws.{created as created_adds, unavailable}
use Rattle.run_server.specs.OfficeApi.{office_web}

module _ {D K P : Type 0} (disk : Ghosts D) (sink : SinkGhosts K) (tells : P → AcceptorState) (faults : P → ℕ) (sessions : ℕ) (stamp : Stamp) (old new : D) (before after : List P) (out out' : K) (status : ℕ) where
  module _ (past history : List (StampedEntry Filing)) (pending : Option (StampedEntry Filing)) (log : List RowName) (waiting : Option RowName) (at : D) (workers : List (WorkerView (StampedEntry Filing) P)) where
    abbrev opening : Snapshot (Filed (StampedEntry Filing))
    opening = stand_of past None [] None (disk.faults old) (disk.tells at).honest

    abbrev closed : Snapshot (Filed (StampedEntry Filing))
    closed = stand_of history pending log waiting (disk.faults new) (disk.tells new).honest

    module _ (has : HasServed (semantics_under stamp filing_semantics) (own_under stamp filing_asked) office_web tells faults sessions opening closed (map worker_of before) workers) (ports : after ≡ ports_of workers) (sound : IsHonest (disk.tells new) → IsSound office_scheme (disk.tells new) history pending) where
      abbrev told : EachIsTold (semantics_under stamp filing_semantics) (own_under stamp filing_asked) office_web tells faults sessions opening closed (map worker_of before) workers has
      told = each_told (semantics_under stamp filing_semantics) (own_under stamp filing_asked) office_web (own_added_under filing_semantics filing_asked own_added stamp) unavailable tells faults sessions opening closed (map worker_of before) workers has

      abbrev answered : HasAnswered disk tells faults sessions stamp new before after
      answered = record {
        workers = workers;
        ports = ports;
        opening = opening;
        closed = closed;
        served = has;
        told = told;
        sound = λ honest. subst (λ (l : List (StampedEntry Filing)). IsSound office_scheme (disk.tells new) l (entry_of (filed_pending pending waiting))) (sym (entries_filed history log))
            (subst (λ (o : Option (StampedEntry Filing)). IsSound office_scheme (disk.tells new) history o) (sym (entry_filed pending waiting)) (sound honest));
      }

      counts_faults : CountsFaults disk tells faults sessions stamp old new before after
      counts_faults = record {
        answered = answered;
        counted = are_counted (semantics_under stamp filing_semantics) (own_under stamp filing_asked) office_web (own_added_under filing_semantics filing_asked own_added stamp) unavailable tells faults sessions opening closed (map worker_of before) workers has told;
      }

      reserves_memory : ReservesMemory disk tells faults sessions stamp new before after
      reserves_memory = record {
        answered = answered;
        room = have_room (semantics_under stamp filing_semantics) (own_under stamp filing_asked) office_web (own_added_under filing_semantics filing_asked own_added stamp) unavailable tells faults sessions opening closed (map worker_of before) workers has told;
      }

      keeps_created : KeepsCreated disk tells faults sessions stamp new before after
      keeps_created = record {
        answered = answered;
        created = created_stand (semantics_under stamp filing_semantics) (own_under stamp filing_asked) office_web (own_added_under filing_semantics filing_asked own_added stamp) is_admit (adds_added_under filing_semantics filing_asked is_admit adds_added stamp) created_adds tells faults sessions opening closed (map worker_of before) workers has told;
      }

  pub counted : RanWeb disk sink tells faults sessions stamp old new before after out out' status → (after ≡ before) ⊎ CountsFaults disk tells faults sessions stamp old new before after
  counted (unasked _ cannot same same_ports ends) = inl same_ports
  counted (unopened error _ can opened cause still_disk same_ports ends) = inl same_ports
  counted (starved past _ can opened still_disk same_ports ends) = inl same_ports
  counted (served past history pending log waiting at workers _ can opened has ports sound moments ends) = inr (counts_faults past history pending log waiting at workers has ports sound)

  pub reserved : RanWeb disk sink tells faults sessions stamp old new before after out out' status → (after ≡ before) ⊎ ReservesMemory disk tells faults sessions stamp new before after
  reserved (unasked _ cannot same same_ports ends) = inl same_ports
  reserved (unopened error _ can opened cause still_disk same_ports ends) = inl same_ports
  reserved (starved past _ can opened still_disk same_ports ends) = inl same_ports
  reserved (served past history pending log waiting at workers _ can opened has ports sound moments ends) = inr (reserves_memory past history pending log waiting at workers has ports sound)

  pub created : RanWeb disk sink tells faults sessions stamp old new before after out out' status → (after ≡ before) ⊎ KeepsCreated disk tells faults sessions stamp new before after
  created (unasked _ cannot same same_ports ends) = inl same_ports
  created (unopened error _ can opened cause still_disk same_ports ends) = inl same_ports
  created (starved past _ can opened still_disk same_ports ends) = inl same_ports
  created (served past history pending log waiting at workers _ can opened has ports sound moments ends) = inr (keeps_created past history pending log waiting at workers has ports sound)
