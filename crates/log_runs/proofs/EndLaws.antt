-- How a run ends, and by which fault.
use Rattle.std.proofs.Common.{◌≡◌, inl, inr, ◌⊎◌, ℕ, ◌≤◌, Bool, false, IsTrue, List, Result, Ok, Err, ap, subst, refl, sym, ◌∙◌, arith}
use Rattle.std.specs.Prelude.{◌==◌}
use Rattle.std.proofs.lemmas.Bool.{eq-eqb, false≢true, true≢false}
use Rattle.io_traits.specs.Faults.{Rose}
use Rattle.io_traits.specs.declared.sink.Sink.{Ghosts}
use Rattle.log_journal.specs.declared.opening.OpenError.TheVariants as opening
use Rattle.log_machine.specs.declared.log.FoundFault.TheVariants as fault_of
use Rattle.log_session.specs.declared.checking.CheckStop.TheVariants as checking
use Rattle.log_session.specs.declared.stop.FileStop.TheVariants as filing
use Rattle.log_session.specs.declared.stop.FoundStop.TheVariants as founded
use Rattle.log_session.specs.declared.stop.ReadStop.TheVariants as reading
use Rattle.log_session.specs.declared.stop.SessionStop.TheVariants.{Reading, Opening, Filing}
use Rattle.log_runs.specs.Ends.{Ends, EndsWith, Moved, stopped, told, untold, well}
use Rattle.log_runs.specs.Statuses.{fault_line, is_disk_fault, is_read_fault, is_write_fault, status_of}
use Rattle.log_runs.specs.declared.stop.RunStop.{RunStop}
use Rattle.log_runs.specs.declared.stop.RunStop.TheVariants.{Usage, Found, File, Check, Socket}

-- a count that rose after a time
pub rose_after : (a b c : ℕ) → a ≤ b → Rose b c → Rose a c
rose_after a b c le (inl more) = inl (omega (arith, le, more))
rose_after a b c le (inr last) = inr last

-- a count that stood still
pub stood : (failed : Bool) (a : ℕ) → failed ≡ false → Moved failed (a, a)
stood failed a sound = record { rose = λ bad. absurd (false≢true (sym sound ∙ bad)); same = λ is. refl }

-- ---- which fault a status shows
-- each fault has its status, and each stop one that isn't 0
pub record ShowsFault (stop : RunStop) : Type 0 where
  pub read : is_read_fault (Err stop) ≡ (status_of stop == 3)
  pub write : is_write_fault (Err stop) ≡ (status_of stop == 4)
  pub disk : is_disk_fault (Err stop) ≡ (status_of stop == 5)
  pub some : (status_of stop == 0) ≡ false

pub shown : (stop : RunStop) → ShowsFault stop
shown Usage = record { read = refl; write = refl; disk = refl; some = refl }
shown Socket = record { read = refl; write = refl; disk = refl; some = refl }
shown (Found (founded.Founding fault_of.Exists)) = record { read = refl; write = refl; disk = refl; some = refl }
shown (Found (founded.Founding fault_of.NotJournal)) = record { read = refl; write = refl; disk = refl; some = refl }
shown (Found (founded.Founding fault_of.DiskFault)) = record { read = refl; write = refl; disk = refl; some = refl }
shown (Found (founded.Founding fault_of.NoMemory)) = record { read = refl; write = refl; disk = refl; some = refl }
shown (Found founded.Write) = record { read = refl; write = refl; disk = refl; some = refl }
shown (File (Reading reading.Read)) = record { read = refl; write = refl; disk = refl; some = refl }
shown (File (Reading reading.TooLong)) = record { read = refl; write = refl; disk = refl; some = refl }
shown (File (Reading reading.NoMemory)) = record { read = refl; write = refl; disk = refl; some = refl }
shown (File (Opening opening.NoOffice)) = record { read = refl; write = refl; disk = refl; some = refl }
shown (File (Opening opening.NotJournal)) = record { read = refl; write = refl; disk = refl; some = refl }
shown (File (Opening opening.OldVersion)) = record { read = refl; write = refl; disk = refl; some = refl }
shown (File (Opening (opening.Damaged place))) = record { read = refl; write = refl; disk = refl; some = refl }
shown (File (Opening opening.DiskFault)) = record { read = refl; write = refl; disk = refl; some = refl }
shown (File (Opening opening.NoMemory)) = record { read = refl; write = refl; disk = refl; some = refl }
shown (File (Filing filing.Write)) = record { read = refl; write = refl; disk = refl; some = refl }
shown (File (Filing (filing.DiskFault undecided))) = record { read = refl; write = refl; disk = refl; some = refl }
shown (File (Filing filing.NoMemory)) = record { read = refl; write = refl; disk = refl; some = refl }
shown (Check (checking.Reading reading.Read)) = record { read = refl; write = refl; disk = refl; some = refl }
shown (Check (checking.Reading reading.TooLong)) = record { read = refl; write = refl; disk = refl; some = refl }
shown (Check (checking.Reading reading.NoMemory)) = record { read = refl; write = refl; disk = refl; some = refl }
shown (Check checking.Write) = record { read = refl; write = refl; disk = refl; some = refl }
shown (Check checking.NoMemory) = record { read = refl; write = refl; disk = refl; some = refl }

-- ---- what a status says of how the run ended
module _ {K : Type 0} (sink : Ghosts K) (old new : K) where
  pub read_cause : (ended : Result Unit RunStop) (status : ℕ) → Ends sink old new ended status → status ≡ 3 → IsTrue (is_read_fault ended)
  read_cause ended status (well same) is = absurd (let bad : ⊥ = cc in bad)
  read_cause ended status (stopped stop _ (told put)) is = (shown stop).read ∙ eq-eqb (status_of stop) 3 is
  read_cause ended status (stopped stop _ (untold cut)) is = absurd (let bad : ⊥ = cc in bad)

  pub disk_cause : (ended : Result Unit RunStop) (status : ℕ) → Ends sink old new ended status → status ≡ 5 → IsTrue (is_disk_fault ended)
  disk_cause ended status (well same) is = absurd (let bad : ⊥ = cc in bad)
  disk_cause ended status (stopped stop _ (told put)) is = (shown stop).disk ∙ eq-eqb (status_of stop) 5 is
  disk_cause ended status (stopped stop _ (untold cut)) is = absurd (let bad : ⊥ = cc in bad)

  -- 0 comes where all was done alone
  pub done_at : (ended : Result Unit RunStop) (status : ℕ) → Ends sink old new ended status → status ≡ 0 → ended ≡ Ok tt
  done_at ended status (well same) is = refl
  done_at ended status (stopped stop _ (told put)) is = absurd (true≢false (sym (eq-eqb (status_of stop) 0 is) ∙ (shown stop).some))
  done_at ended status (stopped stop _ (untold cut)) is = absurd (let bad : ⊥ = cc in bad)

  -- a run with a last text ends with its status, or a write failed
  pub with_status : (text : List ℕ) (shows status : ℕ) → EndsWith sink text shows old new status → (status ≡ shows) ⊎ ((status ≡ 4) × Rose (sink.faults old) (sink.faults new))
  with_status text shows status (told put) = inl refl
  with_status text shows status (untold cut) = inr (refl, cut.rose)

  -- the sink's count, over what a command writes and the last line
  pub sink_moved : (ended : Result Unit RunStop) (status a : ℕ) → a ≤ sink.faults old → Moved (is_write_fault ended) (a, sink.faults old) → Ends sink old new ended status
      → Moved (status == 4) (a, sink.faults new)
  sink_moved ended status a le moved (well same) = record { rose = λ bad. absurd (false≢true bad); same = λ is. ap sink.faults same ∙ moved.same refl }
  sink_moved ended status a le moved (stopped stop _ (told put)) = record {
    rose = λ four. subst (λ (n : ℕ). Rose a n) (sym put.unmoved) (moved.rose ((shown stop).write ∙ four));
    same = λ other. put.unmoved ∙ moved.same ((shown stop).write ∙ other);
  }
  sink_moved ended status a le moved (stopped stop _ (untold cut)) = record { rose = λ four. rose_after a (sink.faults old) (sink.faults new) le cut.rose; same = λ other. absurd (true≢false other) }

  -- the sink behind the last line
  pub with_later : (text : List ℕ) (shows status : ℕ) → EndsWith sink text shows old new status → sink.faults old ≤ sink.faults new
  with_later text shows status (told put) = let same = put.unmoved in omega (arith, same)
  with_later text shows status (untold cut) = cut.later

  pub with_honest : (text : List ℕ) (shows status : ℕ) → EndsWith sink text shows old new status → sink.honest new ≡ sink.honest old
  with_honest text shows status (told put) = put.honest
  with_honest text shows status (untold cut) = cut.honest

  pub ends_later : (ended : Result Unit RunStop) (status : ℕ) → Ends sink old new ended status → sink.faults old ≤ sink.faults new
  ends_later ended status (well same) = let still = ap sink.faults same in omega (arith, still)
  ends_later ended status (stopped stop _ with) = with_later (fault_line stop) (status_of stop) status with

  pub ends_honest : (ended : Result Unit RunStop) (status : ℕ) → Ends sink old new ended status → sink.honest new ≡ sink.honest old
  ends_honest ended status (well same) = ap sink.honest same
  ends_honest ended status (stopped stop _ with) = with_honest (fault_line stop) (status_of stop) status with
