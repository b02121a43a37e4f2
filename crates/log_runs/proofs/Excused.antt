-- Why a run that can be done ends early: an edge failed, or there was no memory.
use Rattle.std.proofs.Common.{◌≡◌, ◌⊎◌, inl, inr, ℕ, ◌≤◌, List, length, Result, Ok, Err, IsTrue, refl, arith}
use Rattle.std.specs.Prelude.{IfErr}
use Rattle.io_traits.specs.declared.sink.Sink.{Ghosts as SinkGhosts}
use Rattle.io_traits.specs.DiskState.{IsHonest}
use Rattle.io_traits.specs.declared.disk.Disk.{Ghosts}
use Rattle.log_journal.specs.Head.{IsBorn, IsOld}
use Rattle.log_journal.specs.Stands.{IsUnborn}
use Rattle.log_journal.specs.declared.opening.OpenError.{OpenError}
use Rattle.log_journal.specs.declared.opening.OpenError.TheVariants as opening
use Rattle.log_journal.proofs.Unique.{not_unborn, old_not_unborn}
use Rattle.log_machine.specs.Faulty.{IsFaultyAt}
use Rattle.log_machine.specs.Scheme.{Semantics, Scheme}
use Rattle.log_machine.specs.Texts.{Texts}
use Rattle.log_machine.specs.declared.log.FoundFault.{FoundFault}
use Rattle.log_machine.specs.declared.log.FoundFault.TheVariants as fault_of
use Rattle.log_session.specs.Edges.{Input, Output}
use Rattle.log_session.specs.Sessions.{FoundSession, founded, unsaid, refused, IsNotFounded, IsUnopened, IsUnread, Opens, unopened, opened, Session, unread, read, ended_filing}
use Rattle.log_session.specs.declared.stop.FileStop.{FileStop}
use Rattle.log_session.specs.declared.stop.FileStop.TheVariants as filing_stop
use Rattle.log_session.specs.declared.stop.FoundStop.{FoundStop}
use Rattle.log_session.specs.declared.stop.FoundStop.TheVariants.{Founding}
use Rattle.log_session.specs.declared.stop.ReadStop.{ReadStop}
use Rattle.log_session.specs.declared.stop.ReadStop.TheVariants as reading
use Rattle.log_session.specs.declared.stop.SessionStop.{SessionStop}
use Rattle.log_runs.specs.Ends.{Ends}
use Rattle.log_runs.specs.Ends as ending
use Rattle.log_runs.specs.Statuses.{ended_file, ended_found, found_status, open_status, read_status, status_of}
use Rattle.log_runs.specs.declared.stop.RunStop.{RunStop}

-- the statuses of a fault of an edge, and of want of memory
abbrev pub IsExcused : ℕ → Type 0
IsExcused status = (status ≡ 3) ⊎ ((status ≡ 4) ⊎ ((status ≡ 5) ⊎ (status ≡ 9)))

-- a founding in an unborn file
not_founded_by : {D Entry : Type 0} (disk : Ghosts D) (scheme : Scheme Entry) (old new : D) (fault : FoundFault) → IsNotFounded disk scheme fault old new → IsHonest (disk.tells old)
    → IsUnborn (disk.tells old).reads → IsExcused (found_status (Founding fault))
not_founded_by disk scheme old new fault_of.Exists n honest unborn = absurd (stands (n.exists honest refl).0)
  where
    stands : IsBorn scheme.header (disk.tells old).reads ⊎ IsOld scheme.header (disk.tells old).reads → ⊥
    stands (inl born) = not_unborn scheme.header (disk.tells old).reads born unborn
    stands (inr before) = old_not_unborn scheme.header (disk.tells old).reads before unborn
not_founded_by disk scheme old new fault_of.NotJournal n honest unborn = absurd ((n.foreign honest refl).0.not_unborn unborn)
not_founded_by disk scheme old new fault_of.DiskFault n honest unborn = inr (inr (inl refl))
not_founded_by disk scheme old new fault_of.NoMemory n honest unborn = inr (inr (inr refl))

pub founded_by : {D Entry : Type 0} (disk : Ghosts D) (scheme : Scheme Entry) (old new : D) (line : List ℕ) (output : Output) (ended : Result Unit FoundStop) → FoundSession disk scheme old new line output ended
    → IsHonest (disk.tells old) → IsUnborn (disk.tells old).reads → IfErr (ended_found ended) (λ stop. IsExcused (status_of stop))
founded_by disk scheme old new line output ended (founded is wrote) honest unborn = tt
founded_by disk scheme old new line output ended (unsaid is wrote) honest unborn = inr (inl refl)
founded_by disk scheme old new line output ended (refused fault n same) honest unborn = not_founded_by disk scheme old new fault n honest unborn

-- the reading of an input that isn't too long
pub unread_by : (stop : ReadStop) (limit : ℕ) (input : Input) → IsUnread stop limit input → IsTrue input.honest → length input.before ≤ limit → IsExcused (read_status stop)
unread_by reading.Read limit input is honest short = inl refl
unread_by reading.TooLong limit input is honest short = absurd (omega (arith, is honest, short))
unread_by reading.NoMemory limit input is honest short = inr (inr (inr refl))

-- a session over a born file that isn't damaged
module _ {D Entry : Type 0} (disk : Ghosts D) (scheme : Scheme Entry) (old new : D) (honest : IsHonest (disk.tells old)) (born : IsBorn scheme.header (disk.tells old).reads) (whole : (place : ℕ) → IsFaultyAt scheme (disk.tells old).reads place → ⊥) where
  pub unopened_by : (error : OpenError) → IsUnopened disk scheme error old new → IsExcused (open_status error)
  unopened_by opening.NoOffice u = absurd (not_unborn scheme.header (disk.tells old).reads born (u.unborn honest refl))
  unopened_by opening.NotJournal u = absurd ((u.foreign honest refl).not_born born)
  unopened_by opening.OldVersion u = absurd ((u.old honest refl).not_born born)
  unopened_by (opening.Damaged place) u = absurd (whole place (u.damaged honest place refl).1)
  unopened_by opening.DiskFault u = inr (inr (inl refl))
  unopened_by opening.NoMemory u = inr (inr (inr refl))

  pub filed_by : (ended : Result Unit FileStop) → IfErr (ended_file (ended_filing ended)) (λ stop. IsExcused (status_of stop))
  filed_by (Ok done) = tt
  filed_by (Err filing_stop.Write) = inr (inl refl)
  filed_by (Err (filing_stop.DiskFault undecided)) = inr (inr (inl refl))
  filed_by (Err filing_stop.NoMemory) = inr (inr (inr refl))

  module _ {Operation Response Error : Type 0} (semantics : Semantics Entry Operation Response) (texts : Texts Operation Response Error) (output : Output) where
    pub opened_by : (left : List texts.Meaning) (ended : Result Unit SessionStop) → Opens disk scheme semantics texts old new output left ended
        → IfErr (ended_file ended) (λ stop. IsExcused (status_of stop))
    opened_by left ended (unopened error u same) = unopened_by error u
    opened_by left ended (opened past now at inner is takes) = filed_by inner

    pub session_by : (rows_of : List ℕ → List texts.Meaning) (limit : ℕ) (input : Input) (ended : Result Unit SessionStop) → Session disk scheme semantics texts rows_of limit old new input output ended
        → IsTrue input.honest → length input.before ≤ limit → IfErr (ended_file ended) (λ stop. IsExcused (status_of stop))
    session_by rows_of limit input ended (unread stop is same silent) source short = unread_by stop limit input is source short
    session_by rows_of limit input ended (read left inner is are opens) source short = opened_by left inner opens

pub ends_by : {K : Type 0} (sink : SinkGhosts K) (old new : K) (ended : Result Unit RunStop) (status : ℕ) → Ends sink old new ended status → IfErr ended (λ stop. IsExcused (status_of stop))
    → (status ≡ 0) ⊎ IsExcused status
ends_by sink old new ended status (ending.well same) by = inl refl
ends_by sink old new ended status (ending.stopped stop _ (ending.told put)) by = inr by
ends_by sink old new ended status (ending.stopped stop _ (ending.untold cut)) by = inr (inr (inl refl))

pub unfailed : (status : ℕ) (A B C : Type 0) → (status ≡ 0) ⊎ IsExcused status → (status ≡ 3 → A) → (status ≡ 4 → B) → (status ≡ 5 → C) → (A → ⊥) → (B → ⊥) → (C → ⊥) → (status ≡ 0) ⊎ (status ≡ 9)
unfailed status A B C (inl good) a b c no_a no_b no_c = inl good
unfailed status A B C (inr (inl three)) a b c no_a no_b no_c = absurd (no_a (a three))
unfailed status A B C (inr (inr (inl four))) a b c no_a no_b no_c = absurd (no_b (b four))
unfailed status A B C (inr (inr (inr (inl five)))) a b c no_a no_b no_c = absurd (no_c (c five))
unfailed status A B C (inr (inr (inr (inr nine)))) a b c no_a no_b no_c = inr nine
