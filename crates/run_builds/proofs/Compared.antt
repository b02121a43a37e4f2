-- What follows from how a comparison ended.
use Rattle.std.proofs.Common.{◌≡◌, inl, inr, ◌⊎◌, ℕ, List, refl, ◌∙◌, ap, false, ◌++◌}
use Rattle.std.specs.Prelude.{◌==◌, IsTrue}
use Rattle.aid_filings.specs.declared.filing.Filing.{Filing}
use Rattle.io_traits.specs.DiskState.{IsHonest}
use Rattle.io_traits.specs.Faults.{Rose}
use Rattle.io_traits.specs.declared.disk.Disk.{Ghosts}
use Rattle.io_traits.specs.declared.sink.Sink.{Ghosts as SinkGhosts}
use Rattle.log_runs.specs.Ends.{EndsWith, Moved, told as written, untold}
use Rattle.log_stamps.specs.declared.entry.StampedEntry.{StampedEntry}
use Rattle.office_amends.specs.Changes.{changes_text}
use Rattle.office_log.specs.Openable.{IsOffice}
use Rattle.office_log.specs.Recovers.{Recovers}
use Rattle.run_builds.proofs.Ended.{some_source, source_not_four, text_moved}
use Rattle.run_builds.proofs.Made.{list_done, one_stamped}
use Rattle.run_builds.specs.Comparisons.{ChangesCounts, Compares, HasChangesCause, new_refused, old_refused, starved, told}
use Rattle.run_builds.specs.Ends.{changes_shown, changes_status}
use Rattle.run_builds.specs.declared.ending.ChangesEnd.{ChangesEnd}
use Rattle.run_builds.specs.declared.ending.ChangesEnd.TheVariants.{Old, New, NoMemory, Told}

never_four : (end : ChangesEnd) → (changes_status end == 4) ≡ false
never_four (Old fault) = source_not_four fault
never_four (New fault) = source_not_four fault
never_four NoMemory = refl
never_four Told = refl

-- the sink's count, over what is written
pub changes_moved : {K : Type 0} (sink : SinkGhosts K) (old new : K) (end : ChangesEnd) (text : List ℕ) (status : ℕ) → EndsWith sink (changes_shown end text) (changes_status end) old new status
    → Moved (status == 4) (sink.faults old, sink.faults new)
changes_moved sink old new end text status = text_moved sink old new (changes_shown end text) (changes_status end) status (never_four end)

module _ {A B K : Type 0} (one : Ghosts A) (other : Ghosts B) (old : A) (new : B) (sink : SinkGhosts K) (out out' : K) where
  -- at 0 the text of the two lists was written
  pub shown : (end : ChangesEnd) (text : List ℕ) (status : ℕ) → Compares one other old new end text → EndsWith sink (changes_shown end text) (changes_status end) out out' status → status ≡ 0
      → (past now : List (StampedEntry Filing)) → IsHonest (one.tells old) → Recovers (one.tells old).reads past → IsHonest (other.tells new) → Recovers (other.tells new).reads now
      → IsTrue (sink.honest out) → sink.text out' ≡ sink.text out ++ changes_text past now
  shown end text status compares (untold cut) none past now sincere recovers frank reads tells = absurd (let bad : ⊥ = cc in bad)
  shown end text status (old_refused fault refuses) (written put) none past now sincere recovers frank reads tells = absurd (some_source fault none)
  shown end text status (new_refused before fault has refuses) (written put) none past now sincere recovers frank reads tells = absurd (some_source fault none)
  shown end text status (starved before behind has have) (written put) none past now sincere recovers frank reads tells = absurd (let bad : ⊥ = cc in bad)
  shown end text status (told before behind _ has have is) (written put) none past now sincere recovers frank reads tells =
      let first = one_stamped (one.tells old).reads before past (has.recovers sincere) recovers in
      let second = one_stamped (other.tells new).reads behind now (have.recovers frank) reads in
      put.written tells ∙ ap (λ (t : List ℕ). sink.text out ++ t) (is ∙ (λ i. changes_text (first i) (second i)))

  -- where no count rose
  pub complete : (counts : ChangesCounts) (end : ChangesEnd) (text : List ℕ) (status : ℕ) → Compares one other old new end text → HasChangesCause counts end status
      → EndsWith sink (changes_shown end text) (changes_status end) out out' status → IsOffice (one.tells old) → IsOffice (other.tells new)
      → (Rose counts.old.0 counts.old.1 → ⊥) → (Rose counts.new.0 counts.new.1 → ⊥) → (Rose (sink.faults out) (sink.faults out') → ⊥) → (status ≡ 0) ⊎ (status ≡ 9)
  complete counts end text status compares cause (untold cut) office also no_old no_new no_sink = absurd (no_sink cut.rose)
  complete counts end text status (old_refused fault refuses) cause (written put) office also no_old no_new no_sink = inr (list_done (one.tells old) office fault (refuses office.0) counts.old no_old cause.old)
  complete counts end text status (new_refused before fault has refuses) cause (written put) office also no_old no_new no_sink =
      inr (list_done (other.tells new) also fault (refuses also.0) counts.new no_new cause.new)
  complete counts end text status (starved before behind has have) cause (written put) office also no_old no_new no_sink = inr refl
  complete counts end text status (told before behind _ has have is) cause (written put) office also no_old no_new no_sink = inl refl
