-- What follows from how a run ended that builds one journal of another.
use Rattle.std.proofs.Common.{◌≡◌, inl, inr, ◌⊎◌, ⊎_elim, ℕ, List, length, refl, sym, ◌∙◌, ap, arith, subst, false, get_or, Result, Err}
use Rattle.std.proofs.lemmas.Bool.{true≢false}
use Rattle.std.specs.Prelude.{◌==◌}
use Rattle.io_traits.specs.Faults.{Rose}
use Rattle.io_traits.specs.declared.sink.Sink.{Ghosts as SinkGhosts}
use Rattle.aid_filings.specs.declared.filing.Filing.{Filing}
use Rattle.io_traits.specs.DiskState.{EachImage, EachMoment, IsHonest, IsRead, DiskState}
use Rattle.io_traits.specs.declared.disk.Disk.{Ghosts}
use Rattle.io_traits.proofs.Moments.{started}
use Rattle.log_journal.proofs.Unique.{not_unborn}
use Rattle.log_journal.specs.Head.{IsBorn, IsOld}
use Rattle.log_journal.specs.Header.{with_version}
use Rattle.log_journal.specs.Stands.{IsUnborn}
use Rattle.log_journal.specs.declared.header.Header.{Header}
use Rattle.log_machine.proofs.Histories.{recovers_once}
use Rattle.log_journal.specs.declared.founding.FoundError.{FoundError}
use Rattle.log_journal.specs.declared.founding.FoundError.TheVariants as target
use Rattle.office_log.specs.OfficeLaws.{alone}
use Rattle.office_log.specs.Recovers.{Recovers}
use Rattle.office_log.specs.Scheme.{filing_scheme, office_header, old_header}
use Rattle.log_runs.specs.Ends.{EndsWith, Moved, told, untold}
use Rattle.log_runs.specs.Puts.{HasPut}
use Rattle.log_stamps.specs.declared.entry.StampedEntry.{StampedEntry}
use Rattle.run_builds.specs.Ends.{build_status, is_build_fault, is_source_fault, is_target_fault, line_of, source_status, status_of}
use Rattle.run_builds.specs.Targets.{Builds, IsNeverHalf, IsNotBuilt, NoneOrAll, built, not_built, starved, under_plain}
use Rattle.run_builds.specs.Upgrades.{Copies, Counts, HasCause, IsOldOffice, RecoversOld, Refuses, ended_upgrade, source_read, source_refused}
use Rattle.run_builds.specs.declared.ending.BuildFault.{BuildFault}
use Rattle.run_builds.specs.declared.ending.BuildFault.TheVariants.{Target as Refused, NoMemory}
use Rattle.run_builds.specs.declared.ending.SourceFault.{SourceFault}
use Rattle.run_builds.specs.declared.ending.SourceFault.TheVariants as refusal
use Rattle.run_builds.specs.declared.ending.UpgradeEnd.{UpgradeEnd}
use Rattle.run_builds.specs.declared.ending.UpgradeEnd.TheVariants.{Source, Target, Copied}

-- a file of version 1 has one list
pub one_list : (file : List ℕ) (one other : List Filing) → RecoversOld file one → RecoversOld file other → one ≡ other
one_list = recovers_once filing_scheme alone

-- no call is a look
pub read_none : (at : DiskState) → IsRead at at
read_none at = record {
  reads = refl;
  images = λ c is. is;
  keeps = λ c is. is;
  time = record { later = omega arith; no_other = λ t c le is. inl is; keeps = λ t c le is. is };
}

-- ---- the bytes of a file show one thing at most
pub old_not_unborn : (header : Header) (file : List ℕ) → IsOld header file → IsUnborn file → ⊥
old_not_unborn header file old unborn = not_unborn (with_version header old.starts.0) file (record { long = old.long; starts = old.starts.2 }) unborn

not_both : (file : List ℕ) → IsBorn old_header file → IsBorn office_header file → ⊥
not_both file old new = let bad : 1 ≡ 2 = ap (λ (l : List ℕ). get_or l 9 0) (sym old.starts ∙ new.starts) in omega (arith, bad)

-- ---- which status an end has
pub some_source : (fault : SourceFault) → source_status fault ≡ 0 → ⊥
some_source refusal.NoOffice is = cc
some_source refusal.NotJournal is = cc
some_source refusal.NewVersion is = cc
some_source refusal.OldVersion is = cc
some_source (refusal.Damaged place) is = cc
some_source refusal.DiskFault is = cc
some_source refusal.NoMemory is = cc

pub some_build : (fault : BuildFault) → build_status fault ≡ 0 → ⊥
some_build (Refused target.Exists) is = cc
some_build (Refused target.NotJournal) is = cc
some_build (Refused target.DiskFault) is = cc
some_build NoMemory is = cc

pub source_not_four : (fault : SourceFault) → (source_status fault == 4) ≡ false
source_not_four refusal.NoOffice = refl
source_not_four refusal.NotJournal = refl
source_not_four refusal.NewVersion = refl
source_not_four refusal.OldVersion = refl
source_not_four (refusal.Damaged place) = refl
source_not_four refusal.DiskFault = refl
source_not_four refusal.NoMemory = refl

pub build_not_four : (fault : BuildFault) → (build_status fault == 4) ≡ false
build_not_four (Refused target.Exists) = refl
build_not_four (Refused target.NotJournal) = refl
build_not_four (Refused target.DiskFault) = refl
build_not_four NoMemory = refl

never_four : (end : UpgradeEnd) → (status_of end == 4) ≡ false
never_four (Source fault) = source_not_four fault
never_four (Target fault) = build_not_four fault
never_four (Copied count) = refl

-- the sink's count, over the last text
pub text_moved : {K : Type 0} (sink : SinkGhosts K) (old new : K) (text : List ℕ) (shown status : ℕ) → (shown == 4) ≡ false → EndsWith sink text shown old new status
    → Moved (status == 4) (sink.faults old, sink.faults new)
text_moved sink old new text shown status never (told put) = record { rose = λ four. absurd (true≢false (sym four ∙ never)); same = λ other. put.unmoved }
text_moved sink old new text shown status never (untold cut) = record { rose = λ four. cut.rose; same = λ other. absurd (true≢false other) }

pub told_moved : {K : Type 0} (sink : SinkGhosts K) (old new : K) (end : UpgradeEnd) (status : ℕ) → EndsWith sink (line_of end) (status_of end) old new status
    → Moved (status == 4) (sink.faults old, sink.faults new)
told_moved sink old new end status = text_moved sink old new (line_of end) (status_of end) status (never_four end)

-- ---- a target, by what became of it
module _ {B : Type 0} (to : Ghosts B) (old new : B) where
  -- without a call
  pub same_untouched : new ≡ old → IsUnborn (to.tells old).reads ⊎ IsRead (to.tells old) (to.tells new)
  same_untouched same = inr (subst (λ (d : B). IsRead (to.tells old) (to.tells d)) (sym same) (read_none (to.tells old)))

  -- one that isn't unborn is only looked at
  pub builds_untouched : (list : List (StampedEntry Filing)) (ended : Result Unit BuildFault) → Builds to list old new ended → IsHonest (to.tells old)
      → IsUnborn (to.tells old).reads ⊎ IsRead (to.tells old) (to.tells new)
  builds_untouched list ended (starved same) honest = same_untouched same
  builds_untouched list ended (not_built error is) honest = is.untouched honest
  builds_untouched list ended (built is) honest = inl (is.unborn honest)

  -- each image at each moment
  module _ (only : (d : B) (c : List ℕ) → IsHonest (to.tells d) → (to.tells d).image_since (to.tells d).moment c → (to.tells d).image c) where
    pub same_moments : (P : List ℕ → Type 0) → new ≡ old → IsHonest (to.tells old) → EachMoment (to.tells old) (to.tells new) (λ file. (to.tells old).image file ⊎ P file)
    same_moments P same honest =
        subst (λ (d : B). EachMoment (to.tells old) (to.tells d) (λ file. (to.tells old).image file ⊎ P file)) (sym same)
        (started (to.tells old) (λ file. (to.tells old).image file ⊎ P file) (λ c since. inl (only old c honest since)))

    pub builds_moments : (list : List (StampedEntry Filing)) (ended : Result Unit BuildFault) → Builds to list old new ended → IsNeverHalf to list old new
    builds_moments list ended (starved same) honest = same_moments (NoneOrAll list) same honest
    builds_moments list ended (not_built error is) honest = is.moments honest
    builds_moments list ended (built is) honest = is.moments honest

  -- an unborn target whose count stood still was built, if there was memory
  module _ (honest : IsHonest (to.tells old)) (unborn : IsUnborn (to.tells old).reads) (count : ℕ × ℕ) (no_rise : Rose count.0 count.1 → ⊥) where
    pub target_done : (list : List (StampedEntry Filing)) (error : FoundError) → IsNotBuilt to list error old new → Moved (is_build_fault (Err (Refused error))) count
        → build_status (Refused error) ≡ 9
    target_done list target.Exists is moved = absurd (⊎_elim (λ born. not_unborn office_header (to.tells old).reads born unborn) (λ was. old_not_unborn office_header (to.tells old).reads was unborn) (is.exists honest refl).0)
    target_done list target.NotJournal is moved = absurd ((is.foreign honest refl).0.not_unborn unborn)
    target_done list target.DiskFault is moved = absurd (no_rise (moved.rose refl))

module _ {A B : Type 0} (from : Ghosts A) (to : Ghosts B) (source : A) (old new : B) where
  pub untouched : (end : UpgradeEnd) → Copies from to source old new end → IsHonest (to.tells old) → IsUnborn (to.tells old).reads ⊎ IsRead (to.tells old) (to.tells new)
  untouched end (source_refused fault refuses same) honest = same_untouched to old new same
  untouched end (source_read history ended _ has builds is) honest = builds_untouched to old new (under_plain history) ended builds honest

  pub moments : (only : (d : B) (c : List ℕ) → IsHonest (to.tells d) → (to.tells d).image_since (to.tells d).moment c → (to.tells d).image c)
      (end : UpgradeEnd) → Copies from to source old new end → (history : List Filing) → IsHonest (from.tells source) → RecoversOld (from.tells source).reads history
      → IsNeverHalf to (under_plain history) old new
  moments only end (source_refused fault refuses same) history sincere recovers honest = same_moments to old new only (NoneOrAll (under_plain history)) same honest
  moments only end (source_read list ended _ has builds is) history sincere recovers honest =
      subst (λ (h : List Filing). IsNeverHalf to (under_plain h) old new) (one_list (from.tells source).reads list history (has.recovers sincere) recovers)
      (builds_moments to old new only (under_plain list) ended builds) honest

  module _ {K : Type 0} (sink : SinkGhosts K) (out out' : K) where
    -- at 0 all was copied, and that was written
    abbrev HasCopied : List Filing → Type 0
    HasCopied history = (IsHonest (to.tells old) → EachImage (to.tells new) (λ file. Recovers file (under_plain history))) × HasPut sink (line_of (Copied (length history))) out out'

    read_and_told : (end : UpgradeEnd) → HasPut sink (line_of end) out out' → status_of end ≡ 0 → (list : List Filing) (ended : Result Unit BuildFault) → Builds to (under_plain list) old new ended
        → end ≡ ended_upgrade (length list) ended → HasCopied list
    read_and_told end put none list ended (starved same) is = absurd (some_build NoMemory (ap status_of (sym is) ∙ none))
    read_and_told end put none list ended (not_built error why) is = absurd (some_build (Refused error) (ap status_of (sym is) ∙ none))
    read_and_told end put none list ended (built all) is = (all.images, subst (λ (e : UpgradeEnd). HasPut sink (line_of e) out out') is put)

    pub copied_and_told : (end : UpgradeEnd) (status : ℕ) → EndsWith sink (line_of end) (status_of end) out out' status → Copies from to source old new end → status ≡ 0
        → (history : List Filing) → IsHonest (from.tells source) → RecoversOld (from.tells source).reads history → HasCopied history
    copied_and_told end status (untold cut) copies none history sincere recovers = absurd (let bad : ⊥ = cc in bad)
    copied_and_told end status (told put) (source_refused fault refuses same) none history sincere recovers = absurd (some_source fault none)
    copied_and_told end status (told put) (source_read list ended _ has builds is) none history sincere recovers =
        subst HasCopied (one_list (from.tells source).reads list history (has.recovers sincere) recovers) (read_and_told end put none list ended builds is)

    -- where no count rose
    module _ (office : IsOldOffice (from.tells source)) (honest : IsHonest (to.tells old)) (unborn : IsUnborn (to.tells old).reads) (counts : Counts)
        (no_source : Rose counts.source.0 counts.source.1 → ⊥) (no_target : Rose counts.target.0 counts.target.1 → ⊥) where
      source_done : (fault : SourceFault) → Refuses (from.tells source).reads fault → Moved (is_source_fault (Source fault)) counts.source → (source_status fault ≡ 0) ⊎ (source_status fault ≡ 9)
      source_done refusal.NoOffice is moved = absurd (not_unborn old_header (from.tells source).reads office.1 is)
      source_done refusal.NotJournal is moved = absurd (is.0.not_born office.1)
      source_done refusal.NewVersion is moved = absurd (not_both (from.tells source).reads office.1 is)
      source_done refusal.OldVersion is moved = absurd is
      source_done (refusal.Damaged place) is moved = absurd (office.2 place is.1)
      source_done refusal.DiskFault is moved = absurd (no_source (moved.rose refl))
      source_done refusal.NoMemory is moved = inr refl

      read_done : (end : UpgradeEnd) → Moved (is_target_fault end) counts.target → (list : List Filing) (ended : Result Unit BuildFault) → Builds to (under_plain list) old new ended
          → end ≡ ended_upgrade (length list) ended → (status_of end ≡ 0) ⊎ (status_of end ≡ 9)
      read_done end moved list ended (starved same) is = inr (ap status_of is)
      read_done end moved list ended (not_built error why) is =
          inr (ap status_of is ∙ target_done to old new honest unborn counts.target no_target (under_plain list) error why (subst (λ (e : UpgradeEnd). Moved (is_target_fault e) counts.target) is moved))
      read_done end moved list ended (built all) is = inl (ap status_of is)

      end_done : (end : UpgradeEnd) → Copies from to source old new end → Moved (is_source_fault end) counts.source → Moved (is_target_fault end) counts.target → (status_of end ≡ 0) ⊎ (status_of end ≡ 9)
      end_done end (source_refused fault refuses same) moved other = source_done fault (refuses office.0) moved
      end_done end (source_read list ended _ has builds is) moved other = read_done end other list ended builds is

      pub complete : (end : UpgradeEnd) (status : ℕ) → Copies from to source old new end → HasCause counts end status → EndsWith sink (line_of end) (status_of end) out out' status
          → (Rose (sink.faults out) (sink.faults out') → ⊥) → (status ≡ 0) ⊎ (status ≡ 9)
      complete end status copies cause (told put) no_sink = end_done end copies cause.source cause.target
      complete end status copies cause (untold cut) no_sink = absurd (no_sink cut.rose)
