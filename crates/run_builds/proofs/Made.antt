-- What follows from how an amendment ended.
use Rattle.std.proofs.Common.{◌≡◌, ◌≤◌, inl, inr, ◌⊎◌, ⊎_elim, ℕ, List, [], length, refl, sym, ◌∙◌, ap, arith, subst, false, Result, Ok, Err, ◌++◌, reverse}
use Rattle.std.specs.Prelude.{◌==◌, IsTrue}
use Rattle.aid_filings.specs.declared.filing.Filing.{Filing}
use Rattle.aid_stamps.specs.declared.stamp.Stamp.{Stamp}
use Rattle.io_traits.specs.Faults.{Rose}
use Rattle.io_traits.specs.DiskState.{DiskState, EachMoment, IsHonest, IsRead}
use Rattle.io_traits.specs.declared.disk.Disk.{Ghosts}
use Rattle.io_traits.specs.declared.sink.Sink.{Ghosts as SinkGhosts}
use Rattle.io_traits.proofs.Moments.{weaken}
use Rattle.log_journal.proofs.Unique.{not_unborn}
use Rattle.log_journal.specs.Stands.{IsUnborn}
use Rattle.log_machine.proofs.Histories.{recovers_once}
use Rattle.log_runs.specs.Ends.{EndsWith, IsShort, Moved, told, untold}
use Rattle.log_runs.specs.Puts.{HasPut}
use Rattle.log_runs.specs.Statuses.{read_status}
use Rattle.log_session.specs.Edges.{Input}
use Rattle.log_session.specs.Sessions.{IsUnread}
use Rattle.log_session.specs.declared.stop.ReadStop.{ReadStop}
use Rattle.log_session.specs.declared.stop.ReadStop.TheVariants as reading
use Rattle.log_stamps.specs.declared.entry.StampedEntry.{StampedEntry}
use Rattle.office_amends.specs.Amended.{amended}
use Rattle.office_amends.specs.Plans.{Plans}
use Rattle.office_amends.specs.Plans as planned
use Rattle.office_amends.specs.declared.amending.Amended.{Amended}
use Rattle.office_amends.specs.declared.plan.Amendment.TheVariants as plan
use Rattle.office_history.specs.Answer.{IsLegal}
use Rattle.log_stamps.specs.Entries.{entries, stamped}
use Rattle.std.specs.Global.{Vec}
use Rattle.run_builds.proofs.Built.{all_stamped}
use Rattle.office_log.specs.OfficeLaws.{office_alone}
use Rattle.office_log.specs.Openable.{IsOffice}
use Rattle.office_log.specs.Recovers.{Recovers}
use Rattle.office_log.specs.Scheme.{office_header, office_scheme}
use Rattle.run_builds.proofs.Ended.{build_not_four, builds_moments, builds_untouched, same_moments, same_untouched, some_build, some_source, source_not_four, target_done, text_moved}
use Rattle.run_builds.specs.Amendments.{AmendCounts, Amends, HasAmendCause, IsAmended, IsNotAmended, MakesOf, NoneOrAmended, RefusesList, ended_amendment, legal, list, not_legal, read, rows, source_refused, starved, unread, wrong_rows}
use Rattle.run_builds.specs.Ends.{amend_status, amend_text, build_status, is_disk_fault, is_input_stop, is_target_stop, source_status}
use Rattle.run_builds.specs.Targets.{Builds, NoneOrAll, built, not_built, starved as no_room}
use Rattle.run_builds.specs.declared.ending.AmendEnd.{AmendEnd}
use Rattle.run_builds.specs.declared.ending.AmendEnd.TheVariants.{Input as Unread, Source, NoMemory, NotMade, Target, Made}
use Rattle.run_builds.specs.declared.ending.BuildFault.{BuildFault}
use Rattle.run_builds.specs.declared.ending.BuildFault.TheVariants as fault
use Rattle.run_builds.specs.declared.ending.SourceFault.{SourceFault}
use Rattle.run_builds.specs.declared.ending.SourceFault.TheVariants as refusal
use Rattle.log_journal.specs.declared.founding.FoundError.TheVariants as target

-- a file has one list
pub one_stamped : (file : List ℕ) (one other : List (StampedEntry Filing)) → Recovers file one → Recovers file other → one ≡ other
one_stamped = recovers_once office_scheme office_alone

-- ---- which status an end has
never_four : (end : AmendEnd) → (amend_status end == 4) ≡ false
never_four (Unread reading.Read) = refl
never_four (Unread reading.TooLong) = refl
never_four (Unread reading.NoMemory) = refl
never_four (Source fault) = source_not_four fault
never_four NoMemory = refl
never_four NotMade = refl
never_four (Target fault) = build_not_four fault
never_four Made = refl

pub amend_moved : {K : Type 0} (sink : SinkGhosts K) (old new : K) (end : AmendEnd) (text : List ℕ) (status : ℕ) → EndsWith sink (amend_text end text) (amend_status end) old new status
    → Moved (status == 4) (sink.faults old, sink.faults new)
amend_moved sink old new end text status = text_moved sink old new (amend_text end text) (amend_status end) status (never_four end)

some_read : (stop : ReadStop) (n : ℕ) → n ≤ 1 → read_status stop ≡ n → ⊥
some_read reading.Read n small is = omega (arith, is, small)
some_read reading.TooLong n small is = omega (arith, is, small)
some_read reading.NoMemory n small is = omega (arith, is, small)

source_not_one : (fault : SourceFault) → source_status fault ≡ 1 → ⊥
source_not_one refusal.NoOffice is = cc
source_not_one refusal.NotJournal is = cc
source_not_one refusal.NewVersion is = cc
source_not_one refusal.OldVersion is = cc
source_not_one (refusal.Damaged place) is = cc
source_not_one refusal.DiskFault is = cc
source_not_one refusal.NoMemory is = cc

build_not_one : (fault : BuildFault) → build_status fault ≡ 1 → ⊥
build_not_one (fault.Target target.Exists) is = cc
build_not_one (fault.Target target.NotJournal) is = cc
build_not_one (fault.Target target.DiskFault) is = cc
build_not_one fault.NoMemory is = cc

-- an undamaged journal gives its list where no count rose, if there is memory
pub list_done : (disk : DiskState) → IsOffice disk → (fault : SourceFault) → RefusesList disk.reads fault → (count : ℕ × ℕ) → (Rose count.0 count.1 → ⊥) → Moved (is_disk_fault fault) count
    → source_status fault ≡ 9
list_done disk office refusal.NoOffice is count still moved = absurd (not_unborn office_header disk.reads office.1 is)
list_done disk office refusal.NotJournal is count still moved = absurd (is.not_born office.1)
list_done disk office refusal.NewVersion is count still moved = absurd is
list_done disk office refusal.OldVersion is count still moved = absurd (is.not_born office.1)
list_done disk office (refusal.Damaged place) is count still moved = absurd (office.2 place is.1)
list_done disk office refusal.DiskFault is count still moved = absurd (still (moved.rose refl))
list_done disk office refusal.NoMemory is count still moved = refl

-- the end of a list that is legal is never that nothing is made
not_one : (ended : Result Unit BuildFault) → amend_status (ended_amendment ended) ≡ 1 → ⊥
not_one (Ok tt) is = cc
not_one (Err fault) is = build_not_one fault is

-- ---- what follows of the rows of an input whose bytes are these
module _ {B : Type 0} (to : Ghosts B) (past : List (StampedEntry Filing)) (stamp : Stamp) (number : ℕ) (bytes : List ℕ) (old new : B) where
  made_untouched : (end : AmendEnd) (text : List ℕ) → MakesOf to past stamp number bytes old new end text → IsHonest (to.tells old) → IsUnborn (to.tells old).reads ⊎ IsRead (to.tells old) (to.tells new)
  made_untouched end text (wrong_rows fits lines _ says some is same) honest = same_untouched to old new same
  made_untouched end text (not_legal fits _ says unfit is same) honest = same_untouched to old new same
  made_untouched end text (legal fits _ ended _ says fine is builds how) honest = builds_untouched to old new (amended stamp fits past) ended builds honest

  made_same : (end : AmendEnd) (text : List ℕ) → MakesOf to past stamp number bytes old new end text → amend_status end ≡ 1 → new ≡ old
  made_same end text (wrong_rows fits lines _ says some is same) one = same
  made_same end text (not_legal fits _ says unfit is same) one = same
  made_same end text (legal fits _ ended _ says fine is builds how) one = absurd (not_one ended (ap amend_status (sym how) ∙ one))

  made_moments : (only : (d : B) (c : List ℕ) → IsHonest (to.tells d) → (to.tells d).image_since (to.tells d).moment c → (to.tells d).image c)
      (end : AmendEnd) (text : List ℕ) → MakesOf to past stamp number bytes old new end text → IsHonest (to.tells old)
      → EachMoment (to.tells old) (to.tells new) (λ file. (to.tells old).image file ⊎ NoneOrAmended past stamp number bytes file)
  made_moments only end text (wrong_rows fits lines _ says some is same) honest = same_moments to old new only (NoneOrAmended past stamp number bytes) same honest
  made_moments only end text (not_legal fits _ says unfit is same) honest = same_moments to old new only (NoneOrAmended past stamp number bytes) same honest
  made_moments only end text (legal fits _ ended _ says fine is builds how) honest =
      weaken (to.tells old) (to.tells new) (λ file. (to.tells old).image file ⊎ NoneOrAll (amended stamp fits past) file) (λ file. (to.tells old).image file ⊎ NoneOrAmended past stamp number bytes file)
      (λ file. ⊎_elim (λ was. inl was) (λ other. inr (⊎_elim (λ none. inl none) (λ all. inr (fits, says, all)) other)))
      (builds_moments to old new only (amended stamp fits past) ended builds honest)

  made_all : (end : AmendEnd) (text : List ℕ) → MakesOf to past stamp number bytes old new end text → amend_status end ≡ 0 → IsAmended to past stamp number bytes old new text × (end ≡ Made)
  made_all end text (wrong_rows fits lines _ says some is same) none = absurd (let bad : ⊥ = cc in bad)
  made_all end text (not_legal fits _ says unfit is same) none = absurd (let bad : ⊥ = cc in bad)
  made_all end text (legal fits _ ended _ says fine is (no_room same) how) none = absurd (some_build fault.NoMemory (ap amend_status (sym how) ∙ none))
  made_all end text (legal fits _ ended _ says fine is (not_built error why) how) none = absurd (some_build (fault.Target error) (ap amend_status (sym how) ∙ none))
  made_all end text (legal fits _ ended _ says fine is (built all) how) none = (record { fits = fits; says = says; legal = fine; images = all.images; text = is }, how)

  made_none : (end : AmendEnd) (text : List ℕ) → MakesOf to past stamp number bytes old new end text → amend_status end ≡ 1 → IsNotAmended past stamp number bytes text × (end ≡ NotMade)
  made_none end text (wrong_rows fits lines _ says some is same) one = (rows fits lines says some is, refl)
  made_none end text (not_legal fits _ says unfit is same) one = (list fits says unfit is, refl)
  made_none end text (legal fits _ ended _ says fine is builds how) one = absurd (not_one ended (ap amend_status (sym how) ∙ one))

  -- an unborn target whose count stood still is built, if there is memory
  module _ (honest : IsHonest (to.tells old)) (unborn : IsUnborn (to.tells old).reads) (count : ℕ × ℕ) (no_rise : Rose count.0 count.1 → ⊥) where
    made_done : (end : AmendEnd) (text : List ℕ) → Moved (is_target_stop end) count → MakesOf to past stamp number bytes old new end text
        → (amend_status end ≡ 0) ⊎ ((amend_status end ≡ 1) ⊎ (amend_status end ≡ 9))
    made_done end text moved (wrong_rows fits lines _ says some is same) = inr (inl refl)
    made_done end text moved (not_legal fits _ says unfit is same) = inr (inl refl)
    made_done end text moved (legal fits _ ended _ says fine is (no_room same) how) = inr (inr (ap amend_status how))
    made_done end text moved (legal fits _ ended _ says fine is (not_built error why) how) =
        inr (inr (ap amend_status how ∙ target_done to old new honest unborn count no_rise (amended stamp fits past) error why (subst (λ (e : AmendEnd). Moved (is_target_stop e) count) how moved)))
    made_done end text moved (legal fits _ ended _ says fine is (built all) how) = inl (ap amend_status how)

-- ---- the whole run
module _ {A B : Type 0} (from : Ghosts A) (to : Ghosts B) (stamp : Stamp) (number : ℕ) (input : Input) (source : A) (old new : B) where
  pub untouched : (end : AmendEnd) (text : List ℕ) → Amends from to stamp number input source old new end text → IsHonest (to.tells old)
      → IsUnborn (to.tells old).reads ⊎ IsRead (to.tells old) (to.tells new)
  untouched end text (unread stop why same) honest = same_untouched to old new same
  untouched end text (source_refused fault why same) honest = same_untouched to old new same
  untouched end text (starved same) honest = same_untouched to old new same
  untouched end text (read past bytes _ _ has whole are makes) honest = made_untouched to past stamp number bytes old new end text makes honest

  ended_same : (end : AmendEnd) (text : List ℕ) → Amends from to stamp number input source old new end text → amend_status end ≡ 1 → new ≡ old
  ended_same end text (unread stop why same) one = same
  ended_same end text (source_refused fault why same) one = same
  ended_same end text (starved same) one = same
  ended_same end text (read past bytes _ _ has whole are makes) one = made_same to past stamp number bytes old new end text makes one

  pub moments : (only : (d : B) (c : List ℕ) → IsHonest (to.tells d) → (to.tells d).image_since (to.tells d).moment c → (to.tells d).image c)
      (end : AmendEnd) (text : List ℕ) → Amends from to stamp number input source old new end text → (past : List (StampedEntry Filing)) → IsHonest (from.tells source) → Recovers (from.tells source).reads past
      → IsTrue input.honest → IsHonest (to.tells old) → EachMoment (to.tells old) (to.tells new) (λ file. (to.tells old).image file ⊎ NoneOrAmended past stamp number input.before file)
  moments only end text (unread stop why same) past sincere recovers frank honest = same_moments to old new only (NoneOrAmended past stamp number input.before) same honest
  moments only end text (source_refused fault why same) past sincere recovers frank honest = same_moments to old new only (NoneOrAmended past stamp number input.before) same honest
  moments only end text (starved same) past sincere recovers frank honest = same_moments to old new only (NoneOrAmended past stamp number input.before) same honest
  moments only end text (read was bytes _ _ has whole are makes) past sincere recovers frank honest =
      subst (λ (l : List (StampedEntry Filing)). EachMoment (to.tells old) (to.tells new) (λ file. (to.tells old).image file ⊎ NoneOrAmended l stamp number input.before file))
      (one_stamped (from.tells source).reads was past (has.recovers sincere) recovers)
      (subst (λ (b : List ℕ). EachMoment (to.tells old) (to.tells new) (λ file. (to.tells old).image file ⊎ NoneOrAmended was stamp number b file)) (are frank)
      (made_moments to was stamp number bytes old new only end text makes honest))

  module _ {K : Type 0} (sink : SinkGhosts K) (out out' : K) where
    pub not_made : (end : AmendEnd) (text : List ℕ) (status : ℕ) → Amends from to stamp number input source old new end text
        → EndsWith sink (amend_text end text) (amend_status end) out out' status → status ≡ 1 → new ≡ old
    not_made end text status amends (told put) one = ended_same end text amends one
    not_made end text status amends (untold cut) one = absurd (let bad : ⊥ = cc in bad)

    abbrev WasMade : List (StampedEntry Filing) → List ℕ → Type 0
    WasMade past bytes = (text : List ℕ) × IsAmended to past stamp number bytes old new text × (IsTrue (sink.honest out) → sink.text out' ≡ sink.text out ++ text)

    pub made : (end : AmendEnd) (text : List ℕ) (status : ℕ) → Amends from to stamp number input source old new end text
        → EndsWith sink (amend_text end text) (amend_status end) out out' status → status ≡ 0
        → (past : List (StampedEntry Filing)) → IsHonest (from.tells source) → Recovers (from.tells source).reads past → IsTrue input.honest → WasMade past input.before
    made end text status amends (untold cut) none past sincere recovers frank = absurd (let bad : ⊥ = cc in bad)
    made end text status (unread stop why same) (told put) none past sincere recovers frank = absurd (some_read stop 0 (omega arith) none)
    made end text status (source_refused fault why same) (told put) none past sincere recovers frank = absurd (some_source fault none)
    made end text status (starved same) (told put) none past sincere recovers frank = absurd (let bad : ⊥ = cc in bad)
    made end text status (read was bytes _ _ has whole are makes) (told put) none past sincere recovers frank =
        let done = made_all to was stamp number bytes old new end text makes none in
        let shown : HasPut sink text out out' = subst (λ (e : AmendEnd). HasPut sink (amend_text e text) out out') done.1 put in
        subst (λ (l : List (StampedEntry Filing)). WasMade l input.before) (one_stamped (from.tells source).reads was past (has.recovers sincere) recovers)
        (subst (λ (b : List ℕ). WasMade was b) (are frank) (text, done.0, shown.written))

    abbrev WasNotMade : List (StampedEntry Filing) → List ℕ → Type 0
    WasNotMade past bytes = (text : List ℕ) × IsNotAmended past stamp number bytes text × (IsTrue (sink.honest out) → sink.text out' ≡ sink.text out ++ text)

    pub refused : (end : AmendEnd) (text : List ℕ) (status : ℕ) → Amends from to stamp number input source old new end text
        → EndsWith sink (amend_text end text) (amend_status end) out out' status → status ≡ 1
        → (past : List (StampedEntry Filing)) → IsHonest (from.tells source) → Recovers (from.tells source).reads past → IsTrue input.honest → WasNotMade past input.before
    refused end text status amends (untold cut) one past sincere recovers frank = absurd (let bad : ⊥ = cc in bad)
    refused end text status (unread stop why same) (told put) one past sincere recovers frank = absurd (some_read stop 1 (omega arith) one)
    refused end text status (source_refused fault why same) (told put) one past sincere recovers frank = absurd (source_not_one fault one)
    refused end text status (starved same) (told put) one past sincere recovers frank = absurd (let bad : ⊥ = cc in bad)
    refused end text status (read was bytes _ _ has whole are makes) (told put) one past sincere recovers frank =
        let done = made_none to was stamp number bytes old new end text makes one in
        let shown : HasPut sink text out out' = subst (λ (e : AmendEnd). HasPut sink (amend_text e text) out out') done.1 put in
        subst (λ (l : List (StampedEntry Filing)). WasNotMade l input.before) (one_stamped (from.tells source).reads was past (has.recovers sincere) recovers)
        (subst (λ (b : List ℕ). WasNotMade was b) (are frank) (text, done.0, shown.written))

    -- where no count rose
    module _ (office : IsOffice (from.tells source)) (honest : IsHonest (to.tells old)) (unborn : IsUnborn (to.tells old).reads) (short : IsShort input.honest (length input.before)) (counts : AmendCounts)
        (no_input : Rose counts.input.0 counts.input.1 → ⊥) (no_source : Rose counts.source.0 counts.source.1 → ⊥) (no_target : Rose counts.target.0 counts.target.1 → ⊥) where
      abbrev IsDone : ℕ → Type 0
      IsDone status = (status ≡ 0) ⊎ ((status ≡ 1) ⊎ (status ≡ 9))

      input_done : (stop : ReadStop) → IsUnread stop 16777216 input → Moved (is_input_stop (Unread stop)) counts.input → IsDone (read_status stop)
      input_done reading.Read why moved = absurd (no_input (moved.rose refl))
      input_done reading.TooLong why moved = absurd (omega (arith, why short.0, short.1))
      input_done reading.NoMemory why moved = inr (inr refl)

      pub complete : (end : AmendEnd) (text : List ℕ) (status : ℕ) → Amends from to stamp number input source old new end text → HasAmendCause counts end status
          → EndsWith sink (amend_text end text) (amend_status end) out out' status → (Rose (sink.faults out) (sink.faults out') → ⊥) → IsDone status
      complete end text status amends cause (untold cut) no_sink = absurd (no_sink cut.rose)
      complete end text status (unread stop why same) cause (told put) no_sink = input_done stop why cause.input
      complete end text status (source_refused fault why same) cause (told put) no_sink = inr (inr (list_done (from.tells source) office fault (why office.0) counts.source no_source cause.source))
      complete end text status (starved same) cause (told put) no_sink = inr (inr refl)
      complete end text status (read was bytes _ _ has whole are makes) cause (told put) no_sink =
          made_done to was stamp number bytes old new honest unborn counts.target no_target end text cause.target makes

-- ---- what becomes of a plan
module _ {B : Type 0} (to : Ghosts B) (past : List (StampedEntry Filing)) (stamp : Stamp) (number : ℕ) (bytes : List ℕ) (old : B) where
  pub made_of_none : (text : Vec ℕ) (new : B) → new ≡ old → Plans past stamp number bytes (plan.NotMade text) → MakesOf to past stamp number bytes old new NotMade text.items
  made_of_none text new same (planned.wrong_rows fits lines _ says some is) = wrong_rows fits lines text.items says some is same
  made_of_none text new same (planned.not_legal fits _ says unfit is) = not_legal fits text.items says unfit is same

  pub made_of_all : (new : B) (all : Amended) (filings : List Filing) (ended : Result Unit BuildFault) (end : AmendEnd) → Plans past stamp number bytes (plan.Made all) → reverse filings ≡ all.office.history
      → ((list : List (StampedEntry Filing)) → reverse (stamped filings all.stamps.items) ≡ list → IsLegal (entries list) → Builds to list old new ended) → end ≡ ended_amendment ended
      → MakesOf to past stamp number bytes old new end all.text.items
  made_of_all new all filings ended end (planned.legal fits _ says fine text history stamps) is builds how =
      legal fits all.text.items ended end says fine text (builds (amended stamp fits past) (all_stamped filings all.stamps.items (amended stamp fits past) (is ∙ history) stamps) fine) how

-- ---- runs that ended before the rows were judged, which have no text
module _ {A B : Type 0} (from : Ghosts A) (to : Ghosts B) (stamp : Stamp) (number : ℕ) (input : Input) (source : A) (old : B) (text : List ℕ) (empty : text ≡ []) where
  pub unread_at : (stop : ReadStop) → IsUnread stop 16777216 input → Amends from to stamp number input source old old (Unread stop) text
  unread_at stop why = subst (λ (t : List ℕ). Amends from to stamp number input source old old (Unread stop) t) (sym empty) (unread stop why refl)

  pub refused_at : (fault : SourceFault) → (IsHonest (from.tells source) → RefusesList (from.tells source).reads fault) → Amends from to stamp number input source old old (Source fault) text
  refused_at fault why = subst (λ (t : List ℕ). Amends from to stamp number input source old old (Source fault) t) (sym empty) (source_refused fault why refl)

  pub starved_at : Amends from to stamp number input source old old NoMemory text
  starved_at = subst (λ (t : List ℕ). Amends from to stamp number input source old old NoMemory t) (sym empty) (starved refl)
