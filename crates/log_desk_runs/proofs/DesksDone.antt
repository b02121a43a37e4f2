-- Why a run of desks that can file ends early: an edge failed, or there was no memory.
use Rattle.std.proofs.Common.{◌≡◌, ◌≢◌, ◌⊎◌, inl, inr, ℕ, Bool, Option, ◌<◌, ◌≤◌, List, length, get_or, refl, sym, ap, ◌∙◌, subst, arith}
use Rattle.std.specs.Prelude.{codes, sum_by}
use Rattle.io_traits.specs.Faults.{Rose}
use Rattle.io_traits.specs.declared.sink.Sink.{Ghosts as SinkGhosts}
use Rattle.io_traits.specs.DiskState.{IsHonest}
use Rattle.io_traits.specs.declared.disk.Disk.{Ghosts}
use Rattle.log_journal.proofs.Unique.{not_unborn}
use Rattle.log_journal.specs.declared.opening.OpenError.{OpenError}
use Rattle.log_journal.specs.declared.opening.OpenError.TheVariants as opening
use Rattle.log_desks.specs.Desks.{DeskView, faults_in}
use Rattle.log_machine.specs.Scheme.{Semantics, Scheme}
use Rattle.log_machine.specs.Texts.{Texts}
use Rattle.log_machine.specs.declared.names.Filed.{Filed}
use Rattle.log_session.specs.Sessions.{IsUnopened}
use Rattle.log_session.specs.declared.stop.ReadStop.{ReadStop}
use Rattle.log_session.specs.declared.stop.ReadStop.TheVariants as reading
use Rattle.log_lock.specs.Turning.{RoseBy}
use Rattle.log_lock.specs.declared.turned.Snapshot.{Snapshot}
use Rattle.log_desk_runs.specs.DeskTexts.{desks_status}
use Rattle.log_desk_runs.specs.DesksDone.{CanFile, MovedAt, NoneRose, disk_faults, faulted_in}
use Rattle.log_runs.specs.Ends.{EndsWith, told, untold}
use Rattle.log_desk_runs.specs.Reads.{Reads}
use Rattle.log_desk_runs.specs.RanDesksOn.{FilesAll, unopened, starved, worked, HasFiled, IsUnreadAt, RanDesksOn, unasked, unread, read}
use Rattle.log_runs.specs.Statuses.{open_line, open_status, read_line, read_status}
use Rattle.log_desk_runs.proofs.Following.{faulted_shown, faults_told, fewer_rose, moved_by_faults, rose_once, same_sums, status_by_faults, stood}
use Rattle.log_desk_runs.proofs.Reading.{some_of}

module _ {Entry Operation Response Error Lines : Type 0} (semantics : Semantics Entry Operation Response) (own copied : Operation → Option Entry) (texts : Texts Operation Response Error) (untaken : Lines → List texts.Meaning)
    (start end : Snapshot (Filed Entry)) (before after : List (DeskView Entry Lines)) (filed : HasFiled semantics own copied texts untaken start end before after) where
  one : (k : ℕ) (d : DeskView Entry Lines) → k < length filed.desks → faults_in (get_or filed.desks k d).handle ≡ disk_faults (get_or filed.desks k d).ended
  one k d lt =
      let its = filed.each k d (omega (arith, lt, filed.count)) in
      ap faults_in its.has ∙ faults_told own _ (get_or filed.desks k d).ended its.files.taken its.files.rest its.known its.files.ends

  sums : sum_by (λ (d : DeskView Entry Lines). faults_in d.handle) filed.desks ≡ faulted_in after
  sums = same_sums (λ (d : DeskView Entry Lines). faults_in d.handle) (λ (d : DeskView Entry Lines). disk_faults d.ended) filed.desks one ∙ sym (faulted_shown after filed.desks filed.shown)

  -- the disk's count rose by at least the number of desks that ended in a fault of the disk
  pub counted : RoseBy (faulted_in after) start.faults end.faults
  counted = subst (λ (n : ℕ). RoseBy n start.faults end.faults) sums filed.ran.faults

  -- and stood still where there is no such desk
  pub uncounted : faulted_in after ≡ 0 → end.faults ≡ start.faults
  uncounted none = filed.ran.still (sums ∙ none)

module _ {D I RowFormat K Entry Operation Response Error Lines : Type 0} (scheme : Scheme Entry) (semantics : Semantics Entry Operation Response) (own copied : Operation → Option Entry) (same : Entry → Entry → Bool)
    (texts : Texts Operation Response Error) (untaken : Lines → List texts.Meaning) (rows_of : RowFormat → List ℕ → List texts.Meaning) (reads : Reads I RowFormat) (disk : Ghosts D) (sink : SinkGhosts K)
    (old new : D) (inputs inputs' : List I) (out out' : K)
    (can : CanFile scheme reads inputs (disk.tells old)) (none : NoneRose reads inputs inputs') (sink_still : Rose (sink.faults out) (sink.faults out') → ⊥) (disk_still : RoseBy 1 (disk.faults old) (disk.faults new) → ⊥) where
  honest : IsHonest (disk.tells old)
  honest = can.list.0

  -- the end before a desk filed, for want of memory
  ended_early : (line : List ℕ) (shown status : ℕ) → shown ≡ 9 → EndsWith sink line shown out out' status → (status ≡ 0) ⊎ (status ≡ 9)
  ended_early line shown status nine (told put) = inr nine
  ended_early line shown status nine (untold cut) = absurd (sink_still cut.rose)

  unread_by : (stop : ReadStop) → IsUnreadAt reads stop inputs inputs' → read_status stop ≡ 9
  unread_by reading.Read at = let i = some_of inputs at.place at.inside in absurd (none at.place i at.inside (at.fault i refl))
  unread_by reading.TooLong at =
      let i = some_of inputs at.place at.inside in
      let (is_honest, short) = can.short at.place i at.inside in
      let past = at.here i is_honest in
      absurd (omega (arith, past, short))
  unread_by reading.NoMemory at = refl

  unopened_by : (error : OpenError) → IsUnopened disk scheme error old new → (error ≡ opening.DiskFault → Rose (disk.faults old) (disk.faults new)) → open_status error ≡ 9
  unopened_by opening.NoOffice u rose = absurd (not_unborn scheme.header (disk.tells old).reads can.list.1 (u.unborn honest refl))
  unopened_by opening.NotJournal u rose = absurd ((u.foreign honest refl).not_born can.list.1)
  unopened_by opening.OldVersion u rose = absurd ((u.old honest refl).not_born can.list.1)
  unopened_by (opening.Damaged place) u rose = absurd (can.list.2 place (u.damaged honest place refl).1)
  unopened_by opening.DiskFault u rose = absurd (disk_still (rose_once (disk.faults old) (disk.faults new) (rose refl)))
  unopened_by opening.NoMemory u rose = refl

  filed_by : (start end : Snapshot (Filed Entry)) (before after : List (DeskView Entry Lines)) (text : List ℕ) (status : ℕ) → HasFiled semantics own copied texts untaken start end before after
      → start.faults ≡ disk.faults old → end.faults ≡ disk.faults new → EndsWith sink text (desks_status after) out out' status → (status ≡ 0) ⊎ (status ≡ 9)
  filed_by start end before after text status filed from to (untold cut) = absurd (sink_still cut.rose)
  filed_by start end before after text status filed from to (told put) = go (status_by_faults after)
    where
      rose : RoseBy (faulted_in after) (disk.faults old) (disk.faults new)
      rose = subst (λ (n : ℕ). RoseBy (faulted_in after) n (disk.faults new)) from (subst (λ (n : ℕ). RoseBy (faulted_in after) start.faults n) to (counted semantics own copied texts untaken start end before after filed))

      go : ((status ≡ 0) ⊎ (status ≡ 9)) ⊎ (1 ≤ faulted_in after) → (status ≡ 0) ⊎ (status ≡ 9)
      go (inl done) = done
      go (inr some) = absurd (disk_still (fewer_rose (faulted_in after) 1 (disk.faults old) (disk.faults new) some rose))

  all_filed : (before : List (DeskView Entry Lines)) (status : ℕ) → FilesAll scheme semantics own copied same texts untaken disk sink old new before out out' status → (status ≡ 0) ⊎ (status ≡ 9)
  all_filed before status (unopened error _ u rose still ends) = ended_early (open_line error) (open_status error) status (unopened_by error u rose) ends
  all_filed before status (starved past _ opened still ends) = ended_early (codes "fault memory\n") 9 status refl ends
  all_filed before status (worked after past history pending log waiting at _ opened filed sound moments ends) = filed_by _ _ before after _ status filed refl refl ends

  pub desks_done : (status : ℕ) → RanDesksOn scheme semantics own copied same texts untaken rows_of reads disk sink old new inputs inputs' out out' status → (status ≡ 0) ⊎ (status ≡ 9)
  desks_done status (unasked _ wrong kept unmoved ends) = absurd (wrong can.count)
  desks_done status (unread stop _ few at kept ends) = ended_early (read_line stop) (read_status stop) status (unread_by stop at) ends
  desks_done status (read before _ few are files) = all_filed before status files

-- ---- the disk
files_honest : {D K Entry Operation Response Error Lines : Type 0} (scheme : Scheme Entry) (semantics : Semantics Entry Operation Response) (own copied : Operation → Option Entry) (same : Entry → Entry → Bool)
    (texts : Texts Operation Response Error) (untaken : Lines → List texts.Meaning) (disk : Ghosts D) (sink : SinkGhosts K)
    (old new : D) (before : List (DeskView Entry Lines)) (out out' : K) (status : ℕ) → FilesAll scheme semantics own copied same texts untaken disk sink old new before out out' status
    → (disk.tells new).honest ≡ (disk.tells old).honest
files_honest scheme semantics own copied same texts untaken disk sink old new before out out' status (unopened error _ u rose still ends) = u.honest
files_honest scheme semantics own copied same texts untaken disk sink old new before out out' status (starved past _ opened still ends) = opened.honest
files_honest scheme semantics own copied same texts untaken disk sink old new before out out' status (worked after past history pending log waiting at _ opened filed sound moments ends) = filed.ran.fixed ∙ opened.honest

-- a run makes no disk honest, and none dishonest
pub desks_honest : {D I RowFormat K Entry Operation Response Error Lines : Type 0} (scheme : Scheme Entry) (semantics : Semantics Entry Operation Response) (own copied : Operation → Option Entry) (same : Entry → Entry → Bool)
    (texts : Texts Operation Response Error) (untaken : Lines → List texts.Meaning) (rows_of : RowFormat → List ℕ → List texts.Meaning) (reads : Reads I RowFormat) (disk : Ghosts D) (sink : SinkGhosts K)
    (old new : D) (inputs inputs' : List I) (out out' : K) (status : ℕ)
    → RanDesksOn scheme semantics own copied same texts untaken rows_of reads disk sink old new inputs inputs' out out' status → (disk.tells new).honest ≡ (disk.tells old).honest
desks_honest scheme semantics own copied same texts untaken rows_of reads disk sink old new inputs inputs' out out' status (unasked _ wrong kept unmoved ends) = ap (λ d. (disk.tells d).honest) kept
desks_honest scheme semantics own copied same texts untaken rows_of reads disk sink old new inputs inputs' out out' status (unread stop _ few at kept ends) = ap (λ d. (disk.tells d).honest) kept
desks_honest scheme semantics own copied same texts untaken rows_of reads disk sink old new inputs inputs' out out' status (read before _ few are files) = files_honest scheme semantics own copied same texts untaken disk sink old new before out out' status files

-- ---- the disk's count
-- the status is that of the last text, or 4
by_text : {K : Type 0} (sink : SinkGhosts K) (out out' : K) (line : List ℕ) (shown status a b : ℕ) → EndsWith sink line shown out out' status → MovedAt shown a b → MovedAt status a b
by_text sink out out' line shown status a b (told put) moved = moved
by_text sink out out' line shown status a b (untold cut) moved = record { rose = λ is. absurd (omega (arith, is)); still = λ four five. absurd (four refl) }

opened_at : (error : OpenError) (a b : ℕ) → (error ≡ opening.DiskFault → Rose a b) → (error ≡ opening.DiskFault) ⊎ (b ≡ a) → MovedAt (open_status error) a b
opened_at opening.DiskFault a b rose still = record { rose = λ is. rose_once a b (rose refl); still = λ four five. absurd (five refl) }
opened_at opening.NoOffice a b rose (inl is) = absurd (let bad : ⊥ = cc in bad)
opened_at opening.NoOffice a b rose (inr same) = stood _ a b (λ e. omega (arith, e)) same
opened_at opening.NotJournal a b rose (inl is) = absurd (let bad : ⊥ = cc in bad)
opened_at opening.NotJournal a b rose (inr same) = stood _ a b (λ e. omega (arith, e)) same
opened_at opening.OldVersion a b rose (inl is) = absurd (let bad : ⊥ = cc in bad)
opened_at opening.OldVersion a b rose (inr same) = stood _ a b (λ e. omega (arith, e)) same
opened_at (opening.Damaged place) a b rose (inl is) = absurd (let bad : ⊥ = cc in bad)
opened_at (opening.Damaged place) a b rose (inr same) = stood _ a b (λ e. omega (arith, e)) same
opened_at opening.NoMemory a b rose (inl is) = absurd (let bad : ⊥ = cc in bad)
opened_at opening.NoMemory a b rose (inr same) = stood _ a b (λ e. omega (arith, e)) same

unread_at : (stop : ReadStop) → read_status stop ≢ 5
unread_at reading.Read is = omega (arith, is)
unread_at reading.TooLong is = omega (arith, is)
unread_at reading.NoMemory is = omega (arith, is)

module _ {D I RowFormat K Entry Operation Response Error Lines : Type 0} (scheme : Scheme Entry) (semantics : Semantics Entry Operation Response) (own copied : Operation → Option Entry) (same : Entry → Entry → Bool)
    (texts : Texts Operation Response Error) (untaken : Lines → List texts.Meaning) (rows_of : RowFormat → List ℕ → List texts.Meaning) (reads : Reads I RowFormat) (disk : Ghosts D) (sink : SinkGhosts K)
    (old new : D) (inputs inputs' : List I) (out out' : K) (status : ℕ) where
  abbrev Moved : ℕ → Type 0
  Moved shown = MovedAt shown (disk.faults old) (disk.faults new)

  with_text : (line : List ℕ) (shown : ℕ) → EndsWith sink line shown out out' status → Moved shown → Moved status
  with_text line shown = by_text sink out out' line shown status (disk.faults old) (disk.faults new)

  files_moved : (before : List (DeskView Entry Lines)) → FilesAll scheme semantics own copied same texts untaken disk sink old new before out out' status → Moved status
  files_moved before (unopened error _ u rose still ends) = with_text (open_line error) (open_status error) ends (opened_at error (disk.faults old) (disk.faults new) rose still)
  files_moved before (starved past _ opened still ends) = with_text (codes "fault memory\n") 9 ends (stood 9 (disk.faults old) (disk.faults new) (λ e. omega (arith, e)) still)
  files_moved before (worked after past history pending log waiting at _ opened filed sound moments ends) =
      with_text _ (desks_status after) ends
      (moved_by_faults after (disk.faults old) (disk.faults new) (counted semantics own copied texts untaken _ _ before after filed) (uncounted semantics own copied texts untaken _ _ before after filed))

  -- the disk's count moved as the status of a run says
  pub desks_moved : RanDesksOn scheme semantics own copied same texts untaken rows_of reads disk sink old new inputs inputs' out out' status → Moved status
  desks_moved (unasked _ wrong kept unmoved ends) = with_text (codes "fault usage\n") 2 ends (stood 2 (disk.faults old) (disk.faults new) (λ e. omega (arith, e)) (ap disk.faults kept))
  desks_moved (unread stop _ few at kept ends) = with_text (read_line stop) (read_status stop) ends (stood (read_status stop) (disk.faults old) (disk.faults new) (unread_at stop) (ap disk.faults kept))
  desks_moved (read before _ few are files) = files_moved before files
