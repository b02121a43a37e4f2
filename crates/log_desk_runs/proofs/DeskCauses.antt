-- What a status shows of a run of desks: of their number, and of their sources.
use Rattle.std.proofs.Common.{◌≡◌, ◌≢◌, ◌⊎◌, inl, inr, ℕ, Bool, Option, ◌<◌, ◌≤◌, ◌-◌, List, length, get_or, refl, sym, ap, ◌∙◌, subst, arith}
use Rattle.std.specs.Prelude.{codes}
use mathlib.Core.Logic.{dite}
use native.Mathlib.Decide.{ℕ_discrete}
use Rattle.io_traits.specs.Faults.{Rose}
use Rattle.io_traits.specs.declared.sink.Sink.{Ghosts as SinkGhosts}
use Rattle.io_traits.specs.declared.disk.Disk.{Ghosts}
use Rattle.log_journal.specs.declared.opening.OpenError.{OpenError}
use Rattle.log_journal.specs.declared.opening.OpenError.TheVariants as opening
use Rattle.log_runs.proofs.EndLaws.{with_status}
use Rattle.log_runs.specs.Ends.{EndsWith}
use Rattle.log_runs.specs.Statuses.{open_line, open_status, read_line, read_status}
use Rattle.log_session.specs.declared.stop.ReadStop.{ReadStop}
use Rattle.log_session.specs.declared.stop.ReadStop.TheVariants as reading
use Rattle.log_desk_runs.specs.DeskTexts.{desks_status}
use Rattle.log_desk_runs.specs.DesksDone.{FailsFirst}
use Rattle.log_desks.specs.Desks.{DeskView}
use Rattle.log_machine.specs.Scheme.{Semantics, Scheme}
use Rattle.log_machine.specs.Texts.{Texts}
use Rattle.log_desk_runs.specs.Reads.{Reads}
use Rattle.log_desk_runs.specs.RanDesksOn.{AreFew, FilesAll, unopened, starved, worked, HasStood, IsUnreadAt, RanDesksOn, unasked, unread, read}
use Rattle.log_desk_runs.proofs.CrewStatus.{few_statuses}

-- a status from 5 on, or 0, is neither that of the words nor that of a source
opened_after : (error : OpenError) → 5 ≤ open_status error
opened_after opening.NoOffice = omega arith
opened_after opening.NotJournal = omega arith
opened_after opening.OldVersion = omega arith
opened_after (opening.Damaged place) = omega arith
opened_after opening.DiskFault = omega arith
opened_after opening.NoMemory = omega arith

read_after : (stop : ReadStop) → 3 ≤ read_status stop
read_after reading.Read = omega arith
read_after reading.TooLong = omega arith
read_after reading.NoMemory = omega arith

-- 3 is the status of a read that failed
failed_read : (stop : ReadStop) → read_status stop ≡ 3 → stop ≡ reading.Read
failed_read reading.Read is = refl
failed_read reading.TooLong is = absurd (omega (arith, is))
failed_read reading.NoMemory is = absurd (omega (arith, is))

module _ {D I RowFormat K Entry Operation Response Error Lines : Type 0} (scheme : Scheme Entry) (semantics : Semantics Entry Operation Response) (own copied : Operation → Option Entry) (same : Entry → Entry → Bool)
    (texts : Texts Operation Response Error) (untaken : Lines → List texts.Meaning) (rows_of : RowFormat → List ℕ → List texts.Meaning) (reads : Reads I RowFormat) (disk : Ghosts D) (sink : SinkGhosts K)
    (old new : D) (inputs inputs' : List I) (out out' : K) where
  -- a last text with its status, or a write that failed
  ends_as : (line : List ℕ) (shown status n : ℕ) → EndsWith sink line shown out out' status → n < 4 → status ≡ n → shown ≡ n
  ends_as line shown status n ends less is = go (with_status sink out out' line shown status ends)
    where
      go : (status ≡ shown) ⊎ ((status ≡ 4) × Rose (sink.faults out) (sink.faults out')) → shown ≡ n
      go (inl shows) = sym shows ∙ is
      go (inr (four, rose)) = absurd (omega (arith, four, is, less))

  -- desks whose inputs were read end otherwise
  files_other : (before : List (DeskView Entry Lines)) (status n : ℕ) → FilesAll scheme semantics own copied same texts untaken disk sink old new before out out' status → 0 < n → n < 4 → status ≡ n → ⊥
  files_other before status n (unopened error _ u rose same ends) some less is =
      let shows = ends_as (open_line error) (open_status error) status n ends less is in let after = opened_after error in omega (arith, shows, after, less)
  files_other before status n (starved past _ opened same ends) some less is =
      let shows = ends_as (codes "fault memory\n") 9 status n ends less is in omega (arith, shows, less)
  files_other before status n (worked after past history pending log waiting at _ opened filed sound moments ends) some less is =
      few_statuses after n some (λ e. omega (arith, e, less)) (λ e. omega (arith, e, less)) (ends_as _ (desks_status after) status n ends less is)

  pub usage : (status : ℕ) → RanDesksOn scheme semantics own copied same texts untaken rows_of reads disk sink old new inputs inputs' out out' status → status ≡ 2 → AreFew (length inputs) → ⊥
  usage status (unasked _ wrong kept unmoved ends) is few = wrong few
  usage status (unread stop _ _ at kept ends) is few =
      let shows = ends_as (read_line stop) (read_status stop) status 2 ends (omega arith) is in let after = read_after stop in omega (arith, shows, after)
  usage status (read before _ _ are files) is few = files_other before status 2 files (omega arith) (omega arith) is

  pub many : (status : ℕ) → RanDesksOn scheme semantics own copied same texts untaken rows_of reads disk sink old new inputs inputs' out out' status → (AreFew (length inputs) → ⊥) → (status ≡ 2) ⊎ ((status ≡ 4) × Rose (sink.faults out) (sink.faults out'))
  many status (unasked _ wrong kept unmoved ends) not = with_status sink out out' (codes "fault usage\n") 2 status ends
  many status (unread stop _ few at kept ends) not = absurd (not few)
  many status (read before _ few are files) not = absurd (not few)

  fails_first : (stop : ReadStop) → IsUnreadAt reads stop inputs inputs' → stop ≡ reading.Read → FailsFirst reads inputs inputs'
  fails_first stop at is = record { place = at.place; inside = at.inside; rose = λ i. at.fault i is; before = at.unmoved }

  pub failed : (status : ℕ) → RanDesksOn scheme semantics own copied same texts untaken rows_of reads disk sink old new inputs inputs' out out' status → status ≡ 3 → FailsFirst reads inputs inputs'
  failed status (unasked _ wrong kept unmoved ends) is =
      let shows : 2 ≡ 3 = ends_as (codes "fault usage\n") 2 status 3 ends (omega arith) is in absurd (omega (arith, shows))
  failed status (unread stop _ few at kept ends) is = fails_first stop at (failed_read stop (ends_as (read_line stop) (read_status stop) status 3 ends (omega arith) is))
  failed status (read before _ few are files) is = absurd (files_other before status 3 files (omega arith) (omega arith) is)

  -- where the read at a place didn't fail, no count of a source rose
  stood_all : (stop : ReadStop) → IsUnreadAt reads stop inputs inputs' → stop ≢ reading.Read → (k : ℕ) (i : I) → k < length inputs → HasStood reads inputs inputs' k i
  stood_all stop at other k i lt =
      dite (ℕ_discrete k at.place)
      (λ (e : k ≡ at.place). subst (λ m. HasStood reads inputs inputs' m i) (sym e) (at.still i other))
      (λ (ne : ¬ (k ≡ at.place)). dite (ℕ_discrete (k - at.place) 0)
      (λ (none : k - at.place ≡ 0). at.unmoved k i (omega (arith, ne, none)))
      (λ (some : ¬ (k - at.place ≡ 0)). ap (λ (w : I). reads.faults w) (at.behind k i (omega (arith, some)) lt)))

  pub still : (status : ℕ) → RanDesksOn scheme semantics own copied same texts untaken rows_of reads disk sink old new inputs inputs' out out' status → status ≢ 3 → status ≢ 4 → (k : ℕ) (i : I) → k < length inputs → HasStood reads inputs inputs' k i
  still status (unasked _ wrong kept unmoved ends) three four k i lt = ap (λ (l : List I). reads.faults (get_or l k i)) unmoved
  still status (unread stop _ few at kept ends) three four k i lt = stood_all stop at (λ is. go (ap read_status is) (with_status sink out out' (read_line stop) (read_status stop) status ends)) k i lt
    where
      go : read_status stop ≡ 3 → (status ≡ read_status stop) ⊎ ((status ≡ 4) × Rose (sink.faults out) (sink.faults out')) → ⊥
      go is (inl shows) = three (shows ∙ is)
      go is (inr (is_four, rose)) = four is_four
  still status (read before _ few are files) three four k i lt = are.unmoved k i lt
