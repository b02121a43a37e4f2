-- What turns make of a shared list, at each moment since it was shared.
use Rattle.std.proofs.Common.{◌≡◌, ◌⊎◌, inl, inr, ⊎_elim, ℕ, ◌≤◌, IsTrue, List, [], ◌∷◌, Option, Some, None, refl, sym, ap, ap₂, ◌∙◌, subst, arith}
use Rattle.io_traits.specs.DiskState.{IsHonest, EachMoment}
use Rattle.io_traits.specs.declared.disk.Disk.{Ghosts}
use Rattle.log_machine.specs.Names.{entries_of}
use Rattle.log_machine.specs.Recovers.{Recovers}
use Rattle.log_machine.specs.Scheme.{Scheme, Semantics}
use Rattle.log_machine.specs.Submits.{Submits, RecoversOnWay, with_entry, after_ask}
use Rattle.log_machine.specs.declared.names.Filed.{Filed}
use Rattle.log_machine.specs.declared.names.RowName.{RowName}
use Rattle.log_machine.specs.declared.reply.LogReply.{LogReply}
use Rattle.log_machine.specs.declared.reply.LogReply.TheVariants.{Answered, DiskFault, NoMemory}
use Rattle.log_lock.specs.Passes.{IsOlder}
use Rattle.log_lock.specs.declared.turned.Snapshot.{Snapshot}
use Rattle.log_lock.proofs.Lists.{older_refl, older_trans}
use Rattle.log_desks.specs.Shares.{Shared, stand_of, IsBegun, IsReached, RecoversBetween}
use Rattle.log_desks.proofs.Going.{entries_filed}

-- a list whose parts are the same stands the same
pub stand_same : {D Entry : Type 0} (disk : Ghosts D) (h h' : List Entry) (p p' : Option Entry) (l l' : List RowName) (w : Option RowName) (d d' : D) → h' ≡ h → p' ≡ p → l' ≡ l → d' ≡ d
    → stand_of h' p' l' w (disk.faults d') (disk.tells d').honest ≡ stand_of h p l w (disk.faults d) (disk.tells d).honest
stand_same {D} {Entry} disk h h' p p' l l' w d d' same_h same_p same_l same_d =
    ap (λ (x : List Entry). stand_of x p' l' w (disk.faults d') (disk.tells d').honest) same_h
    ∙ (ap (λ (x : Option Entry). stand_of h x l' w (disk.faults d') (disk.tells d').honest) same_p
    ∙ (ap (λ (x : List RowName). stand_of h p x w (disk.faults d') (disk.tells d').honest) same_l
    ∙ ap (λ (x : D). stand_of h p l w (disk.faults x) (disk.tells x).honest) same_d))

older_with : {E : Type 0} (o : Option E) (list : List E) → IsOlder list (with_entry o list)
older_with None list = older_refl list
older_with (Some e) list = (e ∷ [], refl)

module _ {D Entry : Type 0} (disk : Ghosts D) (scheme : Scheme Entry) (moment : ℕ) (already : ℕ → List ℕ → Type 0) where
  -- a list is reached from itself
  pub begins : (s : Shared D Entry) → IsBegun disk moment already s.disk
      → IsReached disk scheme moment already (stand_of s.history s.pending s.log s.waiting (disk.faults s.disk) (disk.tells s.disk).honest) s.disk s.history s.pending
  begins s begun = record {
    later = λ honest. omega (arith, begun.now);
    older = subst (λ l. IsOlder l s.history) (sym (entries_filed s.history s.log)) (older_refl s.history);
    each = λ honest t file before since. inl (begun.all t file since);
  }

  -- so is one at which nothing is asked of moments
  pub begins_anyhow : moment ≡ 0 → ((t : ℕ) (file : List ℕ) → already t file) → (s : Shared D Entry)
      → IsReached disk scheme moment already (stand_of s.history s.pending s.log s.waiting (disk.faults s.disk) (disk.tells s.disk).honest) s.disk s.history s.pending
  begins_anyhow first all s = record {
    later = λ honest. omega (arith, first);
    older = subst (λ l. IsOlder l s.history) (sym (entries_filed s.history s.log)) (older_refl s.history);
    each = λ honest t file before since. inl (all t file);
  }

  module _ {Operation Response : Type 0} (semantics : Semantics Entry Operation Response) (start : Snapshot (Filed Entry)) (old new : Shared D Entry) (operation : Operation) where
    abbrev settled : List Entry
    settled = with_entry old.pending old.history

    abbrev then_ : List Entry
    then_ = with_entry new.pending new.history

    -- the list goes on, to what the ask makes of it or not
    abbrev Goes_on : Type 0
    Goes_on = IsOlder old.history new.history × IsOlder settled then_

    added : then_ ≡ after_ask semantics settled operation → IsOlder settled then_
    added is = subst (IsOlder settled) (sym is) (older_with (semantics.added settled operation) settled)

    stays : then_ ≡ settled → IsOlder settled then_
    stays is = subst (IsOlder settled) (sym is) (older_refl settled)

    goes_on : (reply : LogReply Response) → (reply ≡ NoMemory → ⊥) → Submits semantics old.history old.pending operation reply new.history new.pending → Goes_on
    goes_on (Answered response front) some t = (
      subst (IsOlder old.history) (sym t.list) (older_trans old.history settled (after_ask semantics settled operation) (older_with old.pending old.history) (older_with (semantics.added settled operation) settled)),
      added (ap (λ o. with_entry o new.history) t.decided ∙ t.list),
    )
    goes_on (DiskFault None) some t = (
      subst (IsOlder old.history) (sym t.list) (older_with old.pending old.history),
      stays (ap (λ o. with_entry o new.history) t.decided ∙ t.list),
    )
    goes_on (DiskFault (Some position)) some (inl u) = (
      subst (IsOlder old.history) (sym u.list) (older_refl old.history),
      stays (ap₂ (λ o l. with_entry o l) u.undecided u.list),
    )
    goes_on (DiskFault (Some position)) some (inr l) = (
      subst (IsOlder old.history) (sym l.list) (older_with old.pending old.history),
      added (ap₂ (λ o k. with_entry o k) l.undecided l.list),
    )
    goes_on NoMemory some t = absurd (some refl)

    abbrev Between : List ℕ → Type 0
    Between file = RecoversBetween scheme (entries_of start.list) then_ file

    -- what an image at a moment of the turn recovers is on the way
    in_turn : IsOlder (entries_of start.list) old.history → IsOlder settled then_ → (file : List ℕ) → RecoversOnWay scheme old.history old.pending new.history new.pending file → Between file
    in_turn from ahead file (inl was) = (old.history, from, older_trans old.history settled then_ (older_with old.pending old.history) ahead, was)
    in_turn from ahead file (inr (inl mid)) = (settled, older_trans (entries_of start.list) old.history settled from (older_with old.pending old.history), ahead, mid)
    in_turn from ahead file (inr (inr all)) =
        (then_, older_trans (entries_of start.list) settled then_ (older_trans (entries_of start.list) old.history settled from (older_with old.pending old.history)) ahead, older_refl then_, all)

    -- and what one recovered before stays so
    before : IsOlder settled then_ → (file : List ℕ) → RecoversBetween scheme (entries_of start.list) settled file → Between file
    before ahead file (history, from, to, is) = (history, from, older_trans history settled then_ to ahead, is)

    -- one turn goes on from what was reached
    pub turns : (reply : LogReply Response) → (reply ≡ NoMemory → ⊥) → Submits semantics old.history old.pending operation reply new.history new.pending
        → (disk.tells new.disk).honest ≡ (disk.tells old.disk).honest
        → (IsHonest (disk.tells old.disk) → EachMoment (disk.tells old.disk) (disk.tells new.disk) (RecoversOnWay scheme old.history old.pending new.history new.pending))
        → IsReached disk scheme moment already start old.disk old.history old.pending → IsReached disk scheme moment already start new.disk new.history new.pending
    turns reply some turned honest way reached =
        let on = goes_on reply some turned in
        let was : IsHonest (disk.tells new.disk) → IsHonest (disk.tells old.disk) = λ is. subst IsTrue honest is in
        record {
          later = λ is. omega (arith, reached.later (was is), (way (was is)).later);
          older = older_trans (entries_of start.list) old.history new.history reached.older on.0;
          each = λ is t file early since.
              ⊎_elim
              (λ since_old. ⊎_elim
              (λ (a : already t file). inl a)
              (λ b. inr (before on.1 file b))
              (reached.each (was is) t file early since_old))
              (λ may. inr (in_turn reached.older on.1 file may))
              ((way (was is)).before t file (omega (arith, early, reached.later (was is))) since);
        }

    same_parts : new.disk ≡ old.disk → new.history ≡ old.history → new.pending ≡ old.pending → IsReached disk scheme moment already start old.disk old.history old.pending → IsReached disk scheme moment already start new.disk new.history new.pending
    same_parts disk_is history_is pending_is reached = record {
      later = subst (λ (d : D). IsHonest (disk.tells d) → moment ≤ (disk.tells d).moment) (sym disk_is) reached.later;
      older = subst (IsOlder (entries_of start.list)) (sym history_is) reached.older;
      each = subst (λ (l : List Entry). IsHonest (disk.tells new.disk) → (t : ℕ) (file : List ℕ) → t ≤ moment → (disk.tells new.disk).image_since t file → already t file ⊎ RecoversBetween scheme (entries_of start.list) l file)
          (sym (ap₂ (λ o l. with_entry o l) pending_is history_is))
          (subst (λ (d : D). IsHonest (disk.tells d) → (t : ℕ) (file : List ℕ) → t ≤ moment → (disk.tells d).image_since t file → already t file ⊎ RecoversBetween scheme (entries_of start.list) settled file) (sym disk_is) reached.each);
    }

    -- of a turn for which there was no memory too
    pub reaches : (reply : LogReply Response) → (reply ≡ NoMemory → new.disk ≡ old.disk) → Submits semantics old.history old.pending operation reply new.history new.pending
        → (disk.tells new.disk).honest ≡ (disk.tells old.disk).honest
        → (IsHonest (disk.tells old.disk) → EachMoment (disk.tells old.disk) (disk.tells new.disk) (RecoversOnWay scheme old.history old.pending new.history new.pending))
        → IsReached disk scheme moment already start old.disk old.history old.pending → IsReached disk scheme moment already start new.disk new.history new.pending
    reaches (Answered response front) none turned honest way reached = turns (Answered response front) (λ e. let bad : ⊥ = cc in bad) turned honest way reached
    reaches (DiskFault undecided) none turned honest way reached = turns (DiskFault undecided) (λ e. let bad : ⊥ = cc in bad) turned honest way reached
    reaches NoMemory none turned honest way reached = same_parts (none refl) turned.list turned.undecided reached

  -- from the disk on which the sharing began, each image at each moment recovers a list on the way
  pub moments_of : (start : Snapshot (Filed Entry)) (past : List Entry) (at new : D) (history : List Entry) (pending : Option Entry)
      → moment ≡ (disk.tells at).moment → ((t : ℕ) (file : List ℕ) → already t file → (disk.tells at).image_since t file)
      → ((file : List ℕ) → (disk.tells at).image_since (disk.tells at).moment file → Recovers scheme file past)
      → entries_of start.list ≡ past → IsReached disk scheme moment already start new history pending
      → IsHonest (disk.tells new) → EachMoment (disk.tells at) (disk.tells new) (RecoversBetween scheme past (with_entry pending history))
  moments_of start past at new history pending now back first list_is reached honest =
      let all : (t : ℕ) (file : List ℕ) → t ≤ moment → (disk.tells new).image_since t file → already t file ⊎ RecoversBetween scheme past (with_entry pending history) file =
      subst (λ (l : List Entry). (t : ℕ) (file : List ℕ) → t ≤ moment → (disk.tells new).image_since t file → already t file ⊎ RecoversBetween scheme l (with_entry pending history) file) list_is (reached.each honest) in
      let older : IsOlder past (with_entry pending history) = older_trans past history (with_entry pending history) (subst (λ (l : List Entry). IsOlder l history) list_is reached.older) (older_with pending history) in
      record {
        later = omega (arith, now, reached.later honest);
        each = λ file since.
            ⊎_elim
            (λ (a : already (disk.tells at).moment file). (past, older_refl past, older, first file (back (disk.tells at).moment file a)))
            (λ b. b)
            (all (disk.tells at).moment file (omega (arith, now)) since);
        before = λ t file early since.
            ⊎_elim (λ (a : already t file). inl (back t file a)) (λ b. inr b) (all t file (omega (arith, now, early)) since);
      }
