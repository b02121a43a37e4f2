-- What a life of a list keeps.
use Rattle.std.proofs.Common.{◌≡◌, ◌⊎◌, inl, inr, ℕ, List, [], ◌∷◌, ◌++◌, Option, Some, None, refl, ◌∙◌, ap, subst}
use Rattle.io_traits.specs.declared.disk.Disk.{Ghosts}
use Rattle.io_traits.specs.DiskState.{DiskState}
use Rattle.log_machine.specs.Scheme.{Scheme, Semantics}
use Rattle.log_machine.specs.Recovers.{Recovers, RecoversEither}
use Rattle.log_machine.specs.Submits.{Answers, with_entry}
use Rattle.log_machine.specs.Kept.{IsSound}
use Rattle.log_machine.specs.Lives.{Fate, Admitted, Uncertain, MayHave, with_fate, fates_after, Place, Left, Open, Life, begun, founded, opened, crashed_opening, answered, unsettled, unchanged, crashed_turn, crashed}
use Rattle.log_machine.specs.declared.reply.LogReply.{LogReply}
use Rattle.log_machine.specs.declared.reply.LogReply.TheVariants.{Answered, DiskFault, NoMemory}
use Rattle.log_machine.proofs.Histories.{recovers_once, AreAlone}

module _ {Entry : Type 0} where
  admitted_more : (o : Option Entry) (fates : List (Fate Entry)) (kept : List Entry) → MayHave fates kept → MayHave (with_fate Admitted o fates) (with_entry o kept)
  admitted_more None fates kept may = may
  admitted_more (Some e) fates kept may = (kept, may, refl)

  uncertain_with : (o : Option Entry) (fates : List (Fate Entry)) (kept : List Entry) → MayHave fates kept → MayHave (with_fate Uncertain o fates) (with_entry o kept)
  uncertain_with None fates kept may = may
  uncertain_with (Some e) fates kept may = (kept, may, inr refl)

  uncertain_without : (o : Option Entry) (fates : List (Fate Entry)) (kept : List Entry) → MayHave fates kept → MayHave (with_fate Uncertain o fates) kept
  uncertain_without None fates kept may = may
  uncertain_without (Some e) fates kept may = (kept, may, inl refl)

  with_entry-append : (o : Option Entry) (kept before : List Entry) → with_entry o (kept ++ before) ≡ with_entry o kept ++ before
  with_entry-append None kept before = refl
  with_entry-append (Some e) kept before = refl

  -- at a moment of a turn that may add this entry
  at_moment : (scheme : Scheme Entry) (was added : Option Entry) (fates : List (Fate Entry)) (kept before old : List Entry) (file : List ℕ) → MayHave fates kept → old ≡ kept ++ before
      → Recovers scheme file old ⊎ (Recovers scheme file (with_entry was old) ⊎ Recovers scheme file (with_entry added (with_entry was old)))
      → (now : List Entry) × MayHave (with_fate Uncertain added (with_fate Uncertain was fates)) now × Recovers scheme file (now ++ before)
  at_moment scheme was added fates kept before old file may is (inl without) =
      (kept, uncertain_without added (with_fate Uncertain was fates) kept (uncertain_without was fates kept may), subst (λ (h : List Entry). Recovers scheme file h) is without)
  at_moment scheme was added fates kept before old file may is (inr (inl with_was)) = (
    with_entry was kept,
    uncertain_without added (with_fate Uncertain was fates) (with_entry was kept) (uncertain_with was fates kept may),
    subst (λ (h : List Entry). Recovers scheme file h) (ap (λ (h : List Entry). with_entry was h) is ∙ with_entry-append was kept before) with_was,
  )
  at_moment scheme was added fates kept before old file may is (inr (inr with_both)) = (
    with_entry added (with_entry was kept),
    uncertain_with added (with_fate Uncertain was fates) (with_entry was kept) (uncertain_with was fates kept may),
    subst (λ (h : List Entry). Recovers scheme file h)
        (ap (λ (h : List Entry). with_entry added (with_entry was h)) is ∙ ap (λ (h : List Entry). with_entry added h) (with_entry-append was kept before) ∙ with_entry-append added (with_entry was kept) before) with_both,
  )

  -- between two turns
  at_rest : (scheme : Scheme Entry) (told : DiskState) (history : List Entry) (pending : Option Entry) (fates : List (Fate Entry)) (kept before : List Entry) (file : List ℕ) → MayHave fates kept
      → history ≡ kept ++ before → IsSound scheme told history pending → told.image file
      → (now : List Entry) × MayHave (with_fate Uncertain pending fates) now × Recovers scheme file (now ++ before)
  at_rest scheme told history None fates kept before file may is sound left = (kept, may, subst (λ (h : List Entry). Recovers scheme file h) is (sound file left))
  at_rest scheme told history (Some e) fates kept before file may is sound left = either (sound.images file left)
    where
      either : RecoversEither scheme history (e ∷ history) file → (now : List Entry) × MayHave (Uncertain e ∷ fates) now × Recovers scheme file (now ++ before)
      either (inl without) = (kept, (kept, may, inl refl), subst (λ (h : List Entry). Recovers scheme file h) is without)
      either (inr with_it) = (e ∷ kept, (kept, may, inr refl), subst (λ (h : List Entry). Recovers scheme file h) (ap (λ (h : List Entry). e ∷ h) is) with_it)

module _ {D Entry Operation Response : Type 0} (disk : Ghosts D) (scheme : Scheme Entry) (semantics : Semantics Entry Operation Response) (alone : AreAlone scheme) (before : List Entry) where
  -- what stands at a place of a life
  Holds : List (Fate Entry) → Place D Entry → Type 0
  Holds fates (Left file) = (kept : List Entry) × MayHave fates kept × Recovers scheme file (kept ++ before)
  Holds fates (Open list) = (kept : List Entry) × MayHave fates kept × (list.history ≡ kept ++ before) × IsSound scheme (disk.tells list.disk) list.history list.pending

  -- after an ask was judged
  after_answer : (was : Option Entry) (operation : Operation) (reply : LogReply Response) (fates : List (Fate Entry)) (kept old history : List Entry) (pending : Option Entry)
      → MayHave fates kept → old ≡ kept ++ before → Answers semantics (with_entry was old) operation reply history pending
      → (now : List Entry) × MayHave (fates_after was (semantics.added (with_entry was old) operation) reply fates) now × (history ≡ now ++ before)
  after_answer was operation reply fates kept old history pending may is said = go reply said
    where
      added : Option Entry
      added = semantics.added (with_entry was old) operation

      first : with_entry was old ≡ with_entry was kept ++ before
      first = ap (λ (h : List Entry). with_entry was h) is ∙ with_entry-append was kept before

      same : history ≡ with_entry was old → (now : List Entry) × MayHave (with_fate Admitted was fates) now × (history ≡ now ++ before)
      same list = (with_entry was kept, admitted_more was fates kept may, list ∙ first)

      go : (reply : LogReply Response) → Answers semantics (with_entry was old) operation reply history pending
          → (now : List Entry) × MayHave (fates_after was (semantics.added (with_entry was old) operation) reply fates) now × (history ≡ now ++ before)
      go (Answered response front) said = (
        with_entry (semantics.added (with_entry was old) operation) (with_entry was kept),
        admitted_more (semantics.added (with_entry was old) operation) (with_fate Admitted was fates) (with_entry was kept) (admitted_more was fates kept may),
        said.list ∙ ap (λ (h : List Entry). with_entry (semantics.added (with_entry was old) operation) h) first ∙ with_entry-append (semantics.added (with_entry was old) operation) (with_entry was kept) before,
      )
      go (DiskFault None) said = same said.list
      go (DiskFault (Some position)) said = same said.list
      go NoMemory said = absurd said

  holds : (fates : List (Fate Entry)) (place : Place D Entry) → Life disk scheme semantics before fates place → Holds fates place
  unfolding Holds
  holds fates place (begun file stands) = ([], refl, stands)
  holds fates place (founded list is sound) = ([], refl, is, sound)
  holds fates place (opened older first list so_far stands sound) =
      let (kept, may, before_it) = holds older (Left (disk.tells first).reads) so_far in
      (kept, may, recovers_once scheme alone (disk.tells first).reads list.history (kept ++ before) stands before_it, sound)
  holds fates place (crashed_opening older first last file so_far moments left) =
      let (kept, may, stands) = holds older (Left (disk.tells first).reads) so_far in
      (kept, may, (moments (kept ++ before) stands).each file left)
  holds fates place (answered older old new operation reply so_far said sound) =
      let (kept, may, is, was) = holds older (Open old) so_far in
      let (now, may_now, is_now) = after_answer old.pending operation reply older kept old.history new.history new.pending may is said in
      (now, may_now, is_now, sound)
  holds fates place (unsettled older old new position so_far said sound) =
      let (kept, may, is, was) = holds older (Open old) so_far in
      (kept, may, said.list ∙ is, sound)
  holds fates place (unchanged older old new so_far said sound) =
      let (kept, may, is, was) = holds older (Open old) so_far in
      (kept, may, said.list ∙ is, sound)
  holds fates place (crashed_turn older old new operation file so_far moments left) =
      let (kept, may, is, was) = holds older (Open old) so_far in
      at_moment scheme old.pending (semantics.added (with_entry old.pending old.history) operation) older kept before old.history file may is (moments.each file left)
  holds fates place (crashed older list file so_far left) =
      let (kept, may, is, sound) = holds older (Open list) so_far in
      at_rest scheme (disk.tells list.disk) list.history list.pending older kept before file may is sound left

  pub kept : (file : List ℕ) (fates : List (Fate Entry)) → Life disk scheme semantics before fates (Left file)
      → (kept : List Entry) × MayHave fates kept × Recovers scheme file (kept ++ before)
  unfolding Holds
  kept file fates life = holds fates (Left file) life
