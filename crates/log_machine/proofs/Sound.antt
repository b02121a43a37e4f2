-- The parts of a kept list stay whole.
use Rattle.std.proofs.Common.{◌≡◌, ◌≢◌, ◌+◌, ◌<◌, ◌≤◌, ◌^◌, ◌++◌, [], ℕ, IsTrue, inl, inr, arith, List, ◌∷◌, length, Option, Some, None, refl, sym, ◌∙◌, subst}
use Rattle.std.specs.Prelude.{IfSome}
use Rattle.io_traits.specs.DiskState.{DiskState, IsHonest, EachMoment}
use Rattle.io_traits.specs.declared.disk.Disk.{Ghosts}
use Rattle.io_traits.proofs.Moments.{started, weaken, join}
use Rattle.log_journal.specs.Stands.{Payloads, BeforeOrWith, StandsFor}
use Rattle.log_journal.specs.Journal.{Keeps, MayKeep, IsDecided, HasUndecided, journal_disk, journal_count}
use Rattle.log_journal.specs.declared.header.Header.{Header}
use Rattle.log_journal.specs.declared.journal.Journal.{Journal}
use Rattle.log_machine.specs.Scheme.{Scheme, Semantics}
use Rattle.log_machine.specs.declared.machine.NewEntry.{NewEntry}
use Rattle.log_machine.specs.NewEntry.{entry_of}
use Rattle.log_machine.specs.Recovers.{payloads_of, RecoversEither}
use Rattle.log_machine.specs.Submits.{MayRecover, RecoversOnWay, after_ask, with_entry}
use Rattle.log_machine.specs.Kept.{IsSettled, IsPending, IsSound, IsWhole}
use Rattle.log_machine.proofs.Images.{IsKeepable, PastIsLegal, recovers_from, keepable_from, keepable_more, either_from, keepable_either}

-- where nothing is undecided, no ruling is asked for
pub none_ruled : {Entry Ruling : Type 0} (o : Option (NewEntry Entry Ruling)) (IsRuling : NewEntry Entry Ruling → Type 0) → entry_of o ≡ None → IfSome o IsRuling
none_ruled None IsRuling none = tt
none_ruled (Some added) IsRuling none = absurd (let bad : ⊥ = cc in bad)

-- the moments of a put of this entry, or of its settling
pub entry_moments : {Entry : Type 0} (scheme : Scheme Entry) (old new : DiskState) (h : List Entry) (e : Entry) (payload : List ℕ)
    → payload ≡ scheme.spelling e → IsKeepable scheme h → scheme.IsEntry e → scheme.IsLegal (e ∷ h)
    → EachMoment old new (BeforeOrWith scheme.header (payloads_of scheme.spelling h) payload) → EachMoment old new (RecoversEither scheme h (e ∷ h))
entry_moments scheme old new h e payload is ok range legal m =
    weaken old new (BeforeOrWith scheme.header (payloads_of scheme.spelling h) (scheme.spelling e)) (RecoversEither scheme h (e ∷ h))
    (λ c b. either_from scheme h e c ok (keepable_more scheme h e ok range legal) b)
    (subst (λ (p : List ℕ). EachMoment old new (BeforeOrWith scheme.header (payloads_of scheme.spelling h) p)) is m)

-- a turn that made no call on the disk
pub unwritten_moments : {Entry Operation Response : Type 0} (scheme : Scheme Entry) (semantics : Semantics Entry Operation Response) (told : DiskState) (h : List Entry) (p : Option Entry) (operation : Operation)
    → ((c : List ℕ) → told.image_since told.moment c → told.image c) → IsSound scheme told h p → EachMoment told told (MayRecover scheme semantics h p operation)
unwritten_moments scheme semantics told h None operation only sound = started told (MayRecover scheme semantics h None operation) (λ c since. inl (sound c (only c since)))
unwritten_moments scheme semantics told h (Some e) operation only sound = started told (MayRecover scheme semantics h (Some e) operation) (λ c since. either c (sound.images c (only c since)))
  where
    either : (c : List ℕ) → RecoversEither scheme h (e ∷ h) c → MayRecover scheme semantics h (Some e) operation c
    either c (inl before) = inl before
    either c (inr with_it) = inr (inl with_it)

-- such a turn left what it found
pub unwritten_way : {Entry : Type 0} (scheme : Scheme Entry) (told : DiskState) (h : List Entry) (p : Option Entry)
    → ((c : List ℕ) → told.image_since told.moment c → told.image c) → IsSound scheme told h p → EachMoment told told (RecoversOnWay scheme h p h p)
unwritten_way scheme told h None only sound = started told (RecoversOnWay scheme h None h None) (λ c since. inl (sound c (only c since)))
unwritten_way scheme told h (Some e) only sound = started told (RecoversOnWay scheme h (Some e) h (Some e)) (λ c since. either c (sound.images c (only c since)))
  where
    either : (c : List ℕ) → RecoversEither scheme h (e ∷ h) c → RecoversOnWay scheme h (Some e) h (Some e) c
    either c (inl before) = inl before
    either c (inr with_it) = inr (inl with_it)

-- what settling and then an answer leave
pub way_on : {Entry : Type 0} (scheme : Scheme Entry) (old settled new : DiskState) (h now : List Entry) (p left : Option Entry)
    → EachMoment old settled (RecoversEither scheme h (with_entry p h)) → EachMoment settled new (RecoversEither scheme (with_entry p h) (with_entry left now))
    → EachMoment old new (RecoversOnWay scheme h p now left)
way_on scheme old settled new h now p left first then_ =
    join old settled new (RecoversOnWay scheme h p now left)
    (weaken old settled (RecoversEither scheme h (with_entry p h)) (RecoversOnWay scheme h p now left) one first)
    (weaken settled new (RecoversEither scheme (with_entry p h) (with_entry left now)) (RecoversOnWay scheme h p now left) (λ c is. inr is) then_)
  where
    one : (c : List ℕ) → RecoversEither scheme h (with_entry p h) c → RecoversOnWay scheme h p now left c
    one c (inl is) = inl is
    one c (inr is) = inr (inl is)

-- and of these by the ask
pub moments_on : {Entry Operation Response : Type 0} (scheme : Scheme Entry) (semantics : Semantics Entry Operation Response) (old settled new : DiskState) (h : List Entry) (p : Option Entry) (operation : Operation)
    → EachMoment old settled (RecoversEither scheme h (with_entry p h)) → EachMoment settled new (RecoversEither scheme (with_entry p h) (after_ask semantics (with_entry p h) operation))
    → EachMoment old new (MayRecover scheme semantics h p operation)
moments_on scheme semantics old settled new h p operation first then_ =
    join old settled new (MayRecover scheme semantics h p operation)
    (weaken old settled (RecoversEither scheme h (with_entry p h)) (MayRecover scheme semantics h p operation) one first)
    (weaken settled new (RecoversEither scheme (with_entry p h) (after_ask semantics (with_entry p h) operation)) (MayRecover scheme semantics h p operation) (λ c is. inr is) then_)
  where
    one : (c : List ℕ) → RecoversEither scheme h (with_entry p h) c → MayRecover scheme semantics h p operation c
    one c (inl is) = inl is
    one c (inr is) = inr (inl is)

-- where an entry is undecided, the journal may keep its payload
pub undecided_stands : {D Entry : Type 0} (disk : Ghosts D) (scheme : Scheme Entry) (journal : Journal D disk) (h : List Entry) (spare : ℕ) (p : Option Entry) → p ≢ None → IsWhole disk scheme journal h spare p
    → IsHonest (disk.tells (journal_disk journal)) → (header : Header) × ((before : Payloads) × ((payload : List ℕ) × MayKeep disk header journal before payload))
undecided_stands disk scheme journal h spare None some whole honest = absurd (some refl)
undecided_stands disk scheme journal h spare (Some e) some whole honest = (scheme.header, (payloads_of scheme.spelling h, (scheme.spelling e, whole.keeps honest)))

-- a journal on the same disk that keeps the same
pub same_whole : {D Entry : Type 0} (disk : Ghosts D) (scheme : Scheme Entry) (old new : Journal D disk) (h : List Entry) (spare : ℕ) (p : Option Entry) → journal_disk new ≡ journal_disk old
    → ((header : Header) (before : Payloads) → Keeps disk header old before → Keeps disk header new before)
    → ((header : Header) (before : Payloads) (payload : List ℕ) → MayKeep disk header old before payload → MayKeep disk header new before payload)
    → journal_count new ≡ journal_count old → (IsDecided old → IsDecided new) → (HasUndecided old → HasUndecided new)
    → IsWhole disk scheme old h spare p → IsWhole disk scheme new h spare p
same_whole {D} disk scheme old new h spare None same keeps may count decided undecided whole = record {
  count = count ∙ whole.count;
  range = whole.range;
  aside = decided whole.aside;
  sound = subst (λ (d : D). IsHonest (disk.tells d) → IsSound scheme (disk.tells d) h None) (sym same) whole.sound;
  keeps = λ honest. keeps scheme.header (payloads_of scheme.spelling h) (whole.keeps (subst (λ (d : D). IsHonest (disk.tells d)) same honest));
}
same_whole {D} disk scheme old new h spare (Some e) same keeps may count decided undecided whole = record {
  count = count ∙ whole.count;
  range = whole.range;
  aside = (undecided whole.aside.0, whole.aside.1, whole.aside.2);
  sound = subst (λ (d : D). IsHonest (disk.tells d) → IsSound scheme (disk.tells d) h (Some e)) (sym same) whole.sound;
  keeps = λ honest. may scheme.header (payloads_of scheme.spelling h) (scheme.spelling e) (whole.keeps (subst (λ (d : D). IsHonest (disk.tells d)) same honest));
}

-- a put of this entry's spelling where nothing is undecided, and its journal after
pub record IsPut {D Entry : Type 0} (disk : Ghosts D) (scheme : Scheme Entry) (journal new : Journal D disk) (h : List Entry) (spare : ℕ) (p : Option Entry) (e : Entry) (payload : List ℕ) : Type 0 where
  pub none : p ≡ None
  pub whole : IsWhole disk scheme journal h spare p
  pub same : (disk.tells (journal_disk new)).honest ≡ (disk.tells (journal_disk journal)).honest
  pub spelled : payload ≡ scheme.spelling e
  pub is_entry : scheme.IsEntry e
  pub admitted : IsTrue (scheme.admits h e)
  pub legal : scheme.IsLegal h → scheme.IsLegal (e ∷ h)

-- over disks whose bytes as they read are one of their images, and lists of which each part that stood is legal
module _ {D Entry : Type 0} (disk : Ghosts D) (scheme : Scheme Entry) (here : (d : D) → IsHonest (disk.tells d) → (disk.tells d).image (disk.tells d).reads) (past : PastIsLegal scheme) where
  pub keepable_settled : (d : D) (h : List Entry) → IsHonest (disk.tells d) → IsSettled scheme (disk.tells d) h → IsKeepable scheme h
  keepable_settled d h honest s = keepable_from scheme h (disk.tells d).reads (s (disk.tells d).reads (here d honest))

  pub keepable_pending : (d : D) (h : List Entry) (e : Entry) → IsHonest (disk.tells d) → IsPending scheme (disk.tells d) h e → IsKeepable scheme h
  keepable_pending d h e honest p = keepable_either scheme past h e (disk.tells d).reads (p.images (disk.tells d).reads (here d honest))

  -- a journal in which nothing is undecided
  pub decided_whole : (journal : Journal D disk) (h : List Entry) (spare : ℕ) → journal_count journal ≡ length h → spare < 2 ^ 32 → IsDecided journal
      → (IsHonest (disk.tells (journal_disk journal)) → IsKeepable scheme h × Keeps disk scheme.header journal (payloads_of scheme.spelling h)) → IsWhole disk scheme journal h spare None
  decided_whole journal h spare count range decided keeps = record {
    count = count;
    range = range;
    aside = decided;
    sound = λ honest c now. recovers_from scheme h c (keeps honest).0 ((keeps honest).1.each c now);
    keeps = λ honest. (keeps honest).1;
  }

  -- a journal in which this entry is undecided
  pub undecided_whole : (journal : Journal D disk) (h : List Entry) (e : Entry) (spare : ℕ) → journal_count journal ≡ length h → spare < 2 ^ 32
      → HasUndecided journal → 1 ≤ spare → IsTrue (scheme.admits h e)
      → (IsHonest (disk.tells (journal_disk journal))
      → IsKeepable scheme h × scheme.IsEntry e × scheme.IsLegal (e ∷ h) × MayKeep disk scheme.header journal (payloads_of scheme.spelling h) (scheme.spelling e))
      → IsWhole disk scheme journal h spare (Some e)
  undecided_whole journal h e spare count range undecided place admitted keeps = record {
    count = count;
    range = range;
    aside = (undecided, place, admitted);
    sound = λ honest. let (ok, is, legal, may) = keeps honest in record {
      images = λ c now. either_from scheme h e c ok (keepable_more scheme h e ok is legal) (may.each c now);
      gate_open = may.gate_open;
      in_range = is;
      legal = legal;
    };
    keeps = λ honest. (keeps honest).3;
  }

  -- a list before a call, and its journal after
  module _ (journal new : Journal D disk) (h : List Entry) (spare : ℕ) (same : (disk.tells (journal_disk new)).honest ≡ (disk.tells (journal_disk journal)).honest) where
    abbrev Honest : Type 0
    Honest = IsHonest (disk.tells (journal_disk journal))

    was : IsHonest (disk.tells (journal_disk new)) → Honest
    was honest = subst IsTrue same honest

    -- a settling that failed
    pub still_whole : (p : Option Entry) → p ≢ None → IsWhole disk scheme journal h spare p → journal_count new ≡ journal_count journal → HasUndecided new
        → (Honest → (before : Payloads) (payload : List ℕ) → MayKeep disk scheme.header journal before payload → MayKeep disk scheme.header new before payload) → IsWhole disk scheme new h spare p
    still_whole None some whole count undecided still = absurd (some refl)
    still_whole (Some e) some whole count undecided still =
        undecided_whole new h e spare (count ∙ whole.count) whole.range undecided whole.aside.1 whole.aside.2 (λ honest.
        let old = was honest in
        let p = whole.sound old in
        (keepable_pending (journal_disk journal) h e old p, p.in_range, p.legal, still old (payloads_of scheme.spelling h) (scheme.spelling e) (whole.keeps old)))

    -- a settling that was done
    pub settled_whole : (p : Option Entry) (e : Entry) (list : List Entry) (left : ℕ) → p ≡ Some e → IsWhole disk scheme journal h spare p
        → list ≡ e ∷ h → spare ≡ left + 1 → journal_count new ≡ journal_count journal + 1 → IsDecided new
        → (Honest → (before : Payloads) (payload : List ℕ) → MayKeep disk scheme.header journal before payload → Keeps disk scheme.header new (before ++ payload ∷ [])) → IsWhole disk scheme new list left None
    settled_whole p e list left is whole grown less count decided keeps =
        let w : IsWhole disk scheme journal h spare (Some e) = subst (λ (o : Option Entry). IsWhole disk scheme journal h spare o) is whole in
        subst (λ (l : List Entry). IsWhole disk scheme new l left None) (sym grown)
        (decided_whole new (e ∷ h) left (omega (arith, count, w.count)) (omega (arith, w.range, less)) decided (λ honest.
        let old = was honest in
        let p = w.sound old in
        (keepable_more scheme h e (keepable_pending (journal_disk journal) h e old p) p.in_range p.legal, keeps old (payloads_of scheme.spelling h) (scheme.spelling e) (w.keeps old))))

  -- a put of this entry
  module _ (journal new : Journal D disk) (h : List Entry) (spare : ℕ) (p : Option Entry) (e : Entry) (payload : List ℕ) (put : IsPut disk scheme journal new h spare p e payload) where
    settled : IsWhole disk scheme journal h spare None
    settled = subst (λ (o : Option Entry). IsWhole disk scheme journal h spare o) put.none put.whole

    keeps_before : IsHonest (disk.tells (journal_disk journal)) → Keeps disk scheme.header journal (payloads_of scheme.spelling h)
    keeps_before honest = settled.keeps honest

    ok : IsHonest (disk.tells (journal_disk journal)) → IsKeepable scheme h
    ok honest = keepable_settled (journal_disk journal) h honest (settled.sound honest)

    was_honest : IsHonest (disk.tells (journal_disk new)) → IsHonest (disk.tells (journal_disk journal))
    was_honest honest = subst IsTrue put.same honest

    -- that isn't kept, for good
    pub refused_whole : journal_count new ≡ journal_count journal → IsDecided new
        → (IsHonest (disk.tells (journal_disk journal)) → Keeps disk scheme.header journal (payloads_of scheme.spelling h) → Keeps disk scheme.header new (payloads_of scheme.spelling h)) → IsWhole disk scheme new h spare None
    refused_whole count decided keeps =
        decided_whole new h spare (count ∙ settled.count) settled.range decided (λ honest. let old = was_honest honest in (ok old, keeps old (keeps_before old)))

    -- that is left undecided
    pub left_whole : journal_count new ≡ journal_count journal → HasUndecided new → 1 ≤ spare
        → (IsHonest (disk.tells (journal_disk journal)) → Keeps disk scheme.header journal (payloads_of scheme.spelling h) → MayKeep disk scheme.header new (payloads_of scheme.spelling h) payload) → IsWhole disk scheme new h spare (Some e)
    left_whole count undecided place keeps =
        undecided_whole new h e spare (count ∙ settled.count) settled.range undecided place put.admitted (λ honest.
        let old = was_honest honest in
        (ok old, put.is_entry, put.legal (ok old).legal, subst (λ (b : List ℕ). MayKeep disk scheme.header new (payloads_of scheme.spelling h) b) put.spelled (keeps old (keeps_before old))))

    -- that was done
    pub kept_whole : (list : List Entry) (left : ℕ) → list ≡ e ∷ h → spare ≡ left + 1 → journal_count new ≡ journal_count journal + 1 → IsDecided new
        → (IsHonest (disk.tells (journal_disk journal)) → Keeps disk scheme.header journal (payloads_of scheme.spelling h) → Keeps disk scheme.header new (payloads_of scheme.spelling h ++ payload ∷ [])) → IsWhole disk scheme new list left None
    kept_whole list left grown less count decided keeps =
        subst (λ (l : List Entry). IsWhole disk scheme new l left None) (sym grown)
        (decided_whole new (e ∷ h) left (omega (arith, count, settled.count)) (omega (arith, settled.range, less)) decided (λ honest.
        let old = was_honest honest in
        (keepable_more scheme h e (ok old) put.is_entry (put.legal (ok old).legal), subst (λ (b : List ℕ). Keeps disk scheme.header new (payloads_of scheme.spelling h ++ b ∷ [])) put.spelled (keeps old (keeps_before old)))))

    -- whatever it came to
    pub put_moments : IsHonest (disk.tells (journal_disk journal))
        → (Keeps disk scheme.header journal (payloads_of scheme.spelling h) → EachMoment (disk.tells (journal_disk journal)) (disk.tells (journal_disk new)) (BeforeOrWith scheme.header (payloads_of scheme.spelling h) payload))
        → EachMoment (disk.tells (journal_disk journal)) (disk.tells (journal_disk new)) (RecoversEither scheme h (e ∷ h))
    put_moments honest moments =
        entry_moments scheme (disk.tells (journal_disk journal)) (disk.tells (journal_disk new)) h e payload put.spelled (ok honest) put.is_entry (put.legal (ok honest).legal) (moments (keeps_before honest))

    -- where it isn't kept
    pub not_put_moments : IsHonest (disk.tells (journal_disk journal))
        → (Keeps disk scheme.header journal (payloads_of scheme.spelling h) → EachMoment (disk.tells (journal_disk journal)) (disk.tells (journal_disk new)) (λ file. StandsFor scheme.header file (payloads_of scheme.spelling h)))
        → EachMoment (disk.tells (journal_disk journal)) (disk.tells (journal_disk new)) (RecoversEither scheme h h)
    not_put_moments honest moments =
        weaken (disk.tells (journal_disk journal)) (disk.tells (journal_disk new)) (λ file. StandsFor scheme.header file (payloads_of scheme.spelling h)) (RecoversEither scheme h h)
        (λ c stands. inl (recovers_from scheme h c (ok honest) stands)) (moments (keeps_before honest))

  -- settling: at each moment each image recovers the list with the undecided entry or without
  pub settling_moments : (journal : Journal D disk) (new : DiskState) (h : List Entry) (spare : ℕ) (p : Option Entry) → p ≢ None → IsWhole disk scheme journal h spare p
      → IsHonest (disk.tells (journal_disk journal))
      → ((before : Payloads) (payload : List ℕ) → MayKeep disk scheme.header journal before payload → EachMoment (disk.tells (journal_disk journal)) new (BeforeOrWith scheme.header before payload))
      → EachMoment (disk.tells (journal_disk journal)) new (RecoversEither scheme h (with_entry p h))
  settling_moments journal new h spare None some whole honest moments = absurd (some refl)
  settling_moments journal new h spare (Some e) some whole honest moments =
      let p = whole.sound honest in
      entry_moments scheme (disk.tells (journal_disk journal)) new h e (scheme.spelling e) refl (keepable_pending (journal_disk journal) h e honest p) p.in_range p.legal
      (moments (payloads_of scheme.spelling h) (scheme.spelling e) (whole.keeps honest))
