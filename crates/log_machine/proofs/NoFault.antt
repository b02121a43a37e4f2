-- A file that recovers a list has no fault.
use Rattle.std.proofs.Common.{◌≡◌, ◌⊎◌, inl, inr, ℕ, List, [], ◌∷◌, ◌++◌, length, refl, sym, ◌∙◌, ap, subst, append_assoc, arith, length-append}
use Rattle.std.proofs.lemmas.List.{append-nil}
use Rattle.log_journal.specs.Stands.{Payloads, IsUnborn}
use Rattle.log_journal.specs.Head.{IsForeign, IsOld}
use Rattle.log_journal.specs.Opening.{IsHeadRefusal}
use Rattle.log_journal.specs.declared.opening.OpenError.{OpenError}
use Rattle.log_journal.specs.declared.opening.OpenError.TheVariants.{NoOffice, NotJournal, OldVersion, Damaged, DiskFault, NoMemory}
use Rattle.log_journal.proofs.Unique.{begins, undamaged, born, not_unborn}
use Rattle.log_machine.specs.Scheme.{Scheme}
use Rattle.log_machine.specs.Recovers.{payloads_of, AreEntries, Recovers}
use Rattle.log_machine.specs.Faulty.{HasFault, no_record, no_entry, not_legal, IsFaultyAt}
use Rattle.log_machine.specs.Reading.{IsReadRefusal}
use Rattle.log_machine.proofs.Histories.{parts_same, payloads_once, AreAlone}
use Rattle.log_machine.proofs.Images.{PastIsLegal}

-- a list is empty, or has a last element
last_of : (l : Payloads) → (l ≡ []) ⊎ ((front : Payloads) × ((x : List ℕ) × (l ≡ front ++ x ∷ [])))
last_of [] = inl refl
last_of (y ∷ l) = go (last_of l)
  where
    go : (l ≡ []) ⊎ ((front : Payloads) × ((x : List ℕ) × (l ≡ front ++ x ∷ []))) → (y ∷ l ≡ []) ⊎ ((front : Payloads) × ((x : List ℕ) × (y ∷ l ≡ front ++ x ∷ [])))
    go (inl none) = inr ([], (y, ap (λ (m : Payloads). y ∷ m) none))
    go (inr some) = inr (y ∷ some.0, (some.1.0, ap (λ (m : Payloads). y ∷ m) some.1.1))

longer : (xs : Payloads) (x : List ℕ) (more : Payloads) → [] ≡ (xs ++ x ∷ []) ++ more → ⊥
longer xs x more is = omega (arith, ap length is, length-append (xs ++ x ∷ []) more, length-append xs (x ∷ []))

-- what is older than entries of a legal list is legal
pub older_legal : {Entry : Type 0} (scheme : Scheme Entry) → PastIsLegal scheme → (newer past : List Entry) → scheme.IsLegal (newer ++ past) → scheme.IsLegal past
older_legal scheme law [] past legal = legal
older_legal scheme law (e ∷ newer) past legal = older_legal scheme law newer past (law (newer ++ past) e legal)

module _ {Entry : Type 0} (scheme : Scheme Entry) (alone : AreAlone scheme) where
  -- the spellings of a list
  abbrev payloads : List Entry → Payloads
  payloads = payloads_of scheme.spelling

  -- payloads that come first are those of the older entries
  pub older_payloads : (k h : List Entry) (more : Payloads) → AreEntries scheme.IsEntry k → AreEntries scheme.IsEntry h
      → payloads_of scheme.spelling k ≡ payloads_of scheme.spelling h ++ more → (newer : List Entry) × (k ≡ newer ++ h)
  older_payloads [] [] more pk ph is = ([], refl)
  older_payloads [] (g ∷ h) more pk ph is = absurd (longer (payloads h) (scheme.spelling g) more is)
  older_payloads (f ∷ past) h more pk ph is = go (last_of more) (λ front e. older_payloads past h front pk.0 ph e)
    where
      go : (more ≡ []) ⊎ ((front : Payloads) × ((x : List ℕ) × (more ≡ front ++ x ∷ []))) → ((front : Payloads) → payloads past ≡ payloads h ++ front → (newer : List Entry) × (past ≡ newer ++ h))
          → (newer : List Entry) × (f ∷ past ≡ newer ++ h)
      go (inl none) older = ([], payloads_once scheme alone (f ∷ past) h pk ph (is ∙ ap (λ (l : Payloads). payloads h ++ l) none ∙ append-nil (payloads h)))
      go (inr some) older =
          let whole : payloads past ++ scheme.spelling f ∷ [] ≡ (payloads h ++ some.0) ++ some.1.0 ∷ [] = is ∙ ap (λ (l : Payloads). payloads h ++ l) some.1.1 ∙ sym (append_assoc (payloads h) some.0 (some.1.0 ∷ [])) in
          let rest = older some.0 (parts_same (payloads past) (payloads h ++ some.0) (scheme.spelling f) some.1.0 whole).0 in
          (f ∷ rest.0, ap (λ (l : List Entry). f ∷ l) rest.1)

  -- each payload of a list is the spelling of one of its entries
  pub spelled_at : (k : List Entry) (before : Payloads) (payload : List ℕ) (more : Payloads) → AreEntries scheme.IsEntry k
      → payloads_of scheme.spelling k ≡ (before ++ payload ∷ []) ++ more → (e : Entry) × scheme.IsEntry e × (payload ≡ scheme.spelling e)
  spelled_at [] before payload more pk is = absurd (longer before payload more is)
  spelled_at (f ∷ past) before payload more pk is = go (last_of more) (λ front e. spelled_at past before payload front pk.0 e)
    where
      go : (more ≡ []) ⊎ ((front : Payloads) × ((x : List ℕ) × (more ≡ front ++ x ∷ [])))
          → ((front : Payloads) → payloads past ≡ (before ++ payload ∷ []) ++ front → (e : Entry) × scheme.IsEntry e × (payload ≡ scheme.spelling e))
          → (e : Entry) × scheme.IsEntry e × (payload ≡ scheme.spelling e)
      go (inl none) older = (f, pk.1, sym (parts_same (payloads past) before (scheme.spelling f) payload (is ∙ ap (λ (l : Payloads). (before ++ payload ∷ []) ++ l) none ∙ append-nil (before ++ payload ∷ []))).1)
      go (inr some) older =
          let whole : payloads past ++ scheme.spelling f ∷ [] ≡ ((before ++ payload ∷ []) ++ some.0) ++ some.1.0 ∷ [] =
          is ∙ ap (λ (l : Payloads). (before ++ payload ∷ []) ++ l) some.1.1 ∙ sym (append_assoc (before ++ payload ∷ []) some.0 (some.1.0 ∷ [])) in
          older some.0 (parts_same (payloads past) ((before ++ payload ∷ []) ++ some.0) (scheme.spelling f) some.1.0 whole).0

  pub unfaulty : PastIsLegal scheme → (file : List ℕ) (k : List Entry) (place : ℕ) → Recovers scheme file k → IsFaultyAt scheme file place → ⊥
  unfaulty law file k place r faulty = go faulty.fault
    where
      go : HasFault scheme file faulty.history → ⊥
      go (no_record at damaged) = undamaged scheme.header file (payloads faulty.history) (payloads k) at r.stands damaged
      go (no_entry payload b none) =
          let m = begins scheme.header file b.rest (payloads faulty.history ++ payload ∷ []) (payloads k) b.whole b.sizes r.stands in
          let s = spelled_at k (payloads faulty.history) payload m.0 r.entries m.1 in
          none s.0 s.1 s.2
      go (not_legal f b range illegal) =
          let m = begins scheme.header file b.rest (payloads (f ∷ faulty.history)) (payloads k) b.whole b.sizes r.stands in
          let o = older_payloads k (f ∷ faulty.history) m.0 r.entries (faulty.entries, range) m.1 in
          illegal (older_legal scheme law o.0 (f ∷ faulty.history) (subst scheme.IsLegal o.1 r.legal))

  -- nor is it refused by what stands behind its front
  pub read_refusal : PastIsLegal scheme → (file : List ℕ) (k : List Entry) (e : OpenError) → Recovers scheme file k
      → ((place : ℕ) → e ≡ Damaged place → IsFaultyAt scheme file place) → IsReadRefusal e → (e ≡ NoMemory) ⊎ (e ≡ DiskFault)
  read_refusal law file k NoOffice r faulty is = absurd is
  read_refusal law file k NotJournal r faulty is = absurd is
  read_refusal law file k OldVersion r faulty is = absurd is
  read_refusal law file k (Damaged place) r faulty is = absurd (unfaulty law file k place r (faulty place refl))
  read_refusal law file k DiskFault r faulty is = inr refl
  read_refusal law file k NoMemory r faulty is = inl refl

-- nor by its front
pub head_refusal : {Entry : Type 0} (scheme : Scheme Entry) (file : List ℕ) (k : List Entry) (e : OpenError) → Recovers scheme file k
    → (e ≡ NoOffice → IsUnborn file) → (e ≡ NotJournal → IsForeign scheme.header file) → (e ≡ OldVersion → IsOld scheme.header file) → IsHeadRefusal e → (e ≡ NoMemory) ⊎ (e ≡ DiskFault)
head_refusal scheme file k NoOffice r unborn foreign old is = absurd (not_unborn scheme.header file (born scheme.header file (payloads_of scheme.spelling k) r.stands) (unborn refl))
head_refusal scheme file k NotJournal r unborn foreign old is = absurd ((foreign refl).not_born (born scheme.header file (payloads_of scheme.spelling k) r.stands))
head_refusal scheme file k OldVersion r unborn foreign old is = absurd ((old refl).not_born (born scheme.header file (payloads_of scheme.spelling k) r.stands))
head_refusal scheme file k (Damaged place) r unborn foreign old is = absurd is
head_refusal scheme file k DiskFault r unborn foreign old is = inr refl
head_refusal scheme file k NoMemory r unborn foreign old is = inl refl
