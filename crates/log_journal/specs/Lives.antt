-- What is kept over any list of calls, faults, crashes and openings.
use Rattle.std.specs.Prelude.{◌≡◌, ◌⊎◌, List, [], ◌∷◌, ◌++◌, ℕ}
use Rattle.io_traits.specs.DiskState.{EachMoment}
use Rattle.io_traits.specs.declared.disk.Disk.{Ghosts}
use Rattle.log_journal.specs.Stands.{Payloads, StandsFor, BeforeOrWith}
use Rattle.log_journal.specs.Journal.{Keeps, MayKeep}
use Rattle.log_journal.specs.declared.header.Header.{Header}
use Rattle.log_journal.specs.declared.journal.Journal.{Journal}

-- what became of a payload
pub data PayloadFate : Type 0 where
  -- `put` answered Ok, or `settle` did later
  Acknowledged : List ℕ → PayloadFate
  -- `put` answered a fault that left nothing undecided
  Refused : List ℕ → PayloadFate
  -- a crash came during its `put`, or while it was undecided
  Uncertain : List ℕ → PayloadFate

-- What may be kept of payloads with these fates, the last put first: each acknowledged one, each uncertain one or
-- not, no refused one, in the order in which they were put.
abbrev pub FatesAllow : List PayloadFate → Payloads → Type 0
FatesAllow [] kept = kept ≡ []
FatesAllow (Acknowledged payload ∷ fates) kept = (older : Payloads) × FatesAllow fates older × (kept ≡ older ++ payload ∷ [])
FatesAllow (Refused payload ∷ fates) kept = FatesAllow fates kept
FatesAllow (Uncertain payload ∷ fates) kept = (older : Payloads) × FatesAllow fates older × ((kept ≡ older) ⊎ (kept ≡ older ++ payload ∷ []))

-- where a life stands: a file that a crash left, a journal with nothing undecided, or one with a payload undecided
pub data JournalPlace {D : Type 0} (disk : Ghosts D) : Type 0 where
  Left : List ℕ → JournalPlace disk
  Open : Journal D disk → JournalPlace disk
  Pending : Journal D disk → List ℕ → JournalPlace disk

-- A life of a journal that stood for these payloads when it began. Each step says of its call what the call's
-- contract says, for whatever the journal kept before; a crash leaves some image of some moment of the call.
pub data JournalLife {D : Type 0} (disk : Ghosts D) (header : Header) (before : Payloads) : List PayloadFate → JournalPlace disk → Type 0 where
  begun : (file : List ℕ) → StandsFor header file before → JournalLife disk header before [] (Left file)
  founded : (journal : Journal D disk) → Keeps disk header journal before → JournalLife disk header before [] (Open journal)
  opened : (fates : List PayloadFate) (first : D) (journal : Journal D disk)
      → JournalLife disk header before fates (Left (disk.tells first).reads)
      → ((h : Payloads) → StandsFor header (disk.tells first).reads h → Keeps disk header journal h)
      → JournalLife disk header before fates (Open journal)
  crashed_opening : (fates : List PayloadFate) (first last : D) (file : List ℕ)
      → JournalLife disk header before fates (Left (disk.tells first).reads)
      → ((h : Payloads) → StandsFor header (disk.tells first).reads h → EachMoment (disk.tells first) (disk.tells last) (λ c. StandsFor header c h))
      → (disk.tells last).image_since (disk.tells first).moment file
      → JournalLife disk header before fates (Left file)
  put : (fates : List PayloadFate) (old new : Journal D disk) (payload : List ℕ)
      → JournalLife disk header before fates (Open old)
      → ((h : Payloads) → Keeps disk header old h → Keeps disk header new (h ++ payload ∷ []))
      → JournalLife disk header before (Acknowledged payload ∷ fates) (Open new)
  refused : (fates : List PayloadFate) (old new : Journal D disk) (payload : List ℕ)
      → JournalLife disk header before fates (Open old)
      → ((h : Payloads) → Keeps disk header old h → Keeps disk header new h)
      → JournalLife disk header before (Refused payload ∷ fates) (Open new)
  undecided : (fates : List PayloadFate) (old new : Journal D disk) (payload : List ℕ)
      → JournalLife disk header before fates (Open old)
      → ((h : Payloads) → Keeps disk header old h → MayKeep disk header new h payload)
      → JournalLife disk header before fates (Pending new payload)
  crashed_put : (fates : List PayloadFate) (old new : Journal D disk) (payload file : List ℕ)
      → JournalLife disk header before fates (Open old)
      → ((h : Payloads) → Keeps disk header old h → EachMoment (disk.tells old.disk) (disk.tells new.disk) (BeforeOrWith header h payload))
      → (disk.tells new.disk).image_since (disk.tells old.disk).moment file
      → JournalLife disk header before (Uncertain payload ∷ fates) (Left file)
  lengthened : (fates : List PayloadFate) (old new : Journal D disk)
      → JournalLife disk header before fates (Open old)
      → ((h : Payloads) → Keeps disk header old h → Keeps disk header new h)
      → JournalLife disk header before fates (Open new)
  crashed_lengthening : (fates : List PayloadFate) (old new : Journal D disk) (file : List ℕ)
      → JournalLife disk header before fates (Open old)
      → ((h : Payloads) → Keeps disk header old h → EachMoment (disk.tells old.disk) (disk.tells new.disk) (λ c. StandsFor header c h))
      → (disk.tells new.disk).image_since (disk.tells old.disk).moment file
      → JournalLife disk header before fates (Left file)
  settled : (fates : List PayloadFate) (old new : Journal D disk) (payload : List ℕ)
      → JournalLife disk header before fates (Pending old payload)
      → ((h : Payloads) → MayKeep disk header old h payload → Keeps disk header new (h ++ payload ∷ []))
      → JournalLife disk header before (Acknowledged payload ∷ fates) (Open new)
  unsettled : (fates : List PayloadFate) (old new : Journal D disk) (payload : List ℕ)
      → JournalLife disk header before fates (Pending old payload)
      → ((h : Payloads) → MayKeep disk header old h payload → MayKeep disk header new h payload)
      → JournalLife disk header before fates (Pending new payload)
  crashed_settling : (fates : List PayloadFate) (old new : Journal D disk) (payload file : List ℕ)
      → JournalLife disk header before fates (Pending old payload)
      → ((h : Payloads) → MayKeep disk header old h payload → EachMoment (disk.tells old.disk) (disk.tells new.disk) (BeforeOrWith header h payload))
      → (disk.tells new.disk).image_since (disk.tells old.disk).moment file
      → JournalLife disk header before (Uncertain payload ∷ fates) (Left file)
  crashed : (fates : List PayloadFate) (journal : Journal D disk) (file : List ℕ)
      → JournalLife disk header before fates (Open journal)
      → (disk.tells journal.disk).image file
      → JournalLife disk header before fates (Left file)
  crashed_pending : (fates : List PayloadFate) (journal : Journal D disk) (payload file : List ℕ)
      → JournalLife disk header before fates (Pending journal payload)
      → (disk.tells journal.disk).image file
      → JournalLife disk header before (Uncertain payload ∷ fates) (Left file)
