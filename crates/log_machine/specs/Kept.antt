-- What a kept list is to its callers, and what it has on its disk.
use Rattle.std.specs.Prelude.{◌≡◌, ◌<◌, ◌≤◌, ◌^◌, ℕ, List, ◌∷◌, Option, Some, None, MatchOption, IsTrue, length}
use Rattle.io_traits.specs.DiskState.{DiskState, EachImage, IsHonest}
use Rattle.io_traits.specs.declared.disk.Disk.{Ghosts}
use Rattle.log_journal.specs.Stands.{WithGateOpen}
use Rattle.log_journal.specs.Journal.{Keeps, MayKeep, IsDecided, HasUndecided, journal_disk, journal_count}
use Rattle.log_journal.specs.declared.journal.Journal.{Journal}
use Rattle.log_machine.specs.Scheme.{Scheme}
use Rattle.log_machine.specs.Recovers.{Recovers, RecoversEither, payloads_of}

-- what a contract sees of a kept list
pub record Kept (D Entry : Type 0) : Type 0 where
  pub disk : D
  -- its entries, the newest first
  pub history : List Entry
  -- the entry that is undecided, where one is: a fault left it on the disk, and not known to stand
  pub pending : Option Entry
  -- how many turns it takes without asking for memory
  pub room : ℕ

-- Nothing is undecided: each image recovers the list.
abbrev pub IsSettled : {Entry : Type 0} → Scheme Entry → DiskState → List Entry → Type 0
IsSettled scheme told history = EachImage told (λ file. Recovers scheme file history)

-- This entry is undecided: each image recovers the list or that with it, and stands for that with it once its gate
-- byte is set to 1.
pub record IsPending {Entry : Type 0} (scheme : Scheme Entry) (told : DiskState) (history : List Entry) (entry : Entry) : Type 0 where
  pub images : EachImage told (RecoversEither scheme history (entry ∷ history))
  pub gate_open : EachImage told (WithGateOpen scheme.header (payloads_of scheme.spelling history) (scheme.spelling entry))
  pub in_range : scheme.IsEntry entry
  pub legal : scheme.IsLegal (entry ∷ history)

-- one of the two
abbrev pub IsSound : {Entry : Type 0} → Scheme Entry → DiskState → List Entry → Option Entry → Type 0
IsSound scheme told history pending = MatchOption pending (IsSettled scheme told history) (IsPending scheme told history)

-- how many places are set aside for an undecided entry
abbrev pub places_of : {Entry : Type 0} → Option Entry → ℕ
places_of None = 0
places_of (Some entry) = 1

-- the journal keeps the list, and one entry more or not where that is undecided
abbrev pub JournalKeeps : {D Entry : Type 0} (disk : Ghosts D) → Scheme Entry → Journal D disk → List Entry → Option Entry → Type 0
JournalKeeps disk scheme journal history None = Keeps disk scheme.header journal (payloads_of scheme.spelling history)
JournalKeeps disk scheme journal history (Some entry) = MayKeep disk scheme.header journal (payloads_of scheme.spelling history) (scheme.spelling entry)

-- the journal's undecided payload is that of the undecided entry, which has a place set aside, and is to be admitted
abbrev pub IsAside : {D Entry : Type 0} (disk : Ghosts D) → Scheme Entry → Journal D disk → List Entry → ℕ → Option Entry → Type 0
IsAside disk scheme journal history spare None = IsDecided journal
IsAside disk scheme journal history spare (Some entry) = HasUndecided journal × (1 ≤ spare) × IsTrue (scheme.admits history entry)

-- what holds of the parts of each kept list: a journal, the list in its docket, the docket's spare places, and what is undecided
pub record IsWhole {D Entry : Type 0} (disk : Ghosts D) (scheme : Scheme Entry) (journal : Journal D disk) (history : List Entry) (spare : ℕ) (pending : Option Entry) : Type 0 where
  pub count : journal_count journal ≡ length history
  pub range : spare < 2 ^ 32
  pub aside : IsAside disk scheme journal history spare pending
  pub sound : IsHonest (disk.tells (journal_disk journal)) → IsSound scheme (disk.tells (journal_disk journal)) history pending
  pub keeps : IsHonest (disk.tells (journal_disk journal)) → JournalKeeps disk scheme journal history pending
