-- What a shared list is to its callers.
use Rattle.std.specs.Prelude.{◌≡◌, ◌≤◌, ◌⊎◌, ℕ, Bool, true, false, List, Option, Some, None, is_some}
use Rattle.io_traits.specs.DiskState.{IsHonest}
use Rattle.io_traits.specs.declared.disk.Disk.{Ghosts}
use Rattle.log_machine.specs.Recovers.{Recovers}
use Rattle.log_machine.specs.Scheme.{Scheme, Semantics}
use Rattle.log_machine.specs.Submits.{Submits, with_entry}
use Rattle.log_lock.specs.Passes.{IsOlder}
use Rattle.log_machine.specs.declared.reply.LogReply.{LogReply}
use Rattle.log_machine.specs.declared.reply.LogReply.TheVariants.{Answered, DiskFault, NoMemory}
use Rattle.log_lock.specs.declared.turned.Snapshot.{Snapshot}
use Rattle.log_machine.specs.declared.names.RowName.{RowName}
use Rattle.log_machine.specs.declared.names.Filed.{Filed}
use Rattle.log_machine.specs.Names.{filed_list, filed_pending, entries_of, entry_of}

-- what a contract sees of a shared list
pub record Shared (D Entry : Type 0) : Type 0 where
  pub disk : D
  -- its entries, the newest first
  pub history : List Entry
  -- the entry that is undecided, where one is
  pub pending : Option Entry
  -- how many turns it takes without asking for memory
  pub room : ℕ
  -- the rows that filed the newest entries, the newest first
  pub log : List RowName
  -- the row that filed what is undecided
  pub waiting : Option RowName

-- how many places of the log are set aside for a row that waits
abbrev pub places_of_row : Option RowName → ℕ
places_of_row None = 0
places_of_row (Some row) = 1

-- how it stands
abbrev pub stand_of : {Entry : Type 0} → List Entry → Option Entry → List RowName → Option RowName → ℕ → Bool → Snapshot (Filed Entry)
stand_of history pending log waiting faults honest = record { list = filed_list history log; pending = filed_pending pending waiting; faults = faults; fixed = honest }

-- the reply tells of want of memory
abbrev pub wants_memory : {Response : Type 0} → LogReply Response → Bool
wants_memory (Answered response front) = false
wants_memory (DiskFault undecided) = false
wants_memory NoMemory = true

-- a row waits exactly where an entry is undecided
abbrev pub AreBoth : {Entry : Type 0} → Option Entry → Option RowName → Type 0
AreBoth pending waiting = is_some waiting ≡ is_some pending

-- The sharing of a list began on this disk: at this moment, with what a crash may have left up to then.
pub record IsBegun {D : Type 0} (disk : Ghosts D) (moment : ℕ) (already : ℕ → List ℕ → Type 0) (at : D) : Type 0 where
  pub now : moment ≡ (disk.tells at).moment
  pub all : (t : ℕ) (file : List ℕ) → (disk.tells at).image_since t file → already t file

-- A file recovers a list that goes on from one and is an older part of another.
abbrev pub RecoversBetween : {Entry : Type 0} → Scheme Entry → List Entry → List Entry → List ℕ → Type 0
RecoversBetween {Entry} scheme one other file = (history : List Entry) × IsOlder one history × IsOlder history other × Recovers scheme file history

-- Submits have made this of a list that stood so, and each image at each moment since then recovers a list on the way.
pub record IsReached {D Entry : Type 0} (disk : Ghosts D) (scheme : Scheme Entry) (moment : ℕ) (already : ℕ → List ℕ → Type 0) (start : Snapshot (Filed Entry)) (at : D) (history : List Entry) (pending : Option Entry) : Type 0 where
  pub later : IsHonest (disk.tells at) → moment ≤ (disk.tells at).moment
  pub older : IsOlder (entries_of start.list) history
  pub each : IsHonest (disk.tells at) → (t : ℕ) (file : List ℕ) → t ≤ moment → (disk.tells at).image_since t file
      → already t file ⊎ RecoversBetween scheme (entries_of start.list) (with_entry pending history) file

-- the reply is that of one turn of the kept list
abbrev pub IsTurn : {Entry Operation Response : Type 0} → Semantics Entry Operation Response → Snapshot (Filed Entry) → Operation → LogReply Response → Snapshot (Filed Entry) → Type 0
IsTurn semantics old operation reply new = Submits semantics (entries_of old.list) (entry_of old.pending) operation reply (entries_of new.list) (entry_of new.pending)
