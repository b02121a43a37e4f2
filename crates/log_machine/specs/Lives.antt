-- What is kept over any list of turns, faults, crashes and openings.
use Rattle.std.specs.Prelude.{◌≡◌, ◌⊎◌, ℕ, List, [], ◌∷◌, Option, Some, None}
use Rattle.io_traits.specs.DiskState.{EachMoment}
use Rattle.io_traits.specs.declared.disk.Disk.{Ghosts}
use Rattle.log_machine.specs.Scheme.{Scheme, Semantics}
use Rattle.log_machine.specs.Recovers.{Recovers}
use Rattle.log_machine.specs.Submits.{Answers, IsUnsettled, IsUnchanged, MayRecover, with_entry}
use Rattle.log_machine.specs.Kept.{Kept, IsSound}
use Rattle.log_machine.specs.declared.reply.LogReply.{LogReply}
use Rattle.log_machine.specs.declared.reply.LogReply.TheVariants.{Answered, DiskFault, NoMemory}

-- what became of an entry
pub data Fate (Entry : Type 0) : Type 0 where
  -- it was answered so that it stands, or settled by a later turn
  Admitted : Entry → Fate Entry
  -- a crash came during its turn, or while it was undecided
  Uncertain : Entry → Fate Entry

-- What may stand of entries with these fates, the newest first: each admitted one, each uncertain one or not, in the
-- order in which they were asked for.
abbrev pub MayHave : {Entry : Type 0} → List (Fate Entry) → List Entry → Type 0
MayHave [] kept = kept ≡ []
MayHave {Entry} (Admitted e ∷ fates) kept = (older : List Entry) × MayHave fates older × (kept ≡ e ∷ older)
MayHave {Entry} (Uncertain e ∷ fates) kept = (older : List Entry) × MayHave fates older × ((kept ≡ older) ⊎ (kept ≡ e ∷ older))

-- one fate more, where there is an entry
abbrev pub with_fate : {Entry : Type 0} → (Entry → Fate Entry) → Option Entry → List (Fate Entry) → List (Fate Entry)
with_fate fate None fates = fates
with_fate fate (Some e) fates = fate e ∷ fates

-- the fates after an ask was judged: what was undecided is admitted, and then what the ask added and was kept
abbrev pub fates_after : {Entry Response : Type 0} → Option Entry → Option Entry → LogReply Response → List (Fate Entry) → List (Fate Entry)
fates_after was added (Answered response front) fates = with_fate Admitted added (with_fate Admitted was fates)
fates_after was added (DiskFault undecided) fates = with_fate Admitted was fates
fates_after was added NoMemory fates = with_fate Admitted was fates

-- where a life stands: a file that a crash left, or an open list
pub data Place (D Entry : Type 0) : Type 0 where
  Left : List ℕ → Place D Entry
  Open : Kept D Entry → Place D Entry

-- A life of a list that had this history when it began. Each step says of its call what the call's contract says; a
-- crash leaves some image of some moment of the call.
pub data Life {D Entry Operation Response : Type 0} (disk : Ghosts D) (scheme : Scheme Entry) (semantics : Semantics Entry Operation Response) (before : List Entry) : List (Fate Entry) → Place D Entry → Type 0 where
  begun : (file : List ℕ) → Recovers scheme file before → Life disk scheme semantics before [] (Left file)
  founded : (kept : Kept D Entry) → kept.history ≡ before → IsSound scheme (disk.tells kept.disk) kept.history kept.pending
      → Life disk scheme semantics before [] (Open kept)
  opened : (fates : List (Fate Entry)) (first : D) (kept : Kept D Entry)
      → Life disk scheme semantics before fates (Left (disk.tells first).reads)
      → Recovers scheme (disk.tells first).reads kept.history → IsSound scheme (disk.tells kept.disk) kept.history kept.pending
      → Life disk scheme semantics before fates (Open kept)
  crashed_opening : (fates : List (Fate Entry)) (first last : D) (file : List ℕ)
      → Life disk scheme semantics before fates (Left (disk.tells first).reads)
      → ((h : List Entry) → Recovers scheme (disk.tells first).reads h → EachMoment (disk.tells first) (disk.tells last) (λ c. Recovers scheme c h))
      → (disk.tells last).image_since (disk.tells first).moment file
      → Life disk scheme semantics before fates (Left file)
  answered : (fates : List (Fate Entry)) (old new : Kept D Entry) (operation : Operation) (reply : LogReply Response)
      → Life disk scheme semantics before fates (Open old)
      → Answers semantics (with_entry old.pending old.history) operation reply new.history new.pending
      → IsSound scheme (disk.tells new.disk) new.history new.pending
      → Life disk scheme semantics before (fates_after old.pending (semantics.added (with_entry old.pending old.history) operation) reply fates) (Open new)
  unsettled : (fates : List (Fate Entry)) (old new : Kept D Entry) (position : ℕ)
      → Life disk scheme semantics before fates (Open old)
      → IsUnsettled old.history old.pending position new.history new.pending
      → IsSound scheme (disk.tells new.disk) new.history new.pending
      → Life disk scheme semantics before fates (Open new)
  unchanged : (fates : List (Fate Entry)) (old new : Kept D Entry)
      → Life disk scheme semantics before fates (Open old)
      → IsUnchanged old.history old.pending new.history new.pending
      → IsSound scheme (disk.tells new.disk) new.history new.pending
      → Life disk scheme semantics before fates (Open new)
  crashed_turn : (fates : List (Fate Entry)) (old new : Kept D Entry) (operation : Operation) (file : List ℕ)
      → Life disk scheme semantics before fates (Open old)
      → EachMoment (disk.tells old.disk) (disk.tells new.disk) (MayRecover scheme semantics old.history old.pending operation)
      → (disk.tells new.disk).image_since (disk.tells old.disk).moment file
      → Life disk scheme semantics before (with_fate Uncertain (semantics.added (with_entry old.pending old.history) operation) (with_fate Uncertain old.pending fates)) (Left file)
  crashed : (fates : List (Fate Entry)) (kept : Kept D Entry) (file : List ℕ)
      → Life disk scheme semantics before fates (Open kept)
      → (disk.tells kept.disk).image file
      → Life disk scheme semantics before (with_fate Uncertain kept.pending fates) (Left file)
