-- When the rows of many desks can all be filed, which counts of faults rose, and which rows filed what was added.
use Rattle.std.specs.Prelude.{◌≡◌, ◌≢◌, ◌+◌, ◌<◌, ℕ, List, [], ◌∷◌, length, get_or, sum_by, Contains, Option, Some, None, Ok}
use Rattle.std.specs.List.{All}
use Rattle.io_traits.specs.Faults.{Rose}
use Rattle.io_traits.specs.DiskState.{IsHonest, DiskState}
use Rattle.log_journal.specs.Head.{IsBorn}
use Rattle.log_desks.specs.Answered.{admitted_of}
use Rattle.log_desks.specs.Desks.{DeskView}
use Rattle.log_desks.specs.declared.stop.DeskEnd.{DeskEnd}
use Rattle.log_desks.specs.declared.stop.DeskEnd.TheVariants.{Stopped}
use Rattle.log_desks.specs.declared.stop.DeskStop.TheVariants.{DiskFault}
use Rattle.log_machine.specs.Faulty.{IsFaultyAt}
use Rattle.log_machine.specs.Scheme.{Scheme, Semantics}
use Rattle.log_machine.specs.Texts.{Texts}
use Rattle.log_machine.specs.declared.names.Filed.{Filed}
use Rattle.log_machine.specs.declared.names.RowName.{RowName}
use Rattle.log_runs.specs.Ends.{IsShort}
use Rattle.log_lock.specs.Turning.{RoseBy}
use Rattle.log_lock.specs.declared.turned.Snapshot.{Snapshot}
use Rattle.log_desk_runs.specs.RanDesksOn.{AreFew, FilesOwn, HasFiled, HasStood}
use Rattle.log_desk_runs.specs.Reads.{Reads}

-- an honest disk whose file is such a list's, and isn't damaged
abbrev pub HasList : {Entry : Type 0} → Scheme Entry → DiskState → Type 0
HasList scheme disk = IsHonest disk × IsBorn scheme.header disk.reads × ((place : ℕ) → IsFaultyAt scheme disk.reads place → ⊥)

-- the desks can file: there are 1 to 16, each input is honest and has not too many bytes, and the disk has a list that isn't damaged
pub record CanFile {I RowFormat Entry : Type 0} (scheme : Scheme Entry) (reads : Reads I RowFormat) (inputs : List I) (disk : DiskState) : Type 0 where
  pub count : AreFew (length inputs)
  pub short : All (λ (i : I). IsShort (reads.honest i) (length (reads.left i))) inputs
  pub list : HasList scheme disk

-- no input's count of faults rose
abbrev pub NoneRose : {I RowFormat : Type 0} → Reads I RowFormat → List I → List I → Type 0
NoneRose {I} reads old new = (k : ℕ) (i : I) → k < length old → Rose (reads.faults (get_or old k i)) (reads.faults (get_or new k i)) → ⊥

-- the count of faults of an input rose, and those of the inputs before it stood still
pub record FailsFirst {I RowFormat : Type 0} (reads : Reads I RowFormat) (old new : List I) : Type 0 where
  pub place : ℕ
  pub inside : place < length old
  pub rose : (i : I) → Rose (reads.faults (get_or old place i)) (reads.faults (get_or new place i))
  pub before : (k : ℕ) (i : I) → k < place → HasStood reads old new k i

-- the disk's count of faults rose where the status is 5, and stood still at every other one but 4
pub record MovedAt (status old new : ℕ) : Type 0 where
  pub rose : status ≡ 5 → RoseBy 1 old new
  pub still : status ≢ 4 → status ≢ 5 → new ≡ old

-- a desk that ended in a fault of the disk was told of one, and any other of none
abbrev pub disk_faults : DeskEnd → ℕ
disk_faults (Stopped (DiskFault undecided)) = 1
disk_faults _ = 0

-- how many of these desks ended in a fault of the disk
abbrev pub faulted_in : {Entry Lines : Type 0} → List (DeskView Entry Lines) → ℕ
faulted_in {Entry} {Lines} desks = sum_by (λ (d : DeskView Entry Lines). disk_faults d.ended) desks

-- an answer of a desk admits this entry at its position
abbrev pub HasAdmitted : {Entry Operation Response Error Lines : Type 0} {semantics : Semantics Entry Operation Response} {own copied : Operation → Option Entry}
    {texts : Texts Operation Response Error} {left : Lines → List texts.Meaning}
    {opening : Snapshot (Filed Entry)} {old new : DeskView Entry Lines} → FilesOwn semantics own copied texts left opening old new
    → ℕ × Filed Entry → Type 0
HasAdmitted {semantics = semantics} {old = old} filed entry = Contains (admitted_of semantics old.number 1 filed.files.answers) entry

-- a desk's row files this entry, and the desk ended at the row in a fault of the disk that named the position
pub record HasLeft {Entry Operation Response Error Lines : Type 0} {semantics : Semantics Entry Operation Response} {own copied : Operation → Option Entry}
    {texts : Texts Operation Response Error} {left : Lines → List texts.Meaning}
    {opening : Snapshot (Filed Entry)} {old new : DeskView Entry Lines} (filed : FilesOwn semantics own copied texts left opening old new)
    (entry : ℕ × Filed Entry) : Type 0 where
  pub operation : Operation
  pub taken : filed.files.taken ≡ Ok operation ∷ []
  pub files : own operation ≡ Some entry.1.entry
  pub by : entry.1.by ≡ record { desk = old.number; row = new.answered + 1 }
  pub ended : new.ended ≡ Stopped (DiskFault (Some entry.0))

-- a desk's row filed this entry, which stands at a position, in one of these two ways
pub data HasNamed {Entry Operation Response Error Lines : Type 0} {semantics : Semantics Entry Operation Response} {own copied : Operation → Option Entry}
    {texts : Texts Operation Response Error} {left : Lines → List texts.Meaning}
    {opening : Snapshot (Filed Entry)} {old new : DeskView Entry Lines} (filed : FilesOwn semantics own copied texts left opening old new)
    (entry : ℕ × Filed Entry) : Type 0 where
  by_answer : HasAdmitted filed entry → HasNamed filed entry
  by_stop : HasLeft filed entry → HasNamed filed entry

-- A row is told of for an entry at a position: it was answered as admitted there; or its desk ended at it with the position in
-- doubt, and, where a copy is kept of the entry, no desk in front of that desk ended so at a row that files the same.
pub data IsToldOf {Entry Operation Response Error Lines : Type 0} {semantics : Semantics Entry Operation Response} {own copied : Operation → Option Entry}
    {texts : Texts Operation Response Error} {left : Lines → List texts.Meaning}
    {opening closed : Snapshot (Filed Entry)} {before after : List (DeskView Entry Lines)}
    (filed : HasFiled semantics own copied texts left opening closed before after) (position : ℕ) (entry : Entry) (by : RowName) : Type 0 where
  accepted : (k : ℕ) (d : DeskView Entry Lines) (lt : k < length before)
      → HasAdmitted (filed.each k d lt) (position, record { entry = entry; by = by }) → IsToldOf filed position entry by
  in_doubt : (k : ℕ) (d : DeskView Entry Lines) (lt : k < length before)
      (stop : HasLeft (filed.each k d lt) (position, record { entry = entry; by = by }))
      → (copied stop.operation ≢ None → (j : ℕ) (e : DeskView Entry Lines) (less : j < length before) (other : RowName) → j < k
      → HasLeft (filed.each j e less) (position, record { entry = entry; by = other }) → ⊥)
      → IsToldOf filed position entry by
