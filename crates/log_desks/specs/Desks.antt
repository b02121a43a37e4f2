-- Desks, and the lock that they file through.
use Rattle.std.specs.Prelude.{◌≡◌, ◌≢◌, ℕ, ◌+◌, List, [], ◌++◌, Option, Some, None, Contains, IsPermutation, length, map, flat_map, sum_by}
use Rattle.std.specs.List.{All}
use Rattle.atomic_table.specs.Seated.{TableId}
use Rattle.log_machine.specs.Scheme.{Semantics}
use Rattle.log_machine.specs.Texts.{Texts}
use Rattle.log_lock.specs.declared.turned.Snapshot.{Snapshot}
use Rattle.log_lock.specs.Turning.{RoseBy}
use Rattle.log_lock.specs.Passes.{Known, IsOlder, numbered}
use Rattle.log_machine.specs.declared.names.Filed.{Filed}
use Rattle.log_desks.specs.declared.stop.DeskEnd.{DeskEnd}
use Rattle.log_desks.specs.declared.stop.DeskEnd.TheVariants.{Open}
use Rattle.log_desks.specs.Answered.{Files}

-- what a contract sees of a desk
pub record DeskView (Entry Lines : Type 0) : Type 0 where
  pub number : ℕ
  -- what stands before each of its lines
  pub prefix : List ℕ
  -- its rows that weren't taken yet
  pub rows : Lines
  -- its lines, and how many they are
  pub text : List ℕ
  pub answered : ℕ
  pub ended : DeskEnd
  -- what the row files at which it stopped, where that is kept
  pub last : Option Entry
  -- its pass of the lock, while it has one
  pub handle : Option (Known (Filed Entry))

-- a pass of this lock that knows nothing but the opening list
pub record IsFresh {E : Type 0} (lock : TableId) (opening : Snapshot (Filed E)) (handle : Known (Filed E)) : Type 0 where
  pub lock_is : handle.lock ≡ lock
  pub opening_is : handle.opening ≡ opening
  pub seen : handle.seen ≡ opening.list
  pub mine : handle.mine ≡ []
  pub settled : handle.settled ≡ []
  pub left : handle.left ≡ []
  pub faults : handle.faults ≡ 0
  pub wants : handle.wants ≡ 0
  pub turns : handle.turns ≡ 0

-- the desk has such a pass with one part of the lock's passes, and hasn't begun
abbrev pub IsReady : {Entry Lines : Type 0} → TableId → Snapshot (Filed Entry) → DeskView Entry Lines → Type 0
IsReady {Entry} lock opening desk = (handle : Known (Filed Entry)) × (desk.handle ≡ Some handle) × IsFresh lock opening handle × (handle.allowance ≡ 1) × (desk.ended ≡ Open)

-- the desk has ended, and still has its pass
pub record HasEnded {Entry Lines : Type 0} (lock : TableId) (opening : Snapshot (Filed Entry)) (desk : DeskView Entry Lines) : Type 0 where
  pub handle : Known (Filed Entry)
  pub has : desk.handle ≡ Some handle
  pub lock_is : handle.lock ≡ lock
  pub share : handle.allowance ≡ 1
  pub opening_is : handle.opening ≡ opening
  pub ended : desk.ended ≢ Open

-- all of a desk but its pass
abbrev pub shown_of : {Entry Lines : Type 0} → DeskView Entry Lines → ℕ × List ℕ × Lines × List ℕ × ℕ × DeskEnd × Option Entry
shown_of desk = (desk.number, desk.prefix, desk.rows, desk.text, desk.answered, desk.ended, desk.last)

-- all of these desks but their passes
abbrev pub all_shown : {Entry Lines : Type 0} → List (DeskView Entry Lines) → List (ℕ × List ℕ × Lines × List ℕ × ℕ × DeskEnd × Option Entry)
all_shown desks = map shown_of desks

-- A desk that has a pass files its rows by it, each in a turn of the lock, from the first to the last or to a stop.
pub record Works {Entry Operation Response Error Lines : Type 0} (semantics : Semantics Entry Operation Response) (own copied : Operation → Option Entry) (texts : Texts Operation Response Error) (left : Lines → List texts.Meaning) (lock : TableId) (old new : DeskView Entry Lines) : Type 0 where
  pub number : new.number ≡ old.number
  pub prefix : new.prefix ≡ old.prefix
  pub ends : (opening : Snapshot (Filed Entry)) → IsReady lock opening old → HasEnded lock opening new
  pub files : (known : Known (Filed Entry)) → new.handle ≡ Some known → Files semantics own copied texts old.number old.prefix (left old.rows) new.text new.answered new.ended new.last known

-- what the turns of a desk's pass admitted, settled and left undecided, how many faults they told of, how often of want of memory, how many
-- they were, and the list that it saw last
abbrev pub mine_in : {E : Type 0} → Option (Known E) → List (ℕ × E)
mine_in None = []
mine_in (Some known) = known.mine

abbrev pub settled_in : {E : Type 0} → Option (Known E) → List (ℕ × E)
settled_in None = []
settled_in (Some known) = known.settled

abbrev pub left_in : {E : Type 0} → Option (Known E) → List (ℕ × E)
left_in None = []
left_in (Some known) = known.left

abbrev pub faults_in : {E : Type 0} → Option (Known E) → ℕ
faults_in None = 0
faults_in (Some known) = known.faults

abbrev pub wants_in : {E : Type 0} → Option (Known E) → ℕ
wants_in None = 0
wants_in (Some known) = known.wants

abbrev pub turns_in : {E : Type 0} → Option (Known E) → ℕ
turns_in None = 0
turns_in (Some known) = known.turns

abbrev pub seen_in : {E : Type 0} → Option (Known E) → List E
seen_in None = []
seen_in (Some known) = known.seen

-- the pass has all that the passes of these desks had
pub record Gathers {Entry Lines : Type 0} (lock : TableId) (opening : Snapshot (Filed Entry)) (handle : Known (Filed Entry)) (desks : List (DeskView Entry Lines)) : Type 0 where
  pub lock_is : handle.lock ≡ lock
  pub opening_is : handle.opening ≡ opening
  pub mine : handle.mine ≡ flat_map (λ (d : DeskView Entry Lines). mine_in d.handle) desks
  pub settled : handle.settled ≡ flat_map (λ (d : DeskView Entry Lines). settled_in d.handle) desks
  pub left : handle.left ≡ flat_map (λ (d : DeskView Entry Lines). left_in d.handle) desks
  pub faults : handle.faults ≡ sum_by (λ (d : DeskView Entry Lines). faults_in d.handle) desks
  pub seen : All (λ (d : DeskView Entry Lines). IsOlder (seen_in d.handle) handle.seen) desks

-- a pass after it was joined with the pass that knew this
pub record IsJoined {E : Type 0} (before after : Known (Filed E)) (known : Option (Known (Filed E))) : Type 0 where
  pub lock_is : after.lock ≡ before.lock
  pub share : after.allowance ≡ before.allowance + 1
  pub opening_is : after.opening ≡ before.opening
  pub room_is : after.room ≡ before.room
  pub mine : after.mine ≡ before.mine ++ mine_in known
  pub settled : after.settled ≡ before.settled ++ settled_in known
  pub left : after.left ≡ before.left ++ left_in known
  pub faults : after.faults ≡ before.faults + faults_in known
  pub wants : after.wants ≡ before.wants + wants_in known
  pub turns : after.turns ≡ before.turns + turns_in known
  pub earlier : IsOlder before.seen after.seen
  pub seen : IsOlder (seen_in known) after.seen

-- What the list is at the end of what these desks filed: the list before, and past it just what the desks' turns admitted
-- of their own and settled, each entry once and at its position.
pub record Ran {Entry Lines : Type 0} (opening closed : Snapshot (Filed Entry)) (desks : List (DeskView Entry Lines)) : Type 0 where
  pub added : List (Filed Entry)
  pub list : closed.list ≡ added ++ opening.list
  pub once : IsPermutation (numbered (length opening.list) added) (flat_map (λ (d : DeskView Entry Lines). mine_in d.handle) desks ++ flat_map (λ (d : DeskView Entry Lines). settled_in d.handle) desks)
  -- what was settled, and what is undecided still, a desk's turn had left so
  pub settled : (entry : ℕ × Filed Entry) → Contains (flat_map (λ (d : DeskView Entry Lines). settled_in d.handle) desks) entry → Contains (flat_map (λ (d : DeskView Entry Lines). left_in d.handle) desks) entry
  pub pending : (entry : Filed Entry) → closed.pending ≡ Some entry → Contains (flat_map (λ (d : DeskView Entry Lines). left_in d.handle) desks) (length closed.list + 1, entry)
  -- the list that a desk saw last is the older part of the closed one
  pub seen : All (λ (d : DeskView Entry Lines). IsOlder (seen_in d.handle) closed.list) desks
  pub faults : RoseBy (sum_by (λ (d : DeskView Entry Lines). faults_in d.handle) desks) opening.faults closed.faults
  -- where no desk was told of a fault there was none
  pub still : sum_by (λ (d : DeskView Entry Lines). faults_in d.handle) desks ≡ 0 → closed.faults ≡ opening.faults
  pub fixed : closed.fixed ≡ opening.fixed
