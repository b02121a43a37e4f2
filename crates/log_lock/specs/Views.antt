-- What the seat of a pass has in the lock's table, and how each step changes it.
use Rattle.std.specs.Prelude.{◌≡◌, ℕ, zero, suc, ◌+◌, ◌-◌, ◌≤◌, false, List, [], ◌∷◌, ◌++◌, Option, Some, None, length}
use Rattle.atomic_table.specs.Seated.{TableId}
use Rattle.log_lock.specs.declared.turned.Snapshot.{Snapshot}
use Rattle.log_lock.specs.declared.view.View.{View}
use Rattle.log_lock.specs.Passes.{Known, next_of}

-- its lock has its state
abbrev pub IsOpen : {E : Type 0} → View E → Type 0
IsOpen {E} v = (start : Snapshot E) × (v.opening ≡ Some start)

-- it takes no turn
abbrev pub IsResting : {E : Type 0} → View E → Type 0
IsResting v = (v.number ≡ None) × (v.base ≡ None) × IsOpen v

-- the view of a badge's pass, which takes no turn and has a part of the lock's passes
abbrev pub IsOneResting : {E : Type 0} → List (View E) → Type 0
IsOneResting {E} views = (v : View E) × (views ≡ v ∷ []) × IsResting v × (1 ≤ v.allowance)

abbrev pub no_stand : {E : Type 0} → Snapshot E
no_stand = record { list = []; pending = None; faults = 0; fixed = false }

abbrev pub opening_of : {E : Type 0} → Option (Snapshot E) → Snapshot E
opening_of None = no_stand
opening_of (Some start) = start

-- what a pass with that view knows
abbrev pub known : {E : Type 0} → TableId → View E → Known E
known lock v = record { lock = lock; allowance = v.allowance; opening = opening_of v.opening; room = v.room; seen = v.seen; mine = v.mine; settled = v.settled; left = v.left; faults = v.faults; wants = v.wants; turns = v.turns }

-- the view of the first pass of a lock that has no state yet
abbrev pub newcomer : {E : Type 0} → ℕ → View E
newcomer handles = record { opening = None; room = 0; seen = []; also = []; mine = []; settled = []; left = []; faults = 0; wants = 0; turns = 0; allowance = handles; number = None; base = None; held = 0 }

-- while it brings the state
abbrev pub bringer : {E : Type 0} → ℕ → View E
bringer handles = record { opening = None; room = 0; seen = []; also = []; mine = []; settled = []; left = []; faults = 0; wants = 0; turns = 0; allowance = handles; number = Some 0; base = None; held = 0 }

-- and once it has brought it
abbrev pub begun : {E : Type 0} → ℕ → Snapshot E → ℕ → View E
begun handles start room = record { opening = Some start; room = room; seen = start.list; also = []; mine = []; settled = []; left = []; faults = 0; wants = 0; turns = 0; allowance = handles; number = None; base = None; held = 0 }

-- what a badge's pass knows
abbrev pub known_of : {E : Type 0} → TableId → List (View E) → Known E
known_of lock [] = known lock (newcomer 0)
known_of lock (v ∷ views) = known lock v

-- the newest entry with its position
abbrev pub newest : {E : Type 0} → List E → List (ℕ × E)
newest [] = []
newest (entry ∷ list) = (length list + 1, entry) ∷ []

-- how many entries are newer in the one list
abbrev pub growth : {E : Type 0} → Snapshot E → Snapshot E → ℕ
growth old new = length new.list - length old.list

-- what a turn admitted of its own, by how much the list grew and what was pending before
abbrev pub own_by : {E : Type 0} → ℕ → Option E → List E → List (ℕ × E)
own_by zero was list = []
own_by (suc n) None list = newest list
own_by (suc zero) (Some entry) list = []
own_by (suc (suc n)) (Some entry) list = newest list

-- what it settled
abbrev pub settled_by : {E : Type 0} → ℕ → Option E → List E → List (ℕ × E)
settled_by zero was list = []
settled_by (suc n) was list = next_of was list

-- what it newly left pending
abbrev pub left_by : {E : Type 0} → ℕ → Option E → Option E → List E → List (ℕ × E)
left_by zero None pending list = next_of pending list
left_by zero (Some entry) pending list = []
left_by (suc n) was pending list = next_of pending list

abbrev pub mine_in : {E : Type 0} → Snapshot E → Snapshot E → List (ℕ × E)
mine_in old new = own_by (growth old new) old.pending new.list

abbrev pub settled_in : {E : Type 0} → Snapshot E → Snapshot E → List (ℕ × E)
settled_in old new = settled_by (growth old new) old.pending old.list

abbrev pub left_in : {E : Type 0} → Snapshot E → Snapshot E → List (ℕ × E)
left_in old new = left_by (growth old new) old.pending new.pending new.list

-- the view after a turn, whose reply told of so many faults, and so often of want of memory
abbrev pub after_turn : {E : Type 0} → ℕ → ℕ → Snapshot E → Snapshot E → View E → View E
after_turn faults wants old new v =
    record v {
      seen = new.list;
      mine = v.mine ++ mine_in old new;
      settled = v.settled ++ settled_in old new;
      left = v.left ++ left_in old new;
      faults = v.faults + faults;
      wants = v.wants + wants;
      turns = v.turns + 1;
      number = None;
      base = None;
      held = 0;
    }

-- the view with so much less of the allowance, and that of the new pass that has it
abbrev pub with_less : {E : Type 0} → ℕ → View E → View E
with_less share v = record v { allowance = v.allowance - share }

abbrev pub with_part : {E : Type 0} → ℕ → View E → View E
with_part share v =
    record { opening = v.opening; room = v.room; seen = v.seen; also = v.also; mine = []; settled = []; left = []; faults = 0; wants = 0; turns = 0; allowance = share; number = None; base = None; held = 0 }

-- the view with all that another one has, and what that has seen beside its own
abbrev pub with_other : {E : Type 0} → View E → View E → View E
with_other v w =
    record v {
      also = w.seen;
      mine = v.mine ++ w.mine;
      settled = v.settled ++ w.settled;
      left = v.left ++ w.left;
      faults = v.faults + w.faults;
      wants = v.wants + w.wants;
      turns = v.turns + w.turns;
      allowance = v.allowance + w.allowance;
    }

-- the longer of two lists
abbrev pub longer_by : {E : Type 0} → ℕ → List E → List E → List E
longer_by zero one other = one
longer_by (suc n) one other = other

abbrev pub longer : {E : Type 0} → List E → List E → List E
longer one other = longer_by (length other - length one) one other

-- the view that has seen the longer one of its two lists
abbrev pub with_longer : {E : Type 0} → View E → View E
with_longer v = record v { seen = longer v.seen v.also; also = [] }
