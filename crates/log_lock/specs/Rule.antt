-- The rule of the lock's table: word 0 is the next ticket, word 1 the number that is served, and slot 0 has the state.
-- Tickets are counted without end, and the words have them modulo 2 ^ 64.
use Rattle.std.specs.Prelude.{◌≡◌, ◌≢◌, ℕ, ◌+◌, ◌%◌, ◌^◌, ◌<◌, ◌≤◌, ◌⊎◌, List, [], ◌∷◌, ◌++◌, Option, Some, None, Contains, IsPermutation, length, is_some, if◌then◌else◌}
use Rattle.std.specs.List.{sum_by, flat_map}
use mathlib.Core.Option.{some, none}
use lib.ListN.{get_elem?}
use Rattle.atomic_table.specs.Table.{State, Me, Step}
use Rattle.log_lock.specs.declared.turned.Snapshot.{Snapshot}
use Rattle.log_lock.specs.declared.view.View.{View}
use Rattle.log_lock.specs.Turning.{Says, Goes, RoseBy, TakesRoom, faults_in}
use Rattle.log_lock.specs.Passes.{IsOlder, numbered}
use Rattle.log_lock.specs.Views.{IsOpen, IsResting, newcomer, bringer, begun, with_longer, longer, after_turn, mine_in, settled_in, left_in}

-- the seat rests, and holds no slot
abbrev pub IsIdle : {T E : Type 0} → Me T (View E) → Type 0
IsIdle me = IsResting me.0 × (me.1 ≡ [])

-- the seat holds a number, whose low bits were found, and waits
abbrev pub IsWaiting : {T E : Type 0} → ℕ → Me T (View E) → Type 0
IsWaiting found me = (k : ℕ) × (me.0.number ≡ Some k) × (found ≡ k % 2 ^ 64) × (me.0.base ≡ None) × (me.1 ≡ []) × IsOpen me.0

-- 1 where the seat holds a number
abbrev pub holds_number : {E : Type 0} → View E → ℕ
holds_number v = if is_some v.number then 1 else 0

-- what stands in the list by the seat's turns
abbrev pub entries : {E : Type 0} → View E → List (ℕ × E)
entries v = v.mine ++ v.settled

-- the seat took no turn: nothing was admitted, settled or left, and no fault or want of memory told
pub record HasNothing {E : Type 0} (v : View E) : Type 0 where
  pub mine : v.mine ≡ []
  pub settled : v.settled ≡ []
  pub left : v.left ≡ []
  pub faults : v.faults ≡ 0
  pub wants : v.wants ≡ 0
  pub turns : v.turns ≡ 0

-- what one seat knows is so
pub record Knows {E : Type 0} (start now : Snapshot E) (v : View E) : Type 0 where
  pub opening : (v.opening ≡ Some start) ⊎ ((v.opening ≡ None) × (v.allowance ≡ 0))
  pub seen : IsOlder v.seen now.list
  pub also : IsOlder v.also now.list
  pub nothing : v.allowance ≡ 0 → HasNothing v

-- and its number is not served yet or just now. `before` and `room` is the room of the opening state and of the state now.
pub record Holds {E : Type 0} (serving waiting before room : ℕ) (start now : Snapshot E) (v : View E) : Type 0 where
  pub knows : Knows start now v
  pub room_is : v.opening ≡ Some start → v.room ≡ before
  pub number : (k : ℕ) → v.number ≡ Some k → (serving ≤ k) × (k < serving + waiting) × (1 ≤ v.allowance)
  pub served : (base : Snapshot E) → v.base ≡ Some base → (v.number ≡ Some serving) × (base ≡ now) × (v.held ≡ room)

-- some seat's turn left that entry, at that position
abbrev pub LeftBy : {E : Type 0} → List (View E) → ℕ × E → Type 0
LeftBy {E} views entry = (id : ℕ) × (v : View E) × (get_elem? views id ≡ some v) × Contains v.left entry

-- Past the opening list stands just what the seats' turns admitted and settled. What was settled, and what is pending, some seat's turn had left. The faults rose by those that the seats were told of, and where none was told of any they stood still.
pub record Accounts {E : Type 0} (start now : Snapshot E) (views : List (View E)) : Type 0 where
  pub added : List E
  pub list : now.list ≡ added ++ start.list
  pub once : IsPermutation (numbered (length start.list) added) (flat_map (λ v. entries v) views)
  pub settled : (id : ℕ) (v : View E) (entry : ℕ × E) → get_elem? views id ≡ some v → Contains v.settled entry → LeftBy views entry
  pub pending : (entry : E) → now.pending ≡ Some entry → LeftBy views (length now.list + 1, entry)
  pub faults : RoseBy (sum_by (λ v. v.faults) views) start.faults now.faults
  pub still : sum_by (λ v. v.faults) views ≡ 0 → now.faults ≡ start.faults
  pub fixed : now.fixed ≡ start.fixed

-- The seats' turns took no more than the room that there was, one place each, but those that told of want of memory: these found none.
pub record Rooms {E : Type 0} (before room : ℕ) (views : List (View E)) : Type 0 where
  pub taken : before + sum_by (λ v. v.wants) views ≤ room + sum_by (λ v. v.turns) views
  pub wanted : 0 < sum_by (λ v. v.wants) views → before + sum_by (λ v. v.wants) views ≤ sum_by (λ v. v.turns) views

-- what a state's turn says
abbrev pub HasGone : {E : Type 0} → Option E → Says → Snapshot E → Snapshot E → Type 0
HasGone own says old new = Goes own old says new × RoseBy (faults_in says) old.faults new.faults × (faults_in says ≡ 0 → new.faults ≡ old.faults) × (new.fixed ≡ old.fixed)

-- what the rule needs of a turn, which adds these entries
pub record Moves {E : Type 0} (old new : Snapshot E) (mine settled left : List (ℕ × E)) (faults : ℕ) : Type 0 where
  pub added : List E
  pub list : new.list ≡ added ++ old.list
  pub once : IsPermutation (numbered (length old.list) added) (mine ++ settled)
  pub earlier : (entry : ℕ × E) → Contains settled entry → (old.pending ≡ Some entry.1) × (entry.0 ≡ length old.list + 1)
  pub pending : (entry : E) → new.pending ≡ Some entry → Contains left (length new.list + 1, entry) ⊎ ((old.pending ≡ Some entry) × (new.list ≡ old.list))
  pub rose : RoseBy faults old.faults new.faults
  pub still : faults ≡ 0 → new.faults ≡ old.faults
  pub fixed : new.fixed ≡ old.fixed

abbrev pub MovesBy : {E : Type 0} → ℕ → Snapshot E → Snapshot E → Type 0
MovesBy faults old new = Moves old new (mine_in old new) (settled_in old new) (left_in old new) faults

-- the first seat takes the empty slot
abbrev pub takes_empty : {T E : Type 0} → Step (Option T) → Me (Option T) (View E) → ℕ → Me (Option T) (View E) → Type 0
takes_empty step me found me' = me' ≡ (bringer me.0.allowance, (0, None) ∷ [])

-- a seat has drawn the number that was found
abbrev pub draws : {T E : Type 0} → Step (Option T) → Me (Option T) (View E) → ℕ → Me (Option T) (View E) → Type 0
draws step me found me' = (k : ℕ) × (found ≡ k % 2 ^ 64) × (me' ≡ (record me.0 { number = Some k }, me.1))

-- of the two lists that the seat has seen each is the longer one's older part
abbrev pub learns : {T E : Type 0} → Step (Option T) → Me (Option T) (View E) → ℕ → Me (Option T) (View E) → Type 0
learns step me found me' =
    (me' ≡ (with_longer me.0, me.1)) × IsOlder me.0.seen (longer me.0.seen me.0.also) × IsOlder me.0.also (longer me.0.seen me.0.also)

module _ {T E : Type 0} (stand_of : T → Snapshot E) (reached : Snapshot E → T → Type 0) (room_of : T → ℕ) where
  -- the slot is at home with the state, which was reached from the opening one, and no seat is served
  abbrev pub AtHome : Snapshot E → Snapshot E → ℕ → State (Option T) (View E) → Type 0
  AtHome start now room s =
      (x : T) × (get_elem? s.homes 0 ≡ some (some (Some x))) × (stand_of x ≡ now) × reached start x × (room_of x ≡ room)
      × ((id : ℕ) (v : View E) → get_elem? s.views id ≡ some v → v.base ≡ None)

  -- or it is away, with the one seat that is served
  abbrev pub Away : Snapshot E → State (Option T) (View E) → Type 0
  Away now s =
      (id : ℕ) × (v : View E) × (get_elem? s.homes 0 ≡ some none)
      × (get_elem? s.views id ≡ some v) × (v.base ≡ Some now)

  -- the state is not there yet
  pub record Fresh (handles : ℕ) (s : State (Option T) (View E)) : Type 0 where
    pub one : 1 ≤ handles
    pub few : handles ≤ 64
    pub words : s.words ≡ 0 ∷ 0 ∷ []
    pub slot : ((s.views ≡ newcomer handles ∷ []) × (get_elem? s.homes 0 ≡ some (some None))) ⊎ (s.views ≡ bringer handles ∷ [])

  -- it is there, and each seat's number and allowance is its own
  pub record Running (handles : ℕ) (s : State (Option T) (View E)) : Type 0 where
    pub serving : ℕ
    pub waiting : ℕ
    pub start : Snapshot E
    pub now : Snapshot E
    pub before : ℕ
    pub room : ℕ
    pub words : s.words ≡ ((serving + waiting) % 2 ^ 64) ∷ (serving % 2 ^ 64) ∷ []
    pub few : handles ≤ 64
    pub each : (id : ℕ) (v : View E) → get_elem? s.views id ≡ some v → Holds serving waiting before room start now v
    pub apart : (i j : ℕ) (v w : View E) (k : ℕ) → get_elem? s.views i ≡ some v → get_elem? s.views j ≡ some w
        → v.number ≡ Some k → w.number ≡ Some k → i ≡ j
    pub held : waiting ≡ sum_by (λ v. holds_number v) s.views
    pub shares : sum_by (λ v. v.allowance) s.views ≡ handles
    pub accounts : Accounts start now s.views
    pub rooms : Rooms before room s.views
    pub slot : AtHome start now room s ⊎ Away now s

  abbrev pub LockRule : ℕ → State (Option T) (View E) → Type 0
  LockRule handles s = Fresh handles s ⊎ Running handles s

  -- the first seat gives the slot back with the state
  abbrev pub brings : Step (Option T) → Me (Option T) (View E) → ℕ → Me (Option T) (View E) → Type 0
  brings step me found me' = (x : T) → me.1 ≡ (0, Some x) ∷ [] → me' ≡ (begun me.0.allowance (stand_of x) (room_of x), [])

  -- the state was reached from the one that the seat's lock was made with
  abbrev pub HasReached : View E → T → Type 0
  HasReached v x = (start : Snapshot E) → v.opening ≡ Some start → reached start x

  -- the seat is served: the state is in it, and what the seat had seen is the older part of its list
  abbrev pub IsServedAfter : Me (Option T) (View E) → Me (Option T) (View E) → Type 0
  IsServedAfter me me' = (x : T) × IsOlder me.0.seen (stand_of x).list × HasReached me.0 x × (me' ≡ (record me.0 { base = Some (stand_of x); held = room_of x }, (0, Some x) ∷ []))

  -- where the number found is this seat's, it is served, and else nothing changes
  abbrev pub looks : Step (Option T) → Me (Option T) (View E) → ℕ → Me (Option T) (View E) → Type 0
  looks step me found me' = (k : ℕ) → me.0.number ≡ Some k → (found ≡ k % 2 ^ 64 → IsServedAfter me me') × (found ≢ k % 2 ^ 64 → me' ≡ me)

  -- the turn has ended, whose reply told of so many faults and so often of want of memory, and the list of the state then is seen
  abbrev pub HasEnded : ℕ → ℕ → Me (Option T) (View E) → Me (Option T) (View E) → Type 0
  HasEnded faults wants me me' = (x : T) (base : Snapshot E) → me.1 ≡ (0, Some x) ∷ [] → me.0.base ≡ Some base → me' ≡ (after_turn faults wants base (stand_of x) me.0, [])

  abbrev pub ends : ℕ → ℕ → Step (Option T) → Me (Option T) (View E) → ℕ → Me (Option T) (View E) → Type 0
  ends faults wants step me found me' = HasEnded faults wants me me'

  -- a served seat, with the state in it after a turn from the base
  abbrev pub IsDone : ℕ → ℕ → T → Snapshot E → Me (Option T) (View E) → Type 0
  IsDone faults wants x base me =
      (k : ℕ) × (me.0.number ≡ Some k) × (me.0.base ≡ Some base) × IsOpen me.0 × (me.1 ≡ (0, Some x) ∷ []) × HasReached me.0 x × MovesBy faults base (stand_of x) × TakesRoom wants me.0.held (room_of x)
