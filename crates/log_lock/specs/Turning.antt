-- What one turn of a state does with its list. A list is read newest first.
use Rattle.std.specs.Prelude.{◌≡◌, ◌⊎◌, ◌+◌, ◌-◌, ◌≤◌, ◌<◌, ◌^◌, ℕ, Bool, true, false, List, ◌∷◌, Option, Some, None, length}
use Rattle.log_lock.specs.declared.turned.Snapshot.{Snapshot}

-- what a reply says of entries
pub data Says : Type 0 where
  -- the ask's entry is admitted, at this position
  Admitted : ℕ → Says
  -- a fault, after which an entry is pending; it would stand at this position
  Undecided : ℕ → Says
  -- a fault, after which nothing is pending
  Failed : Says
  -- none of these
  Nothing : Says

-- how many faults a reply tells of
abbrev pub faults_in : Says → ℕ
faults_in (Admitted position) = 0
faults_in (Undecided position) = 1
faults_in Failed = 1
faults_in Nothing = 0

-- a count of faults rose by so many at least, or has come to the end of its type
abbrev pub RoseBy : ℕ → ℕ → ℕ → Type 0
RoseBy n old new = (old + n ≤ new) ⊎ (2 ^ 64 - 1 ≤ new)

-- how many replies tell of want of memory, by whether this one does
abbrev pub wants_in : Bool → ℕ
wants_in true = 1
wants_in false = 0

-- A turn finds no room where its reply tells of want of memory, and takes nothing of it then. Any other turn takes one place at most.
abbrev pub TakesRoom : ℕ → ℕ → ℕ → Type 0
TakesRoom wants old new = (wants ≤ 1) × (old + wants ≤ new + 1) × (0 < wants → old ≡ 0)

-- the list with an entry more, where there is one
abbrev pub with_entry : {E : Type 0} → Option E → List E → List E
with_entry None list = list
with_entry (Some entry) list = entry ∷ list

-- the list once what is pending is settled, which admits it
abbrev pub settled_list : {E : Type 0} → Snapshot E → List E
settled_list snapshot = with_entry snapshot.pending snapshot.list

-- How a turn goes that may admit its ask's own entry, by what its reply says.
pub data Goes {E : Type 0} (own : Option E) (old : Snapshot E) (says : Says) (new : Snapshot E) : Type 0 where
  -- nothing changes
  stays : new.list ≡ old.list → new.pending ≡ old.pending → says ≡ Nothing → Goes own old says new
  -- what was pending still is
  stays_pending : (entry : E) → old.pending ≡ Some entry → new.list ≡ old.list → new.pending ≡ Some entry → says ≡ Undecided (length new.list + 1) → Goes own old says new
  -- what was pending is settled, and the ask adds nothing
  settles : new.list ≡ settled_list old → new.pending ≡ None → says ≡ Nothing → Goes own old says new
  -- what was pending is settled, and the ask's own entry isn't kept
  fails : new.list ≡ settled_list old → new.pending ≡ None → says ≡ Failed → Goes own old says new
  -- what was pending is settled, and then the ask's own entry is admitted
  admits : (entry : E) → own ≡ Some entry → new.list ≡ entry ∷ settled_list old → new.pending ≡ None → says ≡ Admitted (length new.list) → Goes own old says new
  -- what was pending is settled, and the ask's own entry is newly pending
  leaves : (entry : E) → own ≡ Some entry → new.list ≡ settled_list old → new.pending ≡ Some entry → says ≡ Undecided (length new.list + 1) → Goes own old says new
