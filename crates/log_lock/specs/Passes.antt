-- What passes know: what they have seen of the list, and what their own turns did with it.
use Rattle.std.specs.Prelude.{◌≡◌, ◌+◌, ◌<◌, ◌≤◌, ℕ, List, [], ◌∷◌, ◌++◌, Option, Some, None, Contains, IsPermutation, length}
use Rattle.atomic_table.specs.Seated.{TableId}
use Rattle.log_lock.specs.declared.turned.Snapshot.{Snapshot}
use Rattle.log_lock.specs.Turning.{Says, Goes, stays, stays_pending, settles, fails, admits, leaves, faults_in, RoseBy}

-- which lock it is, and for how many passes
pub record Lock : Type 0 where
  pub id : TableId
  pub handles : ℕ

-- what a pass of a lock knows
pub record Known (E : Type 0) : Type 0 where
  pub lock : TableId
  -- its part of the lock's passes
  pub allowance : ℕ
  -- the state that the lock was made with
  pub opening : Snapshot E
  -- for how many turns that state had room
  pub room : ℕ
  -- the list that it has seen
  pub seen : List E
  -- what its turns admitted of their own asks, what they settled of earlier ones, and what they newly left pending of their own, each with its position
  pub mine : List (ℕ × E)
  pub settled : List (ℕ × E)
  pub left : List (ℕ × E)
  -- how many replies told it of a fault
  pub faults : ℕ
  -- how many told it of want of memory, and how many turns it took
  pub wants : ℕ
  pub turns : ℕ

-- the one list is the other's older part
abbrev pub IsOlder : {E : Type 0} → List E → List E → Type 0
IsOlder {E} older newer = (added : List E) × (newer ≡ added ++ older)

-- the entry stands in the list, at its position
pub record StandsAt {E : Type 0} (list : List E) (entry : ℕ × E) : Type 0 where
  pub newer : List E
  pub older : List E
  pub whole : list ≡ newer ++ entry.1 ∷ older
  pub position : entry.0 ≡ length older + 1

-- entries that were added to so many, each with its position
abbrev pub numbered : {E : Type 0} → ℕ → List E → List (ℕ × E)
numbered count [] = []
numbered count (entry ∷ added) = (count + length added + 1, entry) ∷ numbered count added

-- a pending entry with the position that it takes once it is settled
abbrev pub next_of : {E : Type 0} → Option E → List E → List (ℕ × E)
next_of None list = []
next_of (Some entry) list = (length list + 1, entry) ∷ []

-- what a pass has after a turn beside what it had before
abbrev pub with_turn : {E : Type 0} {own : Option E} {old new : Snapshot E} {says : Says} → Goes own old says new → Known E → Known E
with_turn (stays list pending says) handle = handle
with_turn (stays_pending entry was list pending says) handle = handle
with_turn {old} (settles list pending says) handle = record handle { settled = handle.settled ++ next_of old.pending old.list }
with_turn {old} (fails list pending says) handle = record handle { settled = handle.settled ++ next_of old.pending old.list }
with_turn {old} {new} (admits entry own list pending says) handle = record handle { mine = handle.mine ++ (length new.list, entry) ∷ []; settled = handle.settled ++ next_of old.pending old.list }
with_turn {old} {new} (leaves entry own list pending says) handle = record handle { settled = handle.settled ++ next_of old.pending old.list; left = handle.left ++ (length new.list + 1, entry) ∷ [] }

-- One turn, as its pass learns of it: the state's turn on a list whose older part is what the pass had seen. The list after it is what the pass then has seen.
-- How often its replies told of want of memory is said beside it.
pub record TakesSubmit {E : Type 0} (own : Option E) (says : Says) (Meets : Snapshot E → Snapshot E → Type 0) (before after : Known E) : Type 0 where
  pub old : Snapshot E
  pub new : Snapshot E
  pub earlier : IsOlder before.seen old.list
  pub meets : Meets old new
  pub goes : Goes own old says new
  pub whole : after ≡ record (with_turn goes before) { seen = new.list; faults = before.faults + faults_in says; wants = after.wants; turns = before.turns + 1 }

-- What a state has at the end, by the one pass that is left: the opening list, and after it just what was admitted and settled, each entry once and at its position.
pub record Closes {E : Type 0} (handle : Known E) (new : Snapshot E) : Type 0 where
  pub added : List E
  pub list : new.list ≡ added ++ handle.opening.list
  pub once : IsPermutation (numbered (length handle.opening.list) added) (handle.mine ++ handle.settled)
  pub seen : IsOlder handle.seen new.list
  -- what was settled, and what is pending still, a turn of the pass had left so
  pub settled : (entry : ℕ × E) → Contains handle.settled entry → Contains handle.left entry
  pub pending : (entry : E) → new.pending ≡ Some entry → Contains handle.left (length new.list + 1, entry)
  pub faults : RoseBy handle.faults handle.opening.faults new.faults
  -- where no turn was told of a fault there was none
  pub still : handle.faults ≡ 0 → new.faults ≡ handle.opening.faults
  pub fixed : new.fixed ≡ handle.opening.fixed
  -- where a reply told of want of memory, as many others didn't as the opening state had room for
  pub memory : 0 < handle.wants → handle.room + handle.wants ≤ handle.turns
