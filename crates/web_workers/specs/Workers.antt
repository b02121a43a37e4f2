-- The workers behind ports, and the lock that they take turns of.
use Rattle.std.specs.Prelude.{◌≡◌, ◌≢◌, ◌+◌, ◌<◌, ◌≤◌, ℕ, Bool, false, List, ◌++◌, Option, None, Some, Contains, IsPermutation, get_or, length, map, flat_map, sum_by}
use Rattle.std.specs.List.{All}
use Rattle.io_traits.specs.Faults.{Rose}
use Rattle.atomic_table.specs.Seated.{TableId}
use Rattle.log_machine.specs.Scheme.{Semantics}
use Rattle.log_machine.specs.declared.reply.LogReply.{LogReply}
use Rattle.log_lock.specs.declared.turned.Snapshot.{Snapshot}
use Rattle.log_lock.specs.Turning.{RoseBy}
use Rattle.log_lock.specs.Passes.{Known, IsOlder, numbered}
use Rattle.log_desks.specs.Desks.{IsFresh, mine_in, settled_in, left_in, faults_in, wants_in, turns_in, seen_in}
use Rattle.log_machine.specs.declared.names.Filed.{Filed}
use Rattle.web_session.specs.Asks.{Scheme}
use Rattle.web_session.specs.Ports.{AcceptorState}
use Rattle.web_workers.specs.Sessions.{Served}
use Rattle.web_workers.specs.declared.stop.WebEnd.{WebEnd}
use Rattle.web_workers.specs.declared.stop.WebEnd.TheVariants.{Open, Done, AcceptorFault}

-- what a contract sees of a worker behind a port
pub record WorkerView (Entry P : Type 0) : Type 0 where
  pub number : ℕ
  pub port : P
  -- how many connections it served, and whether a session of them ended for want of memory
  pub served : ℕ
  pub starved : Bool
  pub ended : WebEnd
  -- its pass of the lock, while it has one
  pub handle : Option (Known (Filed Entry))

-- a worker behind this port, before it has a number and a pass
abbrev pub worker_of : {Entry P : Type 0} → P → WorkerView Entry P
worker_of port = record { number = 0; port = port; served = 0; starved = false; ended = Open; handle = None }

-- the ports of these workers
abbrev pub ports_of : {Entry P : Type 0} → List (WorkerView Entry P) → List P
ports_of {Entry} {P} workers = map (λ (d : WorkerView Entry P). d.port) workers

-- the worker has a number and a pass that knows nothing but the opening list, with one part of the lock's passes, and hasn't begun
pub record IsReady {Entry P : Type 0} (lock : TableId) (opening : Snapshot (Filed Entry)) (number : ℕ) (before worker : WorkerView Entry P) : Type 0 where
  pub handle : Known (Filed Entry)
  pub fresh : IsFresh lock opening handle
  pub share : handle.allowance ≡ 1
  pub is : worker ≡ record { number = number; port = before.port; served = 0; starved = false; ended = Open; handle = Some handle }

-- each of the first n workers has, numbered from 1
abbrev pub AreReady : {Entry P : Type 0} → TableId → Snapshot (Filed Entry) → ℕ → List (WorkerView Entry P) → List (WorkerView Entry P) → Type 0
AreReady {Entry} {P} lock opening n before workers = (k : ℕ) (d : WorkerView Entry P) → k < n → IsReady lock opening (k + 1) (get_or before k d) (get_or workers k d)

-- the worker has a pass of this lock
abbrev pub HoldsHandle : {Entry P : Type 0} → TableId → WorkerView Entry P → Type 0
HoldsHandle {Entry} lock worker = (handle : Known (Filed Entry)) × (worker.handle ≡ Some handle) × (handle.lock ≡ lock)

-- the worker has ended, and still has its pass
pub record HasEnded {Entry P : Type 0} (lock : TableId) (opening : Snapshot (Filed Entry)) (worker : WorkerView Entry P) : Type 0 where
  pub handle : Known (Filed Entry)
  pub has : worker.handle ≡ Some handle
  pub lock_is : handle.lock ≡ lock
  pub share : handle.allowance ≡ 1
  pub opening_is : handle.opening ≡ opening
  pub ended : worker.ended ≢ Open

-- how far the worker came: it served as many connections as it was to, and its port's count of faults stood still; or the port failed
abbrev pub HasStopped : WebEnd → ℕ → ℕ → ℕ → ℕ → Type 0
HasStopped Open served sessions old new = ⊥
HasStopped Done served sessions old new = (served ≡ sessions) × (new ≡ old)
HasStopped AcceptorFault served sessions old new = served < sessions × Rose old new

-- A worker that has a pass serves the connections of its port by it, one after the other.
pub record Works {Entry Operation Response P : Type 0} (semantics : Semantics Entry Operation Response) (own : Operation → Option Entry) (scheme : Scheme Operation (LogReply Response)) (tells : P → AcceptorState) (faults : P → ℕ) (lock : TableId) (sessions : ℕ) (old new : WorkerView Entry P) : Type 0 where
  pub number : new.number ≡ old.number
  pub after : Known (Filed Entry)
  pub has : new.handle ≡ Some after
  pub lock_is : after.lock ≡ lock
  pub ends : (before : Known (Filed Entry)) → old.handle ≡ Some before
      → (after.allowance ≡ before.allowance) × (after.opening ≡ before.opening) × Served semantics own scheme old.number before after (tells old.port) (tells new.port) new.served new.starved
  pub stopped : HasStopped new.ended new.served sessions (faults old.port) (faults new.port)
  pub later : faults old.port ≤ faults new.port

-- all of a worker but its pass
abbrev pub shown_of : {Entry P : Type 0} → WorkerView Entry P → ℕ × P × ℕ × Bool × WebEnd
shown_of worker = (worker.number, worker.port, worker.served, worker.starved, worker.ended)

-- all of these workers but their passes
abbrev pub all_shown : {Entry P : Type 0} → List (WorkerView Entry P) → List (ℕ × P × ℕ × Bool × WebEnd)
all_shown workers = map shown_of workers

-- the pass has all that the passes of these workers had
pub record Gathers {Entry P : Type 0} (lock : TableId) (opening : Snapshot (Filed Entry)) (handle : Known (Filed Entry)) (workers : List (WorkerView Entry P)) : Type 0 where
  pub lock_is : handle.lock ≡ lock
  pub opening_is : handle.opening ≡ opening
  pub mine : handle.mine ≡ flat_map (λ (d : WorkerView Entry P). mine_in d.handle) workers
  pub settled : handle.settled ≡ flat_map (λ (d : WorkerView Entry P). settled_in d.handle) workers
  pub left : handle.left ≡ flat_map (λ (d : WorkerView Entry P). left_in d.handle) workers
  pub faults : handle.faults ≡ sum_by (λ (d : WorkerView Entry P). faults_in d.handle) workers
  pub wants : handle.wants ≡ sum_by (λ (d : WorkerView Entry P). wants_in d.handle) workers
  pub turns : handle.turns ≡ sum_by (λ (d : WorkerView Entry P). turns_in d.handle) workers
  pub seen : All (λ (d : WorkerView Entry P). IsOlder (seen_in d.handle) handle.seen) workers

-- What the list is at the end of what these workers' turns did: the list before, and past it just what the turns admitted of
-- their own and settled, each entry once and at its position.
pub record Ran {Entry P : Type 0} (opening closed : Snapshot (Filed Entry)) (workers : List (WorkerView Entry P)) : Type 0 where
  pub added : List (Filed Entry)
  pub list : closed.list ≡ added ++ opening.list
  pub once : IsPermutation (numbered (length opening.list) added) (flat_map (λ (d : WorkerView Entry P). mine_in d.handle) workers ++ flat_map (λ (d : WorkerView Entry P). settled_in d.handle) workers)
  -- what was settled, and what is undecided still, a worker's turn had left so
  pub settled : (entry : ℕ × Filed Entry) → Contains (flat_map (λ (d : WorkerView Entry P). settled_in d.handle) workers) entry → Contains (flat_map (λ (d : WorkerView Entry P). left_in d.handle) workers) entry
  pub pending : (entry : Filed Entry) → closed.pending ≡ Some entry → Contains (flat_map (λ (d : WorkerView Entry P). left_in d.handle) workers) (length closed.list + 1, entry)
  -- the list that a worker saw last is the older part of the closed one
  pub seen : All (λ (d : WorkerView Entry P). IsOlder (seen_in d.handle) closed.list) workers
  pub faults : RoseBy (sum_by (λ (d : WorkerView Entry P). faults_in d.handle) workers) opening.faults closed.faults
  -- where no worker was told of a fault there was none
  pub still : sum_by (λ (d : WorkerView Entry P). faults_in d.handle) workers ≡ 0 → closed.faults ≡ opening.faults
  pub fixed : closed.fixed ≡ opening.fixed

-- The list had room for so many turns: where any of the workers' turns told of want of memory, at least so many did not.
abbrev pub HaveFoundRoom : {Entry P : Type 0} → ℕ → List (WorkerView Entry P) → Type 0
HaveFoundRoom {Entry} {P} room workers =
    0 < sum_by (λ (d : WorkerView Entry P). wants_in d.handle) workers
    → room + sum_by (λ (d : WorkerView Entry P). wants_in d.handle) workers ≤ sum_by (λ (d : WorkerView Entry P). turns_in d.handle) workers

-- What a worker did, with a pass that knew nothing but the opening list.
pub record ServesOwn {Entry Operation Response P : Type 0} (semantics : Semantics Entry Operation Response) (own : Operation → Option Entry) (scheme : Scheme Operation (LogReply Response)) (tells : P → AcceptorState) (faults : P → ℕ) (opening : Snapshot (Filed Entry)) (number limit : ℕ) (old new : WorkerView Entry P) : Type 0 where
  pub numbered : new.number ≡ number
  pub first : Known (Filed Entry)
  pub last : Known (Filed Entry)
  pub fresh : IsFresh first.lock opening first
  pub has : new.handle ≡ Some last
  pub served : Served semantics own scheme number first last (tells old.port) (tells new.port) new.served new.starved
  pub stopped : HasStopped new.ended new.served limit (faults old.port) (faults new.port)
  pub later : faults old.port ≤ faults new.port

-- What the workers did, on a list with room for one turn of each. `workers` are they as they were before they gave their passes back.
pub record HasServed {Entry Operation Response P : Type 0} (semantics : Semantics Entry Operation Response) (own : Operation → Option Entry) (scheme : Scheme Operation (LogReply Response)) (tells : P → AcceptorState) (faults : P → ℕ) (limit : ℕ) (opening closed : Snapshot (Filed Entry)) (before after : List (WorkerView Entry P)) : Type 0 where
  pub workers : List (WorkerView Entry P)
  pub count : length workers ≡ length before
  pub each : (k : ℕ) (d : WorkerView Entry P) → k < length before → ServesOwn semantics own scheme tells faults opening (k + 1) limit (get_or before k d) (get_or workers k d)
  pub ran : Ran opening closed workers
  pub found_room : HaveFoundRoom (length before) workers
  pub shown : all_shown after ≡ all_shown workers
