-- What the connections of all workers were told, of the list at the end.
use Rattle.std.specs.Prelude.{◌≡◌, ◌+◌, ◌<◌, ◌≤◌, ℕ, List, [], ◌∷◌, Option, Some, length, get_or, Contains, IsTrue, zero, suc}
use Rattle.std.proofs.Common.{arith, zero-lt-suc}
use Rattle.log_machine.specs.Scheme.{Semantics}
use Rattle.log_machine.specs.declared.reply.LogReply.{LogReply}
use Rattle.log_machine.specs.declared.reply.LogReply.TheVariants as reply
use Rattle.log_lock.specs.declared.turned.Snapshot.{Snapshot}
use Rattle.log_lock.specs.Passes.{StandsAt, numbered}
use Rattle.log_lock.specs.Turning.{RoseBy}
use Rattle.log_machine.specs.Names.{entries_of}
use Rattle.log_machine.specs.declared.names.Filed.{Filed}
use Rattle.log_machine.specs.declared.names.RowName.{RowName}
use Rattle.web_session.specs.Asks.{Scheme, Request}
use Rattle.web_session.specs.Responses.{Answer}
use Rattle.web_session.specs.declared.status.Status.TheVariants.{Created}
use Rattle.web_workers.specs.Closed.{AreToldOf, HaveTold, IsBroughtBy, times_asked, times_no_storage, times_unavailable}
use Rattle.web_session.specs.Ports.{AcceptorState}
use Rattle.web_workers.specs.Sessions.{Session}
use Rattle.web_workers.specs.Told.{ask_in}
use Rattle.web_workers.specs.Workers.{HasServed, WorkerView}

pub below_suc : (k n : ℕ) → k < n → suc k < suc n
below_suc k n below = omega arith

-- the sum of these numbers, one for each number below n
abbrev pub sum_below : (n : ℕ) → ((k : ℕ) → k < n → ℕ) → ℕ
sum_below zero count = 0
sum_below (suc n) count = count 0 (zero-lt-suc n) + sum_below n (λ k below. count (suc k) (below_suc k n below))

module _ {Entry Operation Response : Type 0} (semantics : Semantics Entry Operation Response) (own : Operation → Option Entry) (scheme : Scheme Operation (LogReply Response)) (list : List (Filed Entry)) where
  -- the answer gives a front, and the request's own entry stands in the list behind so many others, under the connection's name
  pub record IsCreated (by : RowName) (request : Request) (answer : Answer) : Type 0 where
    pub operation : Operation
    pub operations : ask_in semantics own scheme by request ≡ Some operation
    pub response : Response
    pub front : ℕ
    pub text : answer.text ≡ scheme.text (reply.Answered response front)
    pub entry : Entry
    pub own_is : own operation ≡ Some entry
    pub stands : StandsAt list (front + 1, record { entry = entry; by = by })

  -- so of each of these answers that is a 201
  abbrev pub EachCreated : RowName → List Request → List Answer → Type 0
  EachCreated by [] answers = Unit {0}
  EachCreated by (request ∷ requests) [] = Unit {0}
  EachCreated by (request ∷ requests) (answer ∷ answers) = (answer.status ≡ Created → IsCreated by request answer) × EachCreated by requests answers

  -- so of each of these connections of a port, numbered from `number` on
  abbrev pub AreCreated : (port : ℕ) (seen : List Entry) (mine : List (ℕ × Filed Entry)) (number : ℕ) (sessions : List (Session Entry)) → AreToldOf semantics own scheme port seen mine number sessions → Type 0
  AreCreated port seen mine number [] told = Unit {0}
  AreCreated port seen mine number (s ∷ sessions) told = EachCreated (record { desk = port; row = number }) told.0.done told.0.answers × AreCreated port seen mine (number + 1) sessions told.1

-- all ports are honest
abbrev pub AllHonest : {Entry P : Type 0} → (P → AcceptorState) → List (WorkerView Entry P) → Type 0
AllHonest {Entry} {P} tells workers = (k : ℕ) (d : WorkerView Entry P) → k < length workers → IsTrue (tells (get_or workers k d).port).honest

module _ {Entry Operation Response P : Type 0} (semantics : Semantics Entry Operation Response) (own : Operation → Option Entry) (scheme : Scheme Operation (LogReply Response)) (tells : P → AcceptorState) (faults : P → ℕ) (limit : ℕ) (opening closed : Snapshot (Filed Entry)) (before after : List (WorkerView Entry P)) (served : HasServed semantics own scheme tells faults limit opening closed before after) where
  -- each answer on an honest port is of the list at the end
  abbrev pub EachIsTold : Type 0
  EachIsTold = (k : ℕ) (d : WorkerView Entry P) (inside : k < length before) → IsTrue (tells (get_or before k d).port).honest
      → HaveTold semantics own scheme (k + 1) (entries_of closed.list) 1 (served.each k d inside).served.sessions (served.each k d inside).first (served.each k d inside).last

  module _ (told : EachIsTold) where
    -- each entry past the opening list is the own one of a request that one of the connections brought, where all ports are honest
    abbrev pub EachIsBrought : Type 0
    EachIsBrought = (honest : AllHonest tells before) (entry : ℕ × Filed Entry) → Contains (numbered (length opening.list) served.ran.added) entry
        → (k : ℕ) × (d : WorkerView Entry P) × (inside : k < length before)
        × IsBroughtBy semantics own scheme (k + 1) (entries_of closed.list) (served.each k d inside).last.mine 1 (served.each k d inside).served.sessions (told k d inside (honest k d inside)).told entry.1

    -- how many answers were 503 on all ports
    abbrev pub all_unavailable : AllHonest tells before → WorkerView Entry P → ℕ
    all_unavailable honest d =
        sum_below (length before) (λ k inside. times_unavailable semantics own scheme (k + 1) (entries_of closed.list) (served.each k d inside).last.mine 1 (served.each k d inside).served.sessions (told k d inside (honest k d inside)).told)

    -- the disk's count of faults rose by all of them, where all ports are honest, and stood still where there was none
    abbrev pub AreCounted : Type 0
    AreCounted = (honest : AllHonest tells before) (d : WorkerView Entry P)
        → RoseBy (all_unavailable honest d) opening.faults closed.faults × (all_unavailable honest d ≡ 0 → closed.faults ≡ opening.faults)

    -- how many were 507, and how many requests were asks
    abbrev pub all_no_storage : AllHonest tells before → WorkerView Entry P → ℕ
    all_no_storage honest d =
        sum_below (length before) (λ k inside. times_no_storage semantics own scheme (k + 1) (entries_of closed.list) (served.each k d inside).last.mine 1 (served.each k d inside).served.sessions (told k d inside (honest k d inside)).told)

    abbrev pub all_asked : AllHonest tells before → WorkerView Entry P → ℕ
    all_asked honest d =
        sum_below (length before) (λ k inside. times_asked semantics own scheme (k + 1) (entries_of closed.list) (served.each k d inside).last.mine 1 (served.each k d inside).served.sessions (told k d inside (honest k d inside)).told)

    -- where any ask was answered 507, at least as many asks as there are ports were not, where all ports are honest
    abbrev pub HaveRoom : Type 0
    HaveRoom = (honest : AllHonest tells before) (d : WorkerView Entry P) → 0 < all_no_storage honest d → length before + all_no_storage honest d ≤ all_asked honest d

    -- where an honest port answered 201, the request's own entry stands in the list at the end
    abbrev pub CreatedStand : Type 0
    CreatedStand = (k : ℕ) (d : WorkerView Entry P) (inside : k < length before) (honest : IsTrue (tells (get_or before k d).port).honest)
        → AreCreated semantics own scheme closed.list (k + 1) (entries_of closed.list) (served.each k d inside).last.mine 1 (served.each k d inside).served.sessions (told k d inside honest).told
