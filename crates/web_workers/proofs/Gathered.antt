-- Passes are gathered again, one after the other.
use Rattle.std.proofs.Common.{◌≡◌, ℕ, ◌+◌, ◌<◌, List, [], ◌∷◌, ◌++◌, length, get_or, take, sym, ap, ap₂, ◌∙◌, subst, arith}
use Rattle.std.specs.Prelude.{Contains, IsPermutation}
use Rattle.std.specs.List.{flat_map, sum_by}
use Rattle.std.proofs.lemmas.List.{append-nil, take_more}
use Rattle.std.proofs.lemmas.Grind.{flat_map-append}
use Rattle.std.proofs.lemmas.List.Sums.{sum_by-append}
use Rattle.std.proofs.lemmas.List.Elements.{All-nil, All-cons, All-append, All-weaker}
use Rattle.atomic_table.specs.Seated.{TableId}
use Rattle.log_lock.specs.declared.turned.Snapshot.{Snapshot}
use Rattle.log_lock.specs.Turning.{RoseBy}
use Rattle.log_lock.specs.Passes.{Known, IsOlder, Closes, numbered}
use Rattle.log_lock.proofs.Lists.{older_trans}
use Rattle.log_machine.specs.declared.names.Filed.{Filed}
use Rattle.log_desks.specs.Desks.{IsFresh, IsJoined, mine_in, settled_in, left_in, faults_in, wants_in, turns_in, seen_in}
use Rattle.web_workers.specs.Workers.{WorkerView, Gathers, HaveFoundRoom, Ran}

flat_push : {X A : Type 0} (f : X → List A) (xs : List X) (y : X) (all more : List A) → all ≡ flat_map f xs → more ≡ all ++ f y → more ≡ flat_map f (xs ++ y ∷ [])
flat_push f xs y all more is then = then ∙ (ap (λ l. l ++ f y) is ∙ (ap (λ l. flat_map f xs ++ l) (sym (append-nil (f y))) ∙ sym (flat_map-append f xs (y ∷ []))))

sum_push : {X : Type 0} (f : X → ℕ) (xs : List X) (y : X) (all more : ℕ) → all ≡ sum_by f xs → more ≡ all + f y → more ≡ sum_by f (xs ++ y ∷ [])
sum_push f xs y all more is then = then ∙ (ap (λ n. n + f y) is ∙ (let one : sum_by f xs + f y ≡ sum_by f xs + sum_by f (y ∷ []) = ap (λ n. sum_by f xs + n) (let same : f y ≡ 0 + f y = omega arith in same) in one ∙ sym (sum_by-append f xs (y ∷ []))))

module _ {Entry P : Type 0} (lock : TableId) (opening : Snapshot (Filed Entry)) where
  -- before the first worker
  pub gathers_none : (handle : Known (Filed Entry)) → IsFresh lock opening handle → Gathers {P = P} lock opening handle []
  gathers_none handle fresh = record {
    lock_is = fresh.lock_is;
    opening_is = fresh.opening_is;
    mine = fresh.mine;
    settled = fresh.settled;
    left = fresh.left;
    faults = fresh.faults;
    wants = fresh.wants;
    turns = fresh.turns;
    seen = All-nil (λ (d : WorkerView Entry P). IsOlder (seen_in d.handle) handle.seen);
  }

  pub gathers_push : (handle after : Known (Filed Entry)) (workers : List (WorkerView Entry P)) (worker : WorkerView Entry P) → Gathers lock opening handle workers → IsJoined handle after worker.handle → Gathers lock opening after (workers ++ worker ∷ [])
  gathers_push handle after workers worker g j =
      let newer : WorkerView Entry P → Type 0 = λ (d : WorkerView Entry P). IsOlder (seen_in d.handle) after.seen in
      record {
        lock_is = j.lock_is ∙ g.lock_is;
        opening_is = j.opening_is ∙ g.opening_is;
        mine = flat_push (λ (d : WorkerView Entry P). mine_in d.handle) workers worker handle.mine after.mine g.mine j.mine;
        settled = flat_push (λ (d : WorkerView Entry P). settled_in d.handle) workers worker handle.settled after.settled g.settled j.settled;
        left = flat_push (λ (d : WorkerView Entry P). left_in d.handle) workers worker handle.left after.left g.left j.left;
        faults = sum_push (λ (d : WorkerView Entry P). faults_in d.handle) workers worker handle.faults after.faults g.faults j.faults;
        wants = sum_push (λ (d : WorkerView Entry P). wants_in d.handle) workers worker handle.wants after.wants g.wants j.wants;
        turns = sum_push (λ (d : WorkerView Entry P). turns_in d.handle) workers worker handle.turns after.turns g.turns j.turns;
        seen = All-append newer workers (worker ∷ []) (All-weaker (λ (d : WorkerView Entry P). IsOlder (seen_in d.handle) handle.seen) newer (λ d older. older_trans (seen_in d.handle) handle.seen after.seen older j.earlier) workers g.seen)
            (All-cons newer worker [] j.seen (All-nil newer));
      }

  pub gathers_more : (handle after : Known (Filed Entry)) (workers : List (WorkerView Entry P)) (i : ℕ) (worker : WorkerView Entry P) → i < length workers → get_or workers i worker ≡ worker → Gathers lock opening handle (take i workers) → IsJoined handle after worker.handle
      → Gathers lock opening after (take (i + 1) workers)
  gathers_more handle after workers i worker lt is g j =
      subst (Gathers lock opening after) (sym (take_more workers i worker lt ∙ ap (λ (d : WorkerView Entry P). take i workers ++ d ∷ []) is)) (gathers_push handle after (take i workers) worker g j)

  -- the lock was closed by the pass that has all
  pub ran : (handle : Known (Filed Entry)) (workers : List (WorkerView Entry P)) (closed : Snapshot (Filed Entry)) → Gathers lock opening handle workers → Closes handle closed → Ran opening closed workers
  ran handle workers closed g c = record {
    added = c.added;
    list = c.list ∙ ap (λ (s : Snapshot (Filed Entry)). c.added ++ s.list) g.opening_is;
    once = subst (λ l. IsPermutation (numbered (length opening.list) c.added) l) (ap₂ (λ l m. l ++ m) g.mine g.settled)
        (subst (λ (s : Snapshot (Filed Entry)). IsPermutation (numbered (length s.list) c.added) (handle.mine ++ handle.settled)) g.opening_is c.once);
    settled = λ entry has. subst (λ l. Contains l entry) g.left (c.settled entry (subst (λ l. Contains l entry) (sym g.settled) has));
    pending = λ entry is. subst (λ l. Contains l (length closed.list + 1, entry)) g.left (c.pending entry is);
    seen = All-weaker (λ (d : WorkerView Entry P). IsOlder (seen_in d.handle) handle.seen) (λ (d : WorkerView Entry P). IsOlder (seen_in d.handle) closed.list) (λ d older. older_trans (seen_in d.handle) handle.seen closed.list older c.seen) workers g.seen;
    faults = subst (λ n. RoseBy n opening.faults closed.faults) g.faults (subst (λ (s : Snapshot (Filed Entry)). RoseBy handle.faults s.faults closed.faults) g.opening_is c.faults);
    still = λ none. c.still (g.faults ∙ none) ∙ ap (λ (s : Snapshot (Filed Entry)). s.faults) g.opening_is;
    fixed = c.fixed ∙ ap (λ (s : Snapshot (Filed Entry)). s.fixed) g.opening_is;
  }

  -- and what it was told of want of memory
  pub found_room : (handle : Known (Filed Entry)) (workers : List (WorkerView Entry P)) (closed : Snapshot (Filed Entry)) (room : ℕ) → handle.room ≡ room → Gathers lock opening handle workers → Closes handle closed → HaveFoundRoom room workers
  found_room handle workers closed room same g c some_want =
      let found = c.memory (omega (arith, g.wants, some_want)) in
      omega (arith, g.wants, g.turns, same, found)
