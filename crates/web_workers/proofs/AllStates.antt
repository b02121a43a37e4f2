-- What the connections of all workers were told, of the list at the end.
use Rattle.std.proofs.Common.{◌≡◌, ◌⊎◌, inl, inr, ⊎_elim, ℕ, zero, suc, ◌+◌, ◌<◌, List, [], ◌∷◌, ◌++◌, Option, Some, length, get_or, refl, sym, ◌∙◌, subst, arith, zero-lt-suc}
use Rattle.std.specs.Prelude.{Contains}
use Rattle.std.specs.List.{flat_map, sum_by}
use Rattle.std.proofs.lemmas.List.Elements.{Contains-append_cases}
use Rattle.std.proofs.lemmas.List.Sorted.{Contains-permutation}
use Rattle.std.proofs.lemmas.List.Sums.{sum_by-cons}
use Rattle.log_machine.specs.Scheme.{Semantics}
use Rattle.log_machine.specs.declared.reply.LogReply.{LogReply}
use Rattle.log_lock.specs.declared.turned.Snapshot.{Snapshot}
use Rattle.log_lock.specs.Passes.{IsOlder, numbered}
use Rattle.log_lock.specs.Turning.{RoseBy}
use Rattle.log_desks.specs.Desks.{faults_in, left_in, mine_in, seen_in, settled_in, turns_in, wants_in}
use Rattle.log_machine.specs.Names.{entries_of}
use Rattle.log_machine.specs.declared.names.Filed.{Filed}
use Rattle.log_desks.proofs.Turning.{entries_older}
use Rattle.web_session.specs.Asks.{Scheme}
use Rattle.web_workers.specs.AllTold.{AllHonest, AreCounted, EachIsBrought, EachIsTold, HaveRoom, all_asked, all_no_storage, all_unavailable, below_suc, sum_below}
use Rattle.web_workers.specs.Closed.{IsBroughtBy, times_asked, times_no_storage, times_unavailable}
use Rattle.web_session.specs.Ports.{AcceptorState}
use Rattle.web_workers.specs.NewEntry.{TellsFaults}
use Rattle.web_workers.specs.Workers.{HasServed, WorkerView}
use Rattle.web_workers.proofs.Closing.{told_sessions}

-- what is in a list of lists is in one of them
in_one : {X A : Type 0} (f : X → List A) (xs : List X) (a : A) → Contains (flat_map f xs) a → (k : ℕ) × (k < length xs) × ((d : X) → Contains (f (get_or xs k d)) a)
in_one f [] a has = absurd (omega (arith, has.1))
in_one {X} f (x ∷ xs) a has = pick (in_one f xs a) (Contains-append_cases (f x) (flat_map f xs) a has)
  where
    pick : (Contains (flat_map f xs) a → (k : ℕ) × (k < length xs) × ((d : X) → Contains (f (get_or xs k d)) a)) → Contains (f x) a ⊎ Contains (flat_map f xs) a
        → (k : ℕ) × (k < suc (length xs)) × ((d : X) → Contains (f (get_or (x ∷ xs) k d)) a)
    pick more (inl here) = (0, omega arith, λ d. here)
    pick more (inr later) = let (k, lt, is) = more later in (suc k, omega (arith, lt), is)

none_in : {X : Type 0} (xs : List X) (x : X) → xs ≡ [] → Contains xs x → ⊥
none_in xs x none has = let bad : Contains [] x = subst (λ l. Contains l x) none has in omega (arith, bad.1)

-- numbers that are those of a list have the same sum
pub sum_below-is : {X : Type 0} (g : X → ℕ) (d : X) (n : ℕ) (xs : List X) (f : (k : ℕ) → k < n → ℕ) → length xs ≡ n → ((k : ℕ) (below : k < n) → f k below ≡ g (get_or xs k d)) → sum_below n f ≡ sum_by g xs
sum_below-is g d zero [] f size is = refl
sum_below-is g d zero (x ∷ xs) f size is = absurd (omega (arith, size))
sum_below-is g d (suc n) [] f size is = absurd (omega (arith, size))
sum_below-is g d (suc n) (x ∷ xs) f size is =
    let one : f 0 (zero-lt-suc n) ≡ g x = is 0 (zero-lt-suc n) in
    let more = sum_below-is g d n xs (λ k below. f (suc k) (below_suc k n below)) (omega (arith, size)) (λ k below. is (suc k) (below_suc k n below)) in
    omega (arith, one, more, sum_by-cons g x xs)

module _ {Entry Operation Response P : Type 0} (semantics : Semantics Entry Operation Response) (own : Operation → Option Entry) (scheme : Scheme Operation (LogReply Response)) (own_added : (past : List Entry) (operation : Operation) (entry : Entry) → semantics.added past operation ≡ Some entry → own operation ≡ Some entry) (unavailable : TellsFaults scheme) (tells : P → AcceptorState) (faults : P → ℕ) (limit : ℕ) (opening closed : Snapshot (Filed Entry)) (before after : List (WorkerView Entry P)) (served : HasServed semantics own scheme tells faults limit opening closed before after) where
  pub each_told : EachIsTold semantics own scheme tells faults limit opening closed before after served
  each_told k d inside honest =
      let one = served.each k d inside in
      let seen : IsOlder (seen_in (get_or served.workers k d).handle) closed.list = served.ran.seen k d (omega (arith, inside, served.count)) in
      let older : IsOlder one.last.seen closed.list = subst (λ p. IsOlder (seen_in p) closed.list) one.has seen in
      (told_sessions semantics own scheme own_added unavailable (k + 1) _ honest (entries_of closed.list) 1 one.first one.served.sessions one.last (entries_older one.last.seen closed.list older) one.served.each).have

  module _ (told : EachIsTold semantics own scheme tells faults limit opening closed before after served) (honest : AllHonest tells before) (entry : ℕ × Filed Entry) where
    abbrev IsBrought : Type 0
    IsBrought = (k : ℕ) × (d : WorkerView Entry P) × (inside : k < length before)
        × IsBroughtBy semantics own scheme (k + 1) (entries_of closed.list) (served.each k d inside).last.mine 1 (served.each k d inside).served.sessions (told k d inside (honest k d inside)).told entry.1

    -- the workers are some, since one of them has the entry
    first_of : (k : ℕ) (workers : List (WorkerView Entry P)) → k < length workers → WorkerView Entry P
    first_of k [] lt = absurd (omega (arith, lt))
    first_of k (d ∷ workers) lt = d

    of_mine : Contains (flat_map (λ (d : WorkerView Entry P). mine_in d.handle) served.workers) entry → IsBrought
    of_mine has =
        let (k, lt, is) = in_one (λ (d : WorkerView Entry P). mine_in d.handle) served.workers entry has in
        let d = first_of k served.workers lt in
        let inside : k < length before = omega (arith, lt, served.count) in
        let one = served.each k d inside in
        let there : Contains one.last.mine entry = subst (λ p. Contains (mine_in p) entry) one.has (is d) in
        (k, d, inside, ⊎_elim (λ old. absurd (none_in one.first.mine entry one.fresh.mine old)) (λ new. new) ((told k d inside (honest k d inside)).mine entry there))

    of_left : Contains (flat_map (λ (d : WorkerView Entry P). left_in d.handle) served.workers) entry → IsBrought
    of_left has =
        let (k, lt, is) = in_one (λ (d : WorkerView Entry P). left_in d.handle) served.workers entry has in
        let d = first_of k served.workers lt in
        let inside : k < length before = omega (arith, lt, served.count) in
        let one = served.each k d inside in
        let there : Contains one.last.left entry = subst (λ p. Contains (left_in p) entry) one.has (is d) in
        (k, d, inside, ⊎_elim (λ old. absurd (none_in one.first.left entry one.fresh.left old)) (λ new. new) ((told k d inside (honest k d inside)).left entry there))

    of_either : Contains (flat_map (λ (d : WorkerView Entry P). mine_in d.handle) served.workers) entry ⊎ Contains (flat_map (λ (d : WorkerView Entry P). settled_in d.handle) served.workers) entry → IsBrought
    of_either (inl mine) = of_mine mine
    of_either (inr settled) = of_left (served.ran.settled entry settled)

  pub each_brought : (told : EachIsTold semantics own scheme tells faults limit opening closed before after served) → EachIsBrought semantics own scheme tells faults limit opening closed before after served told
  each_brought told honest entry has =
      of_either told honest entry
      (Contains-append_cases (flat_map (λ (d : WorkerView Entry P). mine_in d.handle) served.workers) (flat_map (λ (d : WorkerView Entry P). settled_in d.handle) served.workers) entry
      (Contains-permutation (numbered (length opening.list) served.ran.added) (flat_map (λ (d : WorkerView Entry P). mine_in d.handle) served.workers ++ flat_map (λ (d : WorkerView Entry P). settled_in d.handle) served.workers) entry served.ran.once has))

  -- the disk's count of faults rose by all 503, and stood still where there was none
  pub are_counted : (told : EachIsTold semantics own scheme tells faults limit opening closed before after served) → AreCounted semantics own scheme tells faults limit opening closed before after served told
  are_counted told honest d = (subst (λ n. RoseBy n opening.faults closed.faults) (sym all) served.ran.faults, λ none. served.ran.still (sym all ∙ none))
    where
      exactly : (k : ℕ) (inside : k < length before)
          → times_unavailable semantics own scheme (k + 1) (entries_of closed.list) (served.each k d inside).last.mine 1 (served.each k d inside).served.sessions (told k d inside (honest k d inside)).told ≡ faults_in (get_or served.workers k d).handle
      exactly k inside =
          let one = served.each k d inside in
          let times = times_unavailable semantics own scheme (k + 1) (entries_of closed.list) one.last.mine 1 one.served.sessions (told k d inside (honest k d inside)).told in
          let is = (told k d inside (honest k d inside)).faults in
          let first = one.fresh.faults in
          let same : times ≡ one.last.faults = omega (arith, is, first) in
          subst (λ p. times ≡ faults_in p) (sym one.has) same

      all : all_unavailable semantics own scheme tells faults limit opening closed before after served told honest d ≡ sum_by (λ (d : WorkerView Entry P). faults_in d.handle) served.workers
      all = sum_below-is (λ (d : WorkerView Entry P). faults_in d.handle) d (length before) served.workers _ served.count exactly

  -- where any ask was answered 507, there was no room left: at least as many asks as there are ports were answered otherwise
  pub have_room : (told : EachIsTold semantics own scheme tells faults limit opening closed before after served) → HaveRoom semantics own scheme tells faults limit opening closed before after served told
  have_room told honest d some_want =
      let found = served.found_room (omega (arith, all_wants, some_want)) in
      omega (arith, all_wants, all_turns, found)
    where
      same_wants : (k : ℕ) (inside : k < length before)
          → times_no_storage semantics own scheme (k + 1) (entries_of closed.list) (served.each k d inside).last.mine 1 (served.each k d inside).served.sessions (told k d inside (honest k d inside)).told ≡ wants_in (get_or served.workers k d).handle
      same_wants k inside =
          let one = served.each k d inside in
          let times = times_no_storage semantics own scheme (k + 1) (entries_of closed.list) one.last.mine 1 one.served.sessions (told k d inside (honest k d inside)).told in
          let is = (told k d inside (honest k d inside)).wants in
          let first = one.fresh.wants in
          let same : times ≡ one.last.wants = omega (arith, is, first) in
          subst (λ p. times ≡ wants_in p) (sym one.has) same

      all_wants : all_no_storage semantics own scheme tells faults limit opening closed before after served told honest d ≡ sum_by (λ (d : WorkerView Entry P). wants_in d.handle) served.workers
      all_wants = sum_below-is (λ (d : WorkerView Entry P). wants_in d.handle) d (length before) served.workers _ served.count same_wants

      same_turns : (k : ℕ) (inside : k < length before)
          → times_asked semantics own scheme (k + 1) (entries_of closed.list) (served.each k d inside).last.mine 1 (served.each k d inside).served.sessions (told k d inside (honest k d inside)).told ≡ turns_in (get_or served.workers k d).handle
      same_turns k inside =
          let one = served.each k d inside in
          let times = times_asked semantics own scheme (k + 1) (entries_of closed.list) one.last.mine 1 one.served.sessions (told k d inside (honest k d inside)).told in
          let is = (told k d inside (honest k d inside)).turns in
          let first = one.fresh.turns in
          let same : times ≡ one.last.turns = omega (arith, is, first) in
          subst (λ p. times ≡ turns_in p) (sym one.has) same

      all_turns : all_asked semantics own scheme tells faults limit opening closed before after served told honest d ≡ sum_by (λ (d : WorkerView Entry P). turns_in d.handle) served.workers
      all_turns = sum_below-is (λ (d : WorkerView Entry P). turns_in d.handle) d (length before) served.workers _ served.count same_turns
