-- Each step of the lock keeps its rule.
use Rattle.std.proofs.Common.{◌≡◌, ◌≢◌, ℕ, zero, suc, ◌+◌, ◌-◌, ◌%◌, ◌^◌, ◌<◌, ◌≤◌, ◌⊎◌, inl, inr, ⊎_elim, Bool, true, false, List, [], ◌∷◌, ◌++◌, Option, Some, None, length, set, refl, sym, ap, ap₂, ◌∙◌, subst, arith, true≢false}
use Rattle.std.specs.Prelude.{◌==◌, is_some, Contains, IsPermutation, MatchBool, if◌then◌else◌}
use Rattle.std.proofs.lemmas.Bool.Decides.{nat_tests}
use Rattle.std.specs.List.{sum_by, flat_map, slice_index}
use Rattle.std.proofs.lemmas.List.Sums.{sum_by-cons, sum_by-append}
use Rattle.std.proofs.lemmas.List.Sorted.{IsPermutation-refl}
use mathlib.Core.Logic.{dite}
use mathlib.Core.Option.{some, none, some-injective, some-ne-none}
use native.Mathlib.Decide.{ℕ_discrete}
use lib.ListN.{get_elem?}
use Rattle.atomic_table.specs.Seated.{TableId}
use Rattle.atomic_table.specs.Table.{State, Me, step, Act, keeps, takes, gives, stepped, opening, Allows, Valid, carried_after, Splits, Joins, Final, Seen}
use Rattle.atomic_table.proofs.Lists.{at_set, at_snoc, at_longer, set_here, set_else, one_turn}
use Rattle.log_lock.specs.declared.turned.Snapshot.{Snapshot}
use Rattle.log_lock.specs.declared.view.View.{View}
use Rattle.log_lock.specs.Turning.{Says, RoseBy, TakesRoom, faults_in}
use Rattle.log_lock.specs.Passes.{IsOlder, TakesSubmit, Closes, numbered, with_turn}
use Rattle.log_lock.specs.Views.{IsOpen, known, opening_of, newcomer, bringer, begun, with_less, with_part, with_other, with_longer, after_turn, mine_in, settled_in, left_in}
use Rattle.log_lock.specs.Rule.{IsIdle, IsWaiting, IsServedAfter, IsDone, HasEnded, HasGone, HasReached, holds_number, entries, Knows, Holds, LeftBy, Accounts, Rooms, Moves, MovesBy, AtHome, Away, Fresh, Running, LockRule}
use Rattle.log_lock.specs.Rule as rule
use Rattle.log_lock.proofs.Lists.{got, sum_set, none_some, same_some, older_refl, older_nil, contains_none, two_below, sum_alone, flat_alone}
use Rattle.log_lock.proofs.Goings.{moves_of, known_after}
use Rattle.log_lock.proofs.Accounting.{knows_later, knows_number, knows_served, knows_longer, knows_less, knows_part, knows_spent, knows_other, knows_end, nothing, longer_is, accounts_set, accounts_snoc, accounts_end, accounts_join, rooms_set, rooms_snoc, rooms_end, rooms_join}

draw_words : (ws : List ℕ) (a n b : ℕ) → ws ≡ (a + n) % 2 ^ 64 ∷ b ∷ [] → set ws 0 ((slice_index ws 0 + 1) % 2 ^ 64) ≡ (a + (n + 1)) % 2 ^ 64 ∷ b ∷ []
draw_words ws a n b e =
    let next : ((a + n) % 2 ^ 64 + 1) % 2 ^ 64 ≡ (a + (n + 1)) % 2 ^ 64 = omega arith in
    rw e (ap (λ x. x ∷ b ∷ []) next)

end_words : (ws : List ℕ) (a n : ℕ) → 1 ≤ n → ws ≡ (a + n) % 2 ^ 64 ∷ a % 2 ^ 64 ∷ [] → set ws 1 ((slice_index ws 1 + 1) % 2 ^ 64) ≡ ((a + 1) + (n - 1)) % 2 ^ 64 ∷ (a + 1) % 2 ^ 64 ∷ []
end_words ws a n positive e =
    let next : (a % 2 ^ 64 + 1) % 2 ^ 64 ≡ (a + 1) % 2 ^ 64 = omega arith in
    let same : a + n ≡ (a + 1) + (n - 1) = omega arith in
    rw e (ap₂ (λ y z. y ∷ z ∷ []) (ap (λ m. m % 2 ^ 64) same) next)

load_words : (ws : List ℕ) (a b : ℕ) → ws ≡ a ∷ b ∷ [] → set ws 0 (slice_index ws 0) ≡ ws
load_words ws a b e = rw e refl

module _ {T E : Type 0} (stand_of : T → Snapshot E) (reached : Snapshot E → T → Type 0) (room_of : T → ℕ) where
  Shared : Type 0
  Shared = State (Option T) (View E)

  only : (v w : View E) (views : List (View E)) (id : ℕ) → views ≡ v ∷ [] → get_elem? views id ≡ some w → (id ≡ 0) × (w ≡ v)
  only v w views id is at = go id (ap (λ l. get_elem? l id) (sym is) ∙ at)
    where
      go : (i : ℕ) → get_elem? (v ∷ []) i ≡ some w → (i ≡ 0) × (w ≡ v)
      go zero e = (refl, sym (some-injective v w e))
      go (suc i) e = absurd (some-ne-none w (sym e))

  set_only : (v w : View E) (views : List (View E)) (id : ℕ) → views ≡ v ∷ [] → id ≡ 0 → set views id w ≡ w ∷ []
  set_only v w views id is zero_id = ap₂ (λ l i. set l i w) is zero_id

  -- a seat of an open lock is in no lock without a state
  not_fresh : (handles id : ℕ) (s : State (Option T) (View E)) (v : View E) → get_elem? s.views id ≡ some v → IsOpen v → Fresh stand_of reached room_of handles s → ⊥
  not_fresh handles id s v at is fresh =
      ⊎_elim
      (λ (h : (s.views ≡ newcomer handles ∷ []) × (get_elem? s.homes 0 ≡ some (some None))).
      none_some (sym (ap (λ (u : View E). u.opening) (only (newcomer handles) v s.views id h.0 at).1) ∙ is.1))
      (λ h. none_some (sym (ap (λ (u : View E). u.opening) (only (bringer handles) v s.views id h at).1) ∙ is.1))
      fresh.slot

  kept_of : (handles id : ℕ) (s : State (Option T) (View E)) (v : View E) → get_elem? s.views id ≡ some v → IsOpen v → LockRule stand_of reached room_of handles s → Running stand_of reached room_of handles s
  kept_of handles id s v at is rule_holds = ⊎_elim (λ (f : Fresh stand_of reached room_of handles s). absurd (not_fresh handles id s v at is f)) (λ k. k) rule_holds

  -- and one that is not open and has a share is in no lock with a state
  not_kept : (handles id : ℕ) (s : State (Option T) (View E)) (v : View E) → get_elem? s.views id ≡ some v → v.opening ≡ None → 1 ≤ v.allowance → Running stand_of reached room_of handles s → ⊥
  not_kept handles id s v at is share kept =
      ⊎_elim
      (λ (h : v.opening ≡ Some kept.start). none_some (sym is ∙ h))
      (λ h. omega (arith, share, h.1))
      (kept.each id v at).knows.opening

  pub opens : (handles : ℕ) → 1 ≤ handles → handles ≤ 64 → LockRule stand_of reached room_of handles (opening (0 ∷ 0 ∷ []) (None ∷ []) (newcomer handles))
  opens handles one few = inl (record { one = one; few = few; words = refl; slot = inl (refl, refl) })

  pub takes_empty : (handles id : ℕ) (me : Me (Option T) (View E)) → 1 ≤ handles → me ≡ (newcomer handles, [])
      → Allows (LockRule stand_of reached room_of handles) 1 id me 0 (λ n. n) (rule.takes_empty (step 1 0 0 0 none) me)
  takes_empty handles id me one is =
      subst (λ m. Allows (LockRule stand_of reached room_of handles) 1 id m 0 (λ n. n) (rule.takes_empty (step 1 0 0 0 none) m)) (sym is)
      (λ s rule_holds long at small. ⊎_elim
      (λ (fresh : Fresh stand_of reached room_of handles s). ⊎_elim
      (λ (h : (s.views ≡ newcomer handles ∷ []) × (get_elem? s.homes 0 ≡ some (some None))). (
        bringer handles,
        takes 0 None,
        h.1,
        inl (record {
          one = one;
          few = fresh.few;
          words = load_words s.words 0 0 fresh.words ∙ fresh.words;
          slot = inr (set_only (newcomer handles) (bringer handles) s.views id h.0 (only (newcomer handles) (newcomer handles) s.views id h.0 at).0);
        }),
        refl,
      ))
      (λ h. absurd (none_some (ap (λ (u : View E). u.number) (only (bringer handles) (newcomer handles) s.views id h at).1)))
      fresh.slot)
      (λ kept. absurd (not_kept handles id s (newcomer handles) at refl one kept))
      rule_holds)

  abbrev carried_state : List (ℕ × Option T) → Option T
  carried_state [] = None
  carried_state (z ∷ zs) = z.1

  first_knows : (handles : ℕ) (y : Snapshot E) (n : ℕ) → 1 ≤ handles → Knows y y (begun handles y n)
  first_knows handles y n one = record {
    opening = inl refl;
    seen = older_refl y.list;
    also = older_nil y.list;
    nothing = λ e. absurd (omega (arith, one, e));
  }

  first_accounts : (handles : ℕ) (y : Snapshot E) (n : ℕ) → y.pending ≡ None → Accounts y y (begun handles y n ∷ [])
  first_accounts handles y n calm = record {
    added = [];
    list = refl;
    once = IsPermutation-refl [];
    settled = λ id v entry at has. absurd (contains_none v.settled entry (ap (λ (u : View E). u.settled) (only (begun handles y n) v (begun handles y n ∷ []) id refl at).1) has);
    pending = λ entry is. absurd (none_some (sym calm ∙ is));
    faults = inl (omega (arith, sum_by-cons (λ (u : View E). u.faults) (begun handles y n) []));
    still = λ _. refl;
    fixed = refl;
  }

  first_rooms : (handles : ℕ) (y : Snapshot E) (n : ℕ) → Rooms n n (begun handles y n ∷ [])
  first_rooms handles y n =
      let wants : sum_by (λ (u : View E). u.wants) (begun handles y n ∷ []) ≡ 0 = omega (arith, sum_by-cons (λ (u : View E). u.wants) (begun handles y n) []) in
      record {
        taken = omega (arith, wants, sum_by-cons (λ (u : View E). u.turns) (begun handles y n) []);
        wanted = λ some_want. absurd (omega (arith, wants, some_want));
      }

  first_kept : (handles : ℕ) (x : T) (s : State (Option T) (View E)) → 1 ≤ handles → handles ≤ 64 → (stand_of x).pending ≡ None → reached (stand_of x) x
      → s.words ≡ 0 ∷ 0 ∷ [] → s.views ≡ begun handles (stand_of x) (room_of x) ∷ [] → get_elem? s.homes 0 ≡ some (some (Some x)) → Running stand_of reached room_of handles s
  first_kept handles x s one few calm there words views home =
      let b : View E = begun handles (stand_of x) (room_of x) in
      record {
        serving = 0;
        waiting = 0;
        start = stand_of x;
        now = stand_of x;
        before = room_of x;
        room = room_of x;
        words = words;
        few = few;
        each = λ id v at. subst (Holds 0 0 (room_of x) (room_of x) (stand_of x) (stand_of x)) (sym (only b v s.views id views at).1)
            (record { knows = first_knows handles (stand_of x) (room_of x) one; room_is = λ e. refl; number = λ k e. absurd (none_some e); served = λ y e. absurd (none_some e) });
        apart = λ i j v w k at_i at_j e f. (only b v s.views i views at_i).0 ∙ sym (only b w s.views j views at_j).0;
        held = omega (arith, ap (sum_by (λ (u : View E). holds_number u)) views, sum_by-cons (λ (u : View E). holds_number u) b []);
        shares = omega (arith, ap (sum_by (λ (u : View E). u.allowance)) views, sum_by-cons (λ (u : View E). u.allowance) b []);
        accounts = subst (Accounts (stand_of x) (stand_of x)) (sym views) (first_accounts handles (stand_of x) (room_of x) calm);
        rooms = subst (Rooms (room_of x) (room_of x)) (sym views) (first_rooms handles (stand_of x) (room_of x));
        slot = inl (x, home, refl, there, refl, λ id v at. ap (λ (u : View E). u.base) (only b v s.views id views at).1);
      }

  pub brings : (handles id : ℕ) (me : Me (Option T) (View E)) (x : T) → 1 ≤ handles → me ≡ (bringer handles, (0, Some x) ∷ []) → (stand_of x).pending ≡ None → reached (stand_of x) x
      → Allows (LockRule stand_of reached room_of handles) 1 id me 0 (λ n. n) (rule.brings stand_of reached room_of (step 1 0 0 0 none) me)
  brings handles id me x one is calm there =
      subst (λ m. Allows (LockRule stand_of reached room_of handles) 1 id m 0 (λ n. n) (rule.brings stand_of reached room_of (step 1 0 0 0 none) m)) (sym is)
      (λ s rule_holds long at small. ⊎_elim
      (λ (fresh : Fresh stand_of reached room_of handles s). ⊎_elim
      (λ (h : (s.views ≡ newcomer handles ∷ []) × (get_elem? s.homes 0 ≡ some (some None))).
      absurd (none_some (sym (ap (λ (u : View E). u.number) (only (newcomer handles) (bringer handles) s.views id h.0 at).1))))
      (λ (h : s.views ≡ bringer handles ∷ []). (
        begun handles (stand_of x) (room_of x),
        gives,
        tt,
        inr (first_kept handles x
            (stepped s 0 (slice_index s.words 0) id ((0, Some x) ∷ []) (begun handles (stand_of x) (room_of x)) gives)
            one fresh.few calm there
            (load_words s.words 0 0 fresh.words ∙ fresh.words)
            (set_only (bringer handles) (begun handles (stand_of x) (room_of x)) s.views id h (only (bringer handles) (bringer handles) s.views id h at).0)
            (set_here s.homes 0 (some (Some x)) (omega (arith, long)))),
        λ z e. let same : x ≡ z = same_some (ap carried_state e) in ap (λ q. (begun handles (stand_of q) (room_of q), [])) same,
      ))
      fresh.slot)
      (λ kept. absurd (not_kept handles id s (bringer handles) at refl one kept))
      rule_holds)

  -- where one view changes, numbers stay apart if its new one is no other's
  apart_set : (views : List (View E)) (id : ℕ) (w : View E)
      → ((i j : ℕ) (u x : View E) (k : ℕ) → get_elem? views i ≡ some u → get_elem? views j ≡ some x → u.number ≡ Some k → x.number ≡ Some k → i ≡ j)
      → ((j : ℕ) (u : View E) (k : ℕ) → j ≢ id → get_elem? views j ≡ some u → u.number ≡ Some k → w.number ≡ Some k → ⊥)
      → (i j : ℕ) (u x : View E) (k : ℕ) → get_elem? (set views id w) i ≡ some u → get_elem? (set views id w) j ≡ some x → u.number ≡ Some k → x.number ≡ Some k → i ≡ j
  apart_set views id w apart fresh i j u x k at_i at_j e f =
      ⊎_elim
      (λ a. ⊎_elim (λ b. a.0 ∙ sym b.0) (λ b. absurd (fresh j x k b.0 b.1 f (ap (λ (y : View E). y.number) a.1 ∙ e))) (at_set views id j w x at_j))
      (λ a. ⊎_elim (λ b. absurd (fresh i u k a.0 a.1 e (ap (λ (y : View E). y.number) b.1 ∙ f))) (λ b. apart i j u x k a.1 b.1 e f) (at_set views id j w x at_j))
      (at_set views id i w u at_i)

  -- the slot stays where it is, where a view changes that is not served before or after
  slot_set : (start now : Snapshot E) (room : ℕ) (s : State (Option T) (View E)) (words : List ℕ) (id : ℕ) (v w : View E) → get_elem? s.views id ≡ some v → v.base ≡ None → w.base ≡ None
      → AtHome stand_of reached room_of start now room s ⊎ Away stand_of reached room_of now s
      → AtHome stand_of reached room_of start now room (record { words = words; homes = s.homes; views = set s.views id w }) ⊎ Away stand_of reached room_of now (record { words = words; homes = s.homes; views = set s.views id w })
  slot_set start now room s words id v w at before after slot =
      ⊎_elim
      (λ home. let (x, at_home, is, there, room_is, none_served) = home in inl (x, at_home, is, there, room_is, λ j u at_j. ⊎_elim (λ t. ap (λ (y : View E). y.base) (sym t.1) ∙ after) (λ t. none_served j u t.1) (at_set s.views id j w u at_j)))
      (λ away. let (j, u, gone, at_j, base) = away in inr (j, u, gone, set_else s.views id j w (λ same. none_some (sym before ∙ (ap (λ (y : View E). y.base) (some-injective v u (sym at ∙ (ap (get_elem? s.views) (sym same) ∙ at_j))) ∙ base))) ∙ at_j, base))
      slot

  none_served_set : (s : State (Option T) (View E)) (id : ℕ) (v w : View E) → get_elem? s.views id ≡ some v → w.base ≡ None
      → ((j : ℕ) (u : View E) → get_elem? s.views j ≡ some u → u.base ≡ None) → (j : ℕ) (u : View E) → get_elem? (set s.views id w) j ≡ some u → u.base ≡ None
  none_served_set s id v w at after none_served j u at_j = ⊎_elim (λ t. ap (λ (y : View E). y.base) (sym t.1) ∙ after) (λ t. none_served j u t.1) (at_set s.views id j w u at_j)

  -- drawing a number
  pub draws : (handles id : ℕ) (me : Me (Option T) (View E)) → IsIdle me → 1 ≤ me.0.allowance
      → Allows (LockRule stand_of reached room_of handles) 1 id me 0 (λ n. (n + 1) % 2 ^ 64) (rule.draws (step 1 0 1 0 none) me)
  draws handles id (v, carried) idle share s rule_holds long at small =
      let kept = kept_of handles id s v at idle.0.2 rule_holds in
      let k : ℕ = kept.serving + kept.waiting in
      let w : View E = record v { number = Some k } in
      let held : sum_by (λ (u : View E). holds_number u) (set s.views id w) + holds_number v ≡ sum_by (λ (u : View E). holds_number u) s.views + 1 = sum_set (λ (u : View E). holds_number u) s.views id v w at in
      let before : holds_number v ≡ 0 = ap (λ o. if is_some o then 1 else 0) idle.0.0 in
      let shares : sum_by (λ (u : View E). u.allowance) (set s.views id w) + v.allowance ≡ sum_by (λ (u : View E). u.allowance) s.views + v.allowance = sum_set (λ (u : View E). u.allowance) s.views id v w at in (
        w,
        keeps,
        tt,
        inr (record {
          serving = kept.serving;
          waiting = kept.waiting + 1;
          now = kept.now;
          start = kept.start;
          before = kept.before;
          room = kept.room;
          words = draw_words s.words kept.serving kept.waiting (kept.serving % 2 ^ 64) kept.words;
          few = kept.few;
          each = λ j u at_j. ⊎_elim (λ t. subst (Holds kept.serving (kept.waiting + 1) kept.before kept.room kept.start kept.now) t.1 (record {
            knows = knows_number kept.start kept.now v (Some k) v.base (kept.each id v at).knows;
            room_is = (kept.each id v at).room_is;
            number = λ n e. let same : k ≡ n = same_some e in (omega arith, omega arith, share);
            served = λ xs e. absurd (none_some (sym idle.0.1 ∙ e));
          })) (λ t. let old = kept.each j u t.1 in record {
            knows = old.knows;
            room_is = old.room_is;
            number = λ n e. let o = old.number n e in (o.0, omega (arith, o.1), o.2);
            served = old.served;
          }) (at_set s.views id j w u at_j);
          apart = apart_set s.views id w kept.apart (λ j u n ne at_j e f. let same : k ≡ n = same_some f in let o = (kept.each j u at_j).number n e in omega (arith, o.1));
          held = omega (arith, kept.held);
          shares = omega (arith, kept.shares);
          accounts = accounts_set kept.start kept.now s.views id v w at refl refl refl refl kept.accounts;
          rooms = rooms_set kept.before kept.room s.views id v w at refl refl kept.rooms;
          slot = slot_set kept.start kept.now kept.room s (set s.words 0 ((slice_index s.words 0 + 1) % 2 ^ 64)) id v w at idle.0.1 idle.0.1 kept.slot;
        }),
        (k, ap (λ ws. slice_index ws 0) kept.words, refl),
      )

  -- no more seats hold a number than there are shares
  sum_below : (xs : List (View E)) → ((i : ℕ) (u : View E) → get_elem? xs i ≡ some u → holds_number u ≤ u.allowance) → sum_by (λ (u : View E). holds_number u) xs ≤ sum_by (λ (u : View E). u.allowance) xs
  sum_below [] each = omega arith
  sum_below (x ∷ xs) each =
      omega (arith, sum_by-cons (λ (u : View E). holds_number u) x xs, sum_by-cons (λ (u : View E). u.allowance) x xs, each 0 x refl, sum_below xs (λ i u at. each (suc i) u at))

  one_share : (serving waiting allowance : ℕ) (o : Option ℕ) → ((k : ℕ) → o ≡ Some k → (serving ≤ k) × (k < serving + waiting) × (1 ≤ allowance)) → (if is_some o then 1 else 0) ≤ allowance
  one_share serving waiting allowance None h = omega arith
  one_share serving waiting allowance (Some k) h = (h k refl).2

  few_wait : (handles : ℕ) (s : State (Option T) (View E)) (kept : Running stand_of reached room_of handles s) → kept.waiting ≤ 64
  few_wait handles s kept =
      let below = sum_below s.views (λ i u at. one_share kept.serving kept.waiting u.allowance u.number (kept.each i u at).number) in
      omega (arith, below, kept.held, kept.shares, kept.few)

  -- how a look goes on
  abbrev Goes_on : ℕ → ℕ → View E → State (Option T) (View E) → Type 0
  Goes_on handles id v s =
      (w : View E) × (a : Act (Option T)) × Valid s.homes [] a × LockRule stand_of reached room_of handles (stepped s 1 (slice_index s.words 1) id [] w a)
      × rule.looks stand_of reached room_of (step 1 1 0 0 none) (v, []) (slice_index s.words 1) (w, carried_after [] a)

  -- a load that changes no view keeps the rule, and so does one that changes nothing that counts
  module _ (handles id : ℕ) (s : State (Option T) (View E)) (kept : Running stand_of reached room_of handles s) (v : View E) (at : get_elem? s.views id ≡ some v) where
    load_kept : (words : List ℕ) → words ≡ s.words → (w : View E) → w.number ≡ v.number → w.base ≡ v.base → v.base ≡ None → w.allowance ≡ v.allowance
        → w.mine ≡ v.mine → w.settled ≡ v.settled → w.left ≡ v.left → w.faults ≡ v.faults → w.wants ≡ v.wants → w.turns ≡ v.turns
        → w.opening ≡ v.opening → w.room ≡ v.room → Knows kept.start kept.now w
        → Running stand_of reached room_of handles (record { words = words; homes = s.homes; views = set s.views id w })
    load_kept words same_words w number base idle share mine settled left faults wants turns opening room knows =
        let held = sum_set (λ (u : View E). holds_number u) s.views id v w at in
        let number_same : holds_number w ≡ holds_number v = ap (λ o. if is_some o then 1 else 0) number in
        let shares = sum_set (λ (u : View E). u.allowance) s.views id v w at in
        record {
          serving = kept.serving;
          waiting = kept.waiting;
          now = kept.now;
          start = kept.start;
          before = kept.before;
          room = kept.room;
          words = same_words ∙ kept.words;
          few = kept.few;
          each = λ j u at_j. ⊎_elim (λ t. subst (Holds kept.serving kept.waiting kept.before kept.room kept.start kept.now) t.1 (record {
            knows = knows;
            room_is = λ e. room ∙ (kept.each id v at).room_is (sym opening ∙ e);
            number = λ n e. let o = (kept.each id v at).number n (sym number ∙ e) in (o.0, o.1, omega (arith, o.2, share));
            served = λ y e. absurd (none_some (sym idle ∙ (sym base ∙ e)));
          })) (λ t. kept.each j u t.1) (at_set s.views id j w u at_j);
          apart = apart_set s.views id w kept.apart (λ j u n ne at_j e f. ne (kept.apart j id u v n at_j at e (sym number ∙ f)));
          held = omega (arith, kept.held, held, number_same);
          shares = omega (arith, kept.shares, shares, share);
          accounts = accounts_set kept.start kept.now s.views id v w at mine settled left faults kept.accounts;
          rooms = rooms_set kept.before kept.room s.views id v w at wants turns kept.rooms;
          slot = slot_set kept.start kept.now kept.room s words id v w at idle (base ∙ idle) kept.slot;
        }

  -- a seat's lock was made with the state that the lock began with
  from_start : (v : View E) (start : Snapshot E) (x : T) → (v.opening ≡ Some start) ⊎ ((v.opening ≡ None) × (v.allowance ≡ 0)) → reached start x → HasReached stand_of reached room_of v x
  from_start v start x opening there other is =
      ⊎_elim
      (λ (h : v.opening ≡ Some start). subst (λ (y : Snapshot E). reached y x) (same_some (sym h ∙ is)) there)
      (λ h. absurd (none_some (sym h.0 ∙ is)))
      opening

  to_start : (v : View E) (start : Snapshot E) (x : T) → (v.opening ≡ Some start) ⊎ ((v.opening ≡ None) × (v.allowance ≡ 0)) → IsOpen v → HasReached stand_of reached room_of v x → reached start x
  to_start v start x opening open_ there =
      ⊎_elim (λ (h : v.opening ≡ Some start). there start h) (λ h. absurd (none_some (sym h.0 ∙ open_.1))) opening

  -- looking at the number that is served
  pub looks : (handles id : ℕ) (v : View E) (k : ℕ) → v.number ≡ Some k → v.base ≡ None → IsOpen v
      → Allows (LockRule stand_of reached room_of handles) 1 id (v, []) 1 (λ n. n) (rule.looks stand_of reached room_of (step 1 1 0 0 none) (v, []))
  looks handles id v k number idle open_ s rule_holds long at small = dite (ℕ_discrete kept.serving k) hit miss
    where
      kept : Running stand_of reached room_of handles s
      kept = kept_of handles id s v at open_ rule_holds

      mine : (kept.serving ≤ k) × (k < kept.serving + kept.waiting) × (1 ≤ v.allowance)
      mine = (kept.each id v at).number k number

      found : slice_index s.words 1 ≡ kept.serving % 2 ^ 64
      found = ap (λ ws. slice_index ws 1) kept.words

      same_words : set s.words 1 (slice_index s.words 1) ≡ s.words
      same_words = rw kept.words refl

      miss : ¬ (kept.serving ≡ k) → Goes_on handles id v s
      miss differs = (
        v,
        keeps,
        tt,
        inr (load_kept handles id s kept v at (set s.words 1 (slice_index s.words 1)) same_words v refl refl idle refl refl refl refl refl refl refl refl refl (kept.each id v at).knows),
        λ n e. let is : k ≡ n = same_some (sym number ∙ e) in (
          λ equal. absurd (differs (one_turn kept.serving k (2 ^ 64) mine.0 (omega (arith, mine.1, few_wait handles s kept)) (sym found ∙ (equal ∙ ap (λ m. m % 2 ^ 64) (sym is))))),
          λ _. refl,
        ),
      )

      -- no other seat is served
      home : kept.serving ≡ k → AtHome stand_of reached room_of kept.start kept.now kept.room s
      home here = ⊎_elim (λ h. h) (λ away. let (j, u, gone, at_j, base) = away in
          let served = (kept.each j u at_j).served kept.now base in
          let same : j ≡ id = kept.apart j id u v k at_j at (served.0 ∙ ap Some here) number in
          let one : u ≡ v = some-injective u v (sym at_j ∙ (ap (get_elem? s.views) same ∙ at)) in
          absurd (none_some (sym idle ∙ (ap (λ (y : View E). y.base) (sym one) ∙ base)))) kept.slot

      hit : kept.serving ≡ k → Goes_on handles id v s
      hit here = let (x, at_home, is, there, room_is, none_served) = home here in
          let w : View E = record v { base = Some (stand_of x); held = room_of x } in
          let held : sum_by (λ (u : View E). holds_number u) (set s.views id w) + holds_number v ≡ sum_by (λ (u : View E). holds_number u) s.views + holds_number v = sum_set (λ (u : View E). holds_number u) s.views id v w at in
          let shares : sum_by (λ (u : View E). u.allowance) (set s.views id w) + v.allowance ≡ sum_by (λ (u : View E). u.allowance) s.views + v.allowance = sum_set (λ (u : View E). u.allowance) s.views id v w at in
          let knows = (kept.each id v at).knows in (
            w,
            takes 0 (Some x),
            at_home,
            inr (record {
              serving = kept.serving;
              waiting = kept.waiting;
              now = kept.now;
              start = kept.start;
              before = kept.before;
              room = kept.room;
              words = same_words ∙ kept.words;
              few = kept.few;
              each = λ j u at_j. ⊎_elim (λ t. subst (Holds kept.serving kept.waiting kept.before kept.room kept.start kept.now) t.1 (record {
                knows = knows_served kept.start kept.now v (Some (stand_of x)) (room_of x) knows;
                room_is = (kept.each id v at).room_is;
                number = (kept.each id v at).number;
                served = λ y e. (number ∙ ap Some (sym here), sym (same_some e) ∙ is, room_is);
              })) (λ t. kept.each j u t.1) (at_set s.views id j w u at_j);
              apart = apart_set s.views id w kept.apart (λ j u n ne at_j e f. ne (kept.apart j id u v n at_j at e f));
              held = omega (arith, kept.held);
              shares = omega (arith, kept.shares);
              accounts = accounts_set kept.start kept.now s.views id v w at refl refl refl refl kept.accounts;
              rooms = rooms_set kept.before kept.room s.views id v w at refl refl kept.rooms;
              slot = inr (id, w, set_here s.homes 0 none (omega (arith, long)), set_here s.views id w (got s.views id v at).0, ap Some is);
            }),
            λ n e. (
              λ equal. (x, subst (λ (y : Snapshot E). IsOlder v.seen y.list) (sym is) knows.seen, from_start v kept.start x knows.opening there, refl),
              λ differs. absurd (differs (found ∙ ap (λ m. m % 2 ^ 64) (here ∙ same_some (sym number ∙ e)))),
            ),
          )

  -- no seat but the one with the number that is served is served
  no_base : (o : Option (Snapshot E)) → ((y : Snapshot E) → o ≡ Some y → ⊥) → o ≡ None
  no_base None h = refl
  no_base (Some y) h = absurd (h y refl)

  not_served : (handles : ℕ) (s : State (Option T) (View E)) (kept : Running stand_of reached room_of handles s) (id : ℕ) (v : View E) (k j : ℕ) (u : View E) → get_elem? s.views id ≡ some v → v.number ≡ Some k → k ≡ kept.serving
      → get_elem? s.views j ≡ some u → j ≢ id → u.base ≡ None
  not_served handles s kept id v k j u at number here at_j ne =
      no_base u.base (λ y e. ne (kept.apart j id u v k at_j at (((kept.each j u at_j).served y e).0 ∙ ap Some (sym here)) number))

  -- ending the turn, with the state in the seat
  pub ends : (handles id faults wants : ℕ) (v : View E) (k : ℕ) (b : Snapshot E) (x : T) → v.number ≡ Some k → v.base ≡ Some b → IsOpen v → HasReached stand_of reached room_of v x → MovesBy faults b (stand_of x) → TakesRoom wants v.held (room_of x)
      → Allows (LockRule stand_of reached room_of handles) 1 id (v, (0, Some x) ∷ []) 1 (λ n. (n + 1) % 2 ^ 64) (rule.ends stand_of reached room_of faults wants (step 1 1 1 0 none) (v, (0, Some x) ∷ []))
  ends handles id faults wants v k b x number based open_ there moves_b took s rule_holds long at small =
      let kept = kept_of handles id s v at open_ rule_holds in
      let y : Snapshot E = stand_of x in
      let w : View E = after_turn faults wants b y v in
      let mine = kept.each id v at in
      let served = mine.served b based in
      let here : k ≡ kept.serving = same_some (sym number ∙ served.0) in
      let bounds = mine.number k number in
      let moves : Moves kept.now y (mine_in b y) (settled_in b y) (left_in b y) faults = subst (λ z. Moves z y (mine_in b y) (settled_in b y) (left_in b y) faults) served.1 moves_b in
      let older : IsOlder kept.now.list y.list = (moves.added, moves.list) in
      let held : sum_by (λ (u : View E). holds_number u) (set s.views id w) + holds_number v ≡ sum_by (λ (u : View E). holds_number u) s.views + 0 = sum_set (λ (u : View E). holds_number u) s.views id v w at in
      let before : holds_number v ≡ 1 = ap (λ o. if is_some o then 1 else 0) number in
      let shares : sum_by (λ (u : View E). u.allowance) (set s.views id w) + v.allowance ≡ sum_by (λ (u : View E). u.allowance) s.views + v.allowance = sum_set (λ (u : View E). u.allowance) s.views id v w at in (
        w,
        gives,
        tt,
        inr (record {
          serving = kept.serving + 1;
          waiting = kept.waiting - 1;
          start = kept.start;
          now = y;
          before = kept.before;
          room = room_of x;
          words = end_words s.words kept.serving kept.waiting (omega (arith, bounds)) kept.words;
          few = kept.few;
          each = λ j u at_j. ⊎_elim (λ t. subst (Holds (kept.serving + 1) (kept.waiting - 1) kept.before (room_of x) kept.start y) t.1 (record {
            room_is = mine.room_is;
            knows = knows_end kept.start kept.now y v w bounds.2 older refl refl refl refl mine.knows;
            number = λ n e. absurd (none_some e);
            served = λ z e. absurd (none_some e);
          })) (λ t. let old = kept.each j u t.1 in record {
            knows = knows_later kept.start kept.now y u older old.knows;
            room_is = old.room_is;
            number = λ n e. let o = old.number n e in
                let other : ¬ (n ≡ kept.serving) = λ same. t.0 (kept.apart j id u v n t.1 at e (number ∙ ap Some (here ∙ sym same))) in
                (omega arith, omega (arith, o.1), o.2);
            served = λ z e. absurd (t.0 (kept.apart j id u v k t.1 at ((old.served z e).0 ∙ ap Some (sym here)) number));
          }) (at_set s.views id j w u at_j);
          apart = apart_set s.views id w kept.apart (λ j u n ne at_j e f. none_some f);
          held = omega (arith, kept.held, bounds);
          shares = omega (arith, kept.shares);
          accounts = accounts_end kept.start kept.now y s.views id v w (mine_in b y) (settled_in b y) (left_in b y) faults at moves refl refl refl refl kept.accounts;
          rooms = rooms_end kept.before kept.room (room_of x) wants s.views id v w at (subst (λ n. TakesRoom wants n (room_of x)) served.2 took) refl refl kept.rooms;
          slot = inl (x, set_here s.homes 0 (some (Some x)) (omega (arith, long)), refl, to_start v kept.start x mine.knows.opening open_ there, refl, λ j u at_j. ⊎_elim (λ t. ap (λ (z : View E). z.base) (sym t.1)) (λ t. not_served handles s kept id v k j u at number here t.1 t.0) (at_set s.views id j w u at_j));
        }),
        λ z c e f.
            let same : x ≡ z = same_some (ap carried_state e) in
            let base_same : b ≡ c = same_some (sym based ∙ f) in
            ap₂ (λ p q. (after_turn faults wants p (stand_of q) v, [])) base_same same,
      )

  -- the same of any seat that waits, and of any that is done
  pub looks_me : (handles id : ℕ) (me : Me (Option T) (View E)) (found : ℕ) → IsWaiting found me → Allows (LockRule stand_of reached room_of handles) 1 id me 1 (λ n. n) (rule.looks stand_of reached room_of (step 1 1 0 0 none) me)
  looks_me handles id (v, carried) found (k, number, low, base, empty, open_) =
      subst (λ l. Allows (LockRule stand_of reached room_of handles) 1 id (v, l) 1 (λ n. n) (rule.looks stand_of reached room_of (step 1 1 0 0 none) (v, l))) (sym empty) (looks handles id v k number base open_)

  pub ends_me : (handles id fault want : ℕ) (me : Me (Option T) (View E)) (x : T) (b : Snapshot E) → IsDone stand_of reached room_of fault want x b me → Allows (LockRule stand_of reached room_of handles) 1 id me 1 (λ n. (n + 1) % 2 ^ 64) (rule.ends stand_of reached room_of fault want (step 1 1 1 0 none) me)
  ends_me handles id fault want (v, carried) x b (k, number, based, open_, has, there, went, took) =
      subst (λ l. Allows (LockRule stand_of reached room_of handles) 1 id (v, l) 1 (λ n. (n + 1) % 2 ^ 64) (rule.ends stand_of reached room_of fault want (step 1 1 1 0 none) (v, l))) (sym has) (ends handles id fault want v k b x number based open_ there went took)

  -- the seat learns which of its two lists is the longer
  pub learns : (handles id : ℕ) (me : Me (Option T) (View E)) → IsIdle me → Allows (LockRule stand_of reached room_of handles) 1 id me 0 (λ n. n) (rule.learns (step 1 0 0 0 none) me)
  learns handles id (v, carried) idle s rule_holds long at small =
      let kept = kept_of handles id s v at idle.0.2 rule_holds in
      let knows = (kept.each id v at).knows in
      let both = longer_is v.seen v.also kept.now.list knows.seen knows.also in (
        with_longer v,
        keeps,
        tt,
        inr (load_kept handles id s kept v at (set s.words 0 (slice_index s.words 0)) (load_words s.words ((kept.serving + kept.waiting) % 2 ^ 64) (kept.serving % 2 ^ 64) kept.words)
            (with_longer v) refl refl idle.0.1 refl refl refl refl refl refl refl refl refl (knows_longer kept.start kept.now v knows)),
        (refl, both.0, both.1),
      )

  -- what a look tells a seat that waits
  pub look_tells : (m m' : Me (Option T) (View E)) (found number : ℕ) → IsWaiting number m → rule.looks stand_of reached room_of (step 1 1 0 0 none) m found m' → MatchBool (found == number) (IsServedAfter stand_of reached room_of m m') (m' ≡ m)
  look_tells m m' found number (k, is, low, base, empty, open_) tells = go (found == number) refl
    where
      go : (b : Bool) → (found == number) ≡ b → MatchBool b (IsServedAfter stand_of reached room_of m m') (m' ≡ m)
      go true e = let same : found ≡ number = grind (arith, nat_tests) in (tells k is).0 (same ∙ low)
      go false e = let differs : found ≢ number = (λ s. let t : (found == number) ≡ true = grind (arith, nat_tests) in true≢false (sym t ∙ e)) in (tells k is).1 (λ s. differs (s ∙ sym low))

  -- cutting off a part of the allowance
  pub splits : (handles id n : ℕ) (me : Me (Option T) (View E)) → IsIdle me → n < me.0.allowance → Splits (LockRule stand_of reached room_of handles) id me.0 (with_less n me.0) (with_part n me.0)
  splits handles id n (v, carried) idle enough s rule_holds at =
      let kept = kept_of handles id s v at idle.0.2 rule_holds in
      let w : View E = with_less n v in
      let r : View E = with_part n v in
      let held : sum_by (λ (u : View E). holds_number u) (set s.views id w) + holds_number v ≡ sum_by (λ (u : View E). holds_number u) s.views + holds_number v = sum_set (λ (u : View E). holds_number u) s.views id v w at in
      let shares : sum_by (λ (u : View E). u.allowance) (set s.views id w) + v.allowance ≡ sum_by (λ (u : View E). u.allowance) s.views + (v.allowance - n) = sum_set (λ (u : View E). u.allowance) s.views id v w at in
      let held_more : sum_by (λ (u : View E). holds_number u) (set s.views id w ++ r ∷ []) ≡ sum_by (λ (u : View E). holds_number u) (set s.views id w) + (0 + 0) = sum_by-append (λ (u : View E). holds_number u) (set s.views id w) (r ∷ []) in
      let shares_more : sum_by (λ (u : View E). u.allowance) (set s.views id w ++ r ∷ []) ≡ sum_by (λ (u : View E). u.allowance) (set s.views id w) + (0 + n) = sum_by-append (λ (u : View E). u.allowance) (set s.views id w) (r ∷ []) in
      let knows = (kept.each id v at).knows in
      let knows_r : Holds kept.serving kept.waiting kept.before kept.room kept.start kept.now r = record { knows = knows_part kept.start kept.now v n enough knows; room_is = (kept.each id v at).room_is; number = λ k e. absurd (none_some e); served = λ y e. absurd (none_some e) } in
      let knows_w : Holds kept.serving kept.waiting kept.before kept.room kept.start kept.now w = record { knows = knows_less kept.start kept.now v n enough knows; room_is = (kept.each id v at).room_is; number = λ k e. absurd (none_some (sym idle.0.0 ∙ e)); served = λ y e. absurd (none_some (sym idle.0.1 ∙ e)) } in
      inr (record {
        serving = kept.serving;
        waiting = kept.waiting;
        now = kept.now;
        start = kept.start;
        before = kept.before;
        room = kept.room;
        words = kept.words;
        few = kept.few;
        each = λ j u at_j. ⊎_elim (λ t. ⊎_elim (λ a. subst (Holds kept.serving kept.waiting kept.before kept.room kept.start kept.now) a.1 knows_w) (λ a. kept.each j u a.1) (at_set s.views id j w u t)) (λ t. subst (Holds kept.serving kept.waiting kept.before kept.room kept.start kept.now) t knows_r) (at_snoc (set s.views id w) r u j at_j);
        apart = λ i j u x k at_i at_j e f. ⊎_elim
            (λ a. ⊎_elim (λ b. apart_set s.views id w kept.apart (λ l y m ne at_l g h. none_some (sym idle.0.0 ∙ h)) i j u x k a b e f) (λ b. absurd (none_some (ap (λ (y : View E). y.number) b ∙ f))) (at_snoc (set s.views id w) r x j at_j))
            (λ a. absurd (none_some (ap (λ (y : View E). y.number) a ∙ e)))
            (at_snoc (set s.views id w) r u i at_i);
        held = omega (arith, kept.held);
        shares = omega (arith, kept.shares);
        accounts = accounts_snoc kept.start kept.now (set s.views id w) r (record { mine = refl; settled = refl; left = refl; faults = refl; wants = refl; turns = refl }) (accounts_set kept.start kept.now s.views id v w at refl refl refl refl kept.accounts);
        rooms = rooms_snoc kept.before kept.room (set s.views id w) r (record { mine = refl; settled = refl; left = refl; faults = refl; wants = refl; turns = refl }) (rooms_set kept.before kept.room s.views id v w at refl refl kept.rooms);
        slot = ⊎_elim
            (λ home. let (x, at_home, is, there, room_is, none_served) = home in inl (x, at_home, is, there, room_is, λ j u at_j. ⊎_elim (λ t. none_served_set s id v w at idle.0.1 none_served j u t) (λ t. ap (λ (y : View E). y.base) (sym t)) (at_snoc (set s.views id w) r u j at_j)))
            (λ away. let (j, u, gone, at_j, base) = away in inr (j, u, gone, at_longer (set s.views id w) (r ∷ []) j u (set_else s.views id j w (λ same. none_some (sym idle.0.1 ∙ (ap (λ (y : View E). y.base) (some-injective v u (sym at ∙ (ap (get_elem? s.views) (sym same) ∙ at_j))) ∙ base))) ∙ at_j), base))
            kept.slot;
      })

  -- taking in all that another seat has
  pub joins : (handles id other : ℕ) (me me' : Me (Option T) (View E)) → IsIdle me → IsIdle me' → Joins (LockRule stand_of reached room_of handles) id me.0 other me'.0 (with_other me.0 me'.0) (newcomer 0)
  joins handles id other (v, carried) (w, carried') ((vn, vb, vo), ve) ((wn, wb, wo), we) s rule_holds at apart_ids at_other =
      let kept = kept_of handles id s v at vo rule_holds in
      let b : View E = with_other v w in
      let r : View E = newcomer 0 in
      let one : List (View E) = set s.views id b in
      let at_old : get_elem? s.views other ≡ some w = sym (set_else s.views id other b apart_ids) ∙ at_other in
      let held : sum_by (λ (u : View E). holds_number u) one + holds_number v ≡ sum_by (λ (u : View E). holds_number u) s.views + holds_number v = sum_set (λ (u : View E). holds_number u) s.views id v b at in
      let held_more : sum_by (λ (u : View E). holds_number u) (set one other r) + holds_number w ≡ sum_by (λ (u : View E). holds_number u) one + 0 = sum_set (λ (u : View E). holds_number u) one other w r at_other in
      let none_w : holds_number w ≡ 0 = ap (λ o. if is_some o then 1 else 0) wn in
      let shares : sum_by (λ (u : View E). u.allowance) one + v.allowance ≡ sum_by (λ (u : View E). u.allowance) s.views + (v.allowance + w.allowance) = sum_set (λ (u : View E). u.allowance) s.views id v b at in
      let shares_more : sum_by (λ (u : View E). u.allowance) (set one other r) + w.allowance ≡ sum_by (λ (u : View E). u.allowance) one + 0 = sum_set (λ (u : View E). u.allowance) one other w r at_other in
      let knows_b : Holds kept.serving kept.waiting kept.before kept.room kept.start kept.now b = record { knows = knows_other kept.start kept.now v w vo (kept.each id v at).knows (kept.each other w at_old).knows; room_is = (kept.each id v at).room_is; number = λ k e. absurd (none_some (sym vn ∙ e)); served = λ y e. absurd (none_some (sym vb ∙ e)) } in
      let knows_r : Holds kept.serving kept.waiting kept.before kept.room kept.start kept.now r = record { knows = knows_spent kept.start kept.now; room_is = λ e. absurd (none_some e); number = λ k e. absurd (none_some e); served = λ y e. absurd (none_some e) } in
      let apart_one = apart_set s.views id b kept.apart (λ l y m ne at_l g h. none_some (sym vn ∙ h)) in
      let slot_one = slot_set kept.start kept.now kept.room s s.words id v b at vb vb kept.slot in
      inr (record {
        serving = kept.serving;
        waiting = kept.waiting;
        now = kept.now;
        start = kept.start;
        before = kept.before;
        room = kept.room;
        words = kept.words;
        few = kept.few;
        each = λ j u at_j. ⊎_elim (λ t. subst (Holds kept.serving kept.waiting kept.before kept.room kept.start kept.now) t.1 knows_r) (λ t. ⊎_elim (λ a. subst (Holds kept.serving kept.waiting kept.before kept.room kept.start kept.now) a.1 knows_b) (λ a. kept.each j u a.1) (at_set s.views id j b u t.1)) (at_set one other j r u at_j);
        apart = apart_set one other r apart_one (λ l y m ne at_l g h. none_some h);
        held = omega (arith, kept.held);
        shares = omega (arith, kept.shares);
        accounts = accounts_join kept.start kept.now s.views id other v w b r at apart_ids at_other refl refl refl refl nothing kept.accounts;
        rooms = rooms_join kept.before kept.room s.views id other v w b r at at_other refl refl nothing kept.rooms;
        slot = slot_set kept.start kept.now kept.room (record { words = s.words; homes = s.homes; views = one }) s.words other w r at_other wb refl slot_one;
      })

  -- with every allowance in one seat that rests, no other seat has anything
  module _ (handles id : ℕ) (s : State (Option T) (View E)) (v : View E) (kept : Running stand_of reached room_of handles s) (at : get_elem? s.views id ≡ some v) (all_of : v.allowance ≡ handles) where
    no_other_share : (j : ℕ) (u : View E) → get_elem? s.views j ≡ some u → id ≢ j → u.allowance ≡ 0
    no_other_share j u at_j differs = omega (arith, two_below (λ (y : View E). y.allowance) s.views id j v u at at_j differs, kept.shares, all_of)

    home_at_end : v.number ≡ None → AtHome stand_of reached room_of kept.start kept.now kept.room s
    home_at_end none_held = ⊎_elim (λ home. home) (λ away. let (j, u, gone, at_j, base) = away in
        let served = (kept.each j u at_j).served kept.now base in
        let share = (kept.each j u at_j).number kept.serving served.0 in
        let differs : id ≢ j = λ same. none_some (sym none_held ∙ (ap (λ (y : View E). y.number) (some-injective v u (sym at ∙ (ap (get_elem? s.views) same ∙ at_j))) ∙ served.0)) in
        absurd (omega (arith, no_other_share j u at_j differs, share.2))) kept.slot

    left_at_end : (entry : ℕ × E) → LeftBy s.views entry → Contains v.left entry
    left_at_end entry (j, u, at_j, has) =
        dite (ℕ_discrete id j)
        (λ (same : id ≡ j). subst (λ (x : View E). Contains x.left entry) (some-injective u v (sym at_j ∙ (ap (get_elem? s.views) (sym same) ∙ at))) has)
        (λ (differs : ¬ (id ≡ j)). absurd (contains_none u.left entry ((kept.each j u at_j).knows.nothing (no_other_share j u at_j differs)).left has))

    alone : flat_map (λ (u : View E). entries u) s.views ≡ entries v
    alone = flat_alone (λ (u : View E). entries u) s.views id v at
        (λ j u at_j differs. let none = (kept.each j u at_j).knows.nothing (no_other_share j u at_j differs) in ap₂ (λ l m. l ++ m) none.mine none.settled)

    faults_alone : sum_by (λ (u : View E). u.faults) s.views ≡ v.faults
    faults_alone = sum_alone (λ (u : View E). u.faults) s.views id v at (λ j u at_j differs. ((kept.each j u at_j).knows.nothing (no_other_share j u at_j differs)).faults)

    wants_alone : sum_by (λ (u : View E). u.wants) s.views ≡ v.wants
    wants_alone = sum_alone (λ (u : View E). u.wants) s.views id v at (λ j u at_j differs. ((kept.each j u at_j).knows.nothing (no_other_share j u at_j differs)).wants)

    turns_alone : sum_by (λ (u : View E). u.turns) s.views ≡ v.turns
    turns_alone = sum_alone (λ (u : View E). u.turns) s.views id v at (λ j u at_j differs. ((kept.each j u at_j).knows.nothing (no_other_share j u at_j differs)).turns)

    open_by : IsOpen v → v.opening ≡ Some kept.start
    open_by open_ = ⊎_elim (λ (e : v.opening ≡ Some kept.start). e) (λ h. absurd (none_some (sym h.0 ∙ open_.1))) (kept.each id v at).knows.opening

    opened_by : IsOpen v → opening_of v.opening ≡ kept.start
    opened_by open_ = ap opening_of (open_by open_)

    closes_of : (lock : TableId) → IsOpen v → Closes (known lock v) kept.now
    closes_of lock open_ =
        let mine = (kept.each id v at).knows in
        let start_is : opening_of v.opening ≡ kept.start = opened_by open_ in
        let a = kept.accounts in
        record {
          added = a.added;
          list = subst (λ (y : Snapshot E). kept.now.list ≡ a.added ++ y.list) (sym start_is) a.list;
          once = subst (λ (y : Snapshot E). IsPermutation (numbered (length y.list) a.added) (entries v)) (sym start_is) (subst (IsPermutation (numbered (length kept.start.list) a.added)) alone a.once);
          seen = mine.seen;
          settled = λ entry has. left_at_end entry (a.settled id v entry at has);
          pending = λ entry is. left_at_end (length kept.now.list + 1, entry) (a.pending entry is);
          faults = subst (λ (y : Snapshot E). RoseBy v.faults y.faults kept.now.faults) (sym start_is) (subst (λ n. RoseBy n kept.start.faults kept.now.faults) faults_alone a.faults);
          still = λ calm. a.still (faults_alone ∙ calm) ∙ ap (λ (y : Snapshot E). y.faults) (sym start_is);
          fixed = a.fixed ∙ ap (λ (y : Snapshot E). y.fixed) (sym start_is);
          memory = λ some_want. let all = kept.rooms.wanted (omega (arith, wants_alone, some_want)) in omega (arith, wants_alone, turns_alone, (kept.each id v at).room_is (open_by open_), all);
        }

  -- what is taken out at the end
  pub closed_state : (handles id : ℕ) (me : Me (Option T) (View E)) (ws : List ℕ) (xs : List (Option T)) (lock : TableId) → Final (Seen (LockRule stand_of reached room_of handles) id me.0) ws xs → IsIdle me → me.0.allowance ≡ handles
      → (st : Option T) → get_elem? xs 0 ≡ some st → (x : T) × (st ≡ Some x) × Closes (known lock me.0) (stand_of x) × reached (opening_of me.0.opening) x
  closed_state handles id (v, carried) ws xs lock (s, seen, words, long, kept_homes) idle all_of st there =
      let kept = kept_of handles id s v seen.1 idle.0.2 seen.0 in
      let (x, at_home, is, come, room_is, none_served) = home_at_end handles id s v kept seen.1 all_of idle.0.0 in (
        x,
        some-injective st (Some x) (sym there ∙ kept_homes 0 (Some x) at_home),
        subst (Closes (known lock v)) (sym is) (closes_of handles id s v kept seen.1 all_of lock idle.0.2),
        subst (λ (y : Snapshot E). reached y x) (sym (opened_by handles id s v kept seen.1 all_of idle.0.2)) come,
      )

  -- a whole turn: the seat draws, is served, has the state take its turn, and ends
  module _ (own : Option E) (says : Says) (wants : ℕ) (Meets : Snapshot E → Snapshot E → Type 0) where
    abbrev Drawn : Me (Option T) (View E) → Me (Option T) (View E) → ℕ → Type 0
    Drawn m0 m1 found = (k : ℕ) × (found ≡ k % 2 ^ 64) × (m1 ≡ (record m0.0 { number = Some k }, []))

    abbrev TurnedTo : Me (Option T) (View E) → Me (Option T) (View E) → Type 0
    TurnedTo m2 m3 = (x : T) → m2.1 ≡ (0, Some x) ∷ [] → (y : T) × HasGone own says (stand_of x) (stand_of y) × Meets (stand_of x) (stand_of y) × ((start : Snapshot E) → reached start x → reached start y) × TakesRoom wants (room_of x) (room_of y) × (m3.1 ≡ (0, Some y) ∷ [])

    pub done_of : (m0 m1 m2 m3 : Me (Option T) (View E)) (found : ℕ) → IsIdle m0 → Drawn m0 m1 found → IsServedAfter stand_of reached room_of m1 m2 → m3.0 ≡ m2.0 → TurnedTo m2 m3
        → (y : T) × (b : Snapshot E) × IsDone stand_of reached room_of (faults_in says) wants y b m3
    done_of m0 m1 m2 m3 found idle (k, low, is1) (x, pre, there, is2) same turned =
        let (y, gone, relation, reaches, took, has) = turned x (ap (λ (m : Me (Option T) (View E)). m.1) is2) in
        let view : m3.0 ≡ record m0.0 { number = Some k; base = Some (stand_of x); held = room_of x } =
        same ∙ (ap (λ (m : Me (Option T) (View E)). m.0) is2 ∙ ap (λ (m : Me (Option T) (View E)). record m.0 { base = Some (stand_of x); held = room_of x }) is1) in (
          y,
          stand_of x,
          (k, ap (λ (v : View E). v.number) view, ap (λ (v : View E). v.base) view, (idle.0.2.0, ap (λ (v : View E). v.opening) view ∙ idle.0.2.1), has, λ start e. reaches start (there start (ap (λ (m : Me (Option T) (View E)). m.0.opening) is1 ∙ (sym (ap (λ (v : View E). v.opening) view) ∙ e))), moves_of (stand_of x) (stand_of y) own says gone, subst (λ n. TakesRoom wants n (room_of y)) (sym (ap (λ (v : View E). v.held) view)) took),
        )

    pub whole_turn : (lock : TableId) (m0 m1 m2 m3 m4 : Me (Option T) (View E)) (found : ℕ) → IsIdle m0 → Drawn m0 m1 found → IsServedAfter stand_of reached room_of m1 m2 → m3.0 ≡ m2.0 → TurnedTo m2 m3 → HasEnded stand_of reached room_of (faults_in says) wants m3 m4
        → IsIdle m4 × (m4.0.allowance ≡ m0.0.allowance) × TakesSubmit own says Meets (known lock m0.0) (known lock m4.0) × (m4.0.wants ≡ m0.0.wants + wants)
    whole_turn lock m0 m1 m2 m3 m4 found idle (k, low, is1) (x, pre, there, is2) same turned ended_so =
        let (y, gone, relation, reaches, took, has) = turned x (ap (λ (m : Me (Option T) (View E)). m.1) is2) in
        let view : m3.0 ≡ record m0.0 { number = Some k; base = Some (stand_of x); held = room_of x } =
        same ∙ (ap (λ (m : Me (Option T) (View E)). m.0) is2 ∙ ap (λ (m : Me (Option T) (View E)). record m.0 { base = Some (stand_of x); held = room_of x }) is1) in
        let after : m4 ≡ (after_turn (faults_in says) wants (stand_of x) (stand_of y) m0.0, []) =
        ended_so y (stand_of x) has (ap (λ (v : View E). v.base) view) ∙ ap (λ (v : View E). (after_turn (faults_in says) wants (stand_of x) (stand_of y) v, [])) view in
        let wants_is : m4.0.wants ≡ m0.0.wants + wants = ap (λ (m : Me (Option T) (View E)). m.0.wants) after in
        let earlier : IsOlder m0.0.seen (stand_of x).list = subst (λ (m : Me (Option T) (View E)). IsOlder m.0.seen (stand_of x).list) is1 pre in (
          ((ap (λ (m : Me (Option T) (View E)). m.0.number) after, ap (λ (m : Me (Option T) (View E)). m.0.base) after, (idle.0.2.0, ap (λ (m : Me (Option T) (View E)). m.0.opening) after ∙ idle.0.2.1)), ap (λ (m : Me (Option T) (View E)). m.1) after),
          ap (λ (m : Me (Option T) (View E)). m.0.allowance) after,
          record {
            old = stand_of x;
            new = stand_of y;
            earlier = earlier;
            meets = relation;
            goes = gone.0;
            whole = subst (λ n. known lock m4.0 ≡ record (with_turn gone.0 (known lock m0.0)) { seen = (stand_of y).list; faults = m0.0.faults + faults_in says; wants = n; turns = m0.0.turns + 1 }) (sym wants_is)
                (ap (λ (m : Me (Option T) (View E)). known lock m.0) after ∙ known_after (stand_of x) (stand_of y) lock wants m0.0 own says gone.0);
          },
          wants_is,
        )
