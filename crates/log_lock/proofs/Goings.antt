-- What a turn adds to what its pass has, read off the two stands.
use Rattle.std.proofs.Common.{◌≡◌, ℕ, zero, suc, ◌+◌, ◌≤◌, Bool, true, false, IsTrue, inl, inr, List, [], ◌∷◌, ◌++◌, Option, Some, None, length, refl, sym, ap, ap₂, ◌∙◌, subst, arith, length-append}
use Rattle.std.specs.Prelude.{Contains, IsPermutation}
use Rattle.std.proofs.lemmas.List.{append-nil}
use Rattle.std.proofs.lemmas.List.Sorted.{IsPermutation-refl}
use Rattle.atomic_table.specs.Seated.{TableId}
use Rattle.log_lock.specs.declared.turned.Snapshot.{Snapshot}
use Rattle.log_lock.specs.declared.view.View.{View}
use Rattle.log_lock.specs.Turning.{Says, Goes, stays, stays_pending, settles, fails, admits, leaves, RoseBy, TakesRoom, faults_in, wants_in, with_entry, settled_list}
use Rattle.log_lock.specs.Passes.{Known, IsOlder, numbered, next_of, with_turn}
use Rattle.log_lock.specs.Views.{known, opening_of, newest, growth, own_by, settled_by, left_by, mine_in, settled_in, left_in, after_turn}
use Rattle.log_lock.specs.Rule.{HasGone, Moves, MovesBy}
use Rattle.log_lock.proofs.Lists.{none_some, contains_one, contains_none, contains_first}

-- what a turn takes of the room
pub takes_room : (wants : Bool) (old new : ℕ) → (IsTrue wants → old ≡ 0) → old ≤ new + 1 → TakesRoom (wants_in wants) old new
takes_room true old new none less = let is = none refl in (omega arith, omega (arith, is), λ _. is)
takes_room false old new none less = (omega arith, omega (arith, less), λ some_want. absurd (omega (arith, some_want)))

module _ {E : Type 0} where
  -- the entries that settling adds
  abbrev pub waiting : Option E → List E
  waiting None = []
  waiting (Some entry) = entry ∷ []

  with_waiting : (was : Option E) (list : List E) → with_entry was list ≡ waiting was ++ list
  with_waiting None list = refl
  with_waiting (Some entry) list = refl

  next_numbered : (was : Option E) (list : List E) → numbered (length list) (waiting was) ≡ next_of was list
  next_numbered None list = refl
  next_numbered (Some entry) list = let place : length list + 0 + 1 ≡ length list + 1 = omega arith in ap (λ k. (k, entry) ∷ []) place

  none_own : (n : ℕ) (was : Option E) (list : List E) → n ≡ length (waiting was) → own_by n was list ≡ []
  none_own n None list is = ap (λ k. own_by k None list) is
  none_own n (Some entry) list is = ap (λ k. own_by k (Some entry) list) is

  zero_own : (n : ℕ) (was : Option E) (list : List E) → n ≡ 0 → own_by n was list ≡ []
  zero_own n was list is = ap (λ k. own_by k was list) is

  one_own : (n : ℕ) (was : Option E) (list older : List E) (entry : E) → n ≡ suc (length (waiting was)) → list ≡ entry ∷ older → own_by n was list ≡ (length list, entry) ∷ []
  one_own n was list older entry is list_is =
      let place : length older + 1 ≡ length list = omega (arith, ap length list_is) in
      by_was was is ∙ (ap newest list_is ∙ ap (λ k. (k, entry) ∷ []) place)
    where
      by_was : (bp : Option E) → n ≡ suc (length (waiting bp)) → own_by n bp list ≡ newest list
      by_was None e = ap (λ k. own_by k None list) e
      by_was (Some other) e = ap (λ k. own_by k (Some other) list) e

  zero_settled : (n : ℕ) (was : Option E) (list : List E) → n ≡ 0 → settled_by n was list ≡ []
  zero_settled n was list is = ap (λ k. settled_by k was list) is

  all_settled : (n k : ℕ) (was : Option E) (list : List E) → n ≡ k + length (waiting was) → settled_by n was list ≡ next_of was list
  all_settled zero k None list is = refl
  all_settled (suc n) k None list is = refl
  all_settled zero k (Some entry) list is = absurd (omega (arith, is))
  all_settled (suc n) k (Some entry) list is = refl

  none_left : (n : ℕ) (was pending : Option E) (list : List E) → pending ≡ None → left_by n was pending list ≡ []
  none_left zero None pending list is = ap (λ p. next_of p list) is
  none_left zero (Some entry) pending list is = refl
  none_left (suc n) was pending list is = ap (λ p. next_of p list) is

  same_left : (n : ℕ) (was pending : Option E) (list : List E) → n ≡ 0 → pending ≡ was → left_by n was pending list ≡ []
  same_left zero None pending list zero_is is = ap (λ p. next_of p list) is
  same_left zero (Some entry) pending list zero_is is = refl
  same_left (suc n) was pending list zero_is is = absurd (omega (arith, zero_is))

  one_left : (n : ℕ) (was pending : Option E) (list : List E) (entry : E) → n ≡ length (waiting was) → pending ≡ Some entry → left_by n was pending list ≡ (length list + 1, entry) ∷ []
  one_left zero None pending list entry n_is is = ap (λ p. next_of p list) is
  one_left zero (Some other) pending list entry n_is is = absurd (omega (arith, n_is))
  one_left (suc n) was pending list entry n_is is = ap (λ p. next_of p list) is

  -- what of these the two stands show
  record Shows (old new : Snapshot E) (mine settled left : List (ℕ × E)) : Type 0 where
    mine_is : mine_in old new ≡ mine
    settled_is : settled_in old new ≡ settled
    left_is : left_in old new ≡ left

  module _ (old new : Snapshot E) where
    growth_by : (added : List E) → new.list ≡ added ++ old.list → growth old new ≡ length added
    growth_by added is = omega (arith, ap length is, length-append added old.list)

    unchanged : new.list ≡ old.list → new.pending ≡ old.pending → Shows old new [] [] []
    unchanged list pending = let zero_is = growth_by [] list in record {
      mine_is = zero_own (growth old new) old.pending new.list zero_is;
      settled_is = zero_settled (growth old new) old.pending old.list zero_is;
      left_is = same_left (growth old new) old.pending new.pending new.list zero_is pending;
    }

    settled_all : new.list ≡ settled_list old → new.pending ≡ None → Shows old new [] (next_of old.pending old.list) []
    settled_all list pending = let n_is = growth_by (waiting old.pending) (list ∙ with_waiting old.pending old.list) in record {
      mine_is = none_own (growth old new) old.pending new.list n_is;
      settled_is = all_settled (growth old new) 0 old.pending old.list (omega (arith, n_is));
      left_is = none_left (growth old new) old.pending new.pending new.list pending;
    }

    with_own : (entry : E) → new.list ≡ entry ∷ settled_list old → new.pending ≡ None → Shows old new ((length new.list, entry) ∷ []) (next_of old.pending old.list) []
    with_own entry list pending = let n_is = growth_by (entry ∷ waiting old.pending) (list ∙ ap (λ l. entry ∷ l) (with_waiting old.pending old.list)) in record {
      mine_is = one_own (growth old new) old.pending new.list (settled_list old) entry n_is list;
      settled_is = all_settled (growth old new) 1 old.pending old.list (omega (arith, n_is));
      left_is = none_left (growth old new) old.pending new.pending new.list pending;
    }

    with_left : (entry : E) → new.list ≡ settled_list old → new.pending ≡ Some entry → Shows old new [] (next_of old.pending old.list) ((length new.list + 1, entry) ∷ [])
    with_left entry list pending = let n_is = growth_by (waiting old.pending) (list ∙ with_waiting old.pending old.list) in record {
      mine_is = none_own (growth old new) old.pending new.list n_is;
      settled_is = all_settled (growth old new) 0 old.pending old.list (omega (arith, n_is));
      left_is = one_left (growth old new) old.pending new.pending new.list entry n_is pending;
    }

    next_place : (was : Option E) (list : List E) (entry : ℕ × E) → Contains (next_of was list) entry → (was ≡ Some entry.1) × (entry.0 ≡ length list + 1)
    next_place None list entry has = absurd (contains_none [] entry refl has)
    next_place (Some other) list entry has = let is = contains_one (length list + 1, other) entry has in (ap (λ (e : ℕ × E). Some e.1) is, sym (ap (λ (e : ℕ × E). e.0) is))

    moves : (faults : ℕ) (mine settled left : List (ℕ × E)) → Shows old new mine settled left → Moves old new mine settled left faults → MovesBy faults old new
    moves faults mine settled left shows m =
        subst (λ a. Moves old new a (settled_in old new) (left_in old new) faults) (sym shows.mine_is)
        (subst (λ a. Moves old new mine a (left_in old new) faults) (sym shows.settled_is)
        (subst (λ a. Moves old new mine settled a faults) (sym shows.left_is) m))

    module _ (faults : ℕ) (rose : RoseBy faults old.faults new.faults) (still : faults ≡ 0 → new.faults ≡ old.faults) (fixed : new.fixed ≡ old.fixed) where
      moves_nothing : new.list ≡ old.list → new.pending ≡ old.pending → Moves old new [] [] [] faults
      moves_nothing list pending = record {
        added = [];
        list = list;
        once = IsPermutation-refl [];
        earlier = λ entry has. absurd (contains_none [] entry refl has);
        pending = λ entry is. inr (sym pending ∙ is, list);
        rose = rose;
        still = still;
        fixed = fixed;
      }

      moves_settled : (left : List (ℕ × E)) → new.list ≡ settled_list old → ((entry : E) → new.pending ≡ Some entry → Contains left (length new.list + 1, entry)) → Moves old new [] (next_of old.pending old.list) left faults
      moves_settled left list pending = record {
        added = waiting old.pending;
        list = list ∙ with_waiting old.pending old.list;
        once = subst (λ l. IsPermutation l (next_of old.pending old.list)) (sym (next_numbered old.pending old.list)) (IsPermutation-refl (next_of old.pending old.list));
        earlier = next_place old.pending old.list;
        pending = λ entry is. inl (pending entry is);
        rose = rose;
        still = still;
        fixed = fixed;
      }

      moves_own : (entry : E) → new.list ≡ entry ∷ settled_list old → new.pending ≡ None → Moves old new ((length new.list, entry) ∷ []) (next_of old.pending old.list) [] faults
      moves_own entry list pending =
          let list_is : new.list ≡ entry ∷ (waiting old.pending ++ old.list) = list ∙ ap (λ l. entry ∷ l) (with_waiting old.pending old.list) in
          let place : length old.list + length (waiting old.pending) + 1 ≡ length new.list = omega (arith, ap length list_is, length-append (waiting old.pending) old.list) in
          record {
            added = entry ∷ waiting old.pending;
            list = list_is;
            once = subst (λ l. IsPermutation l ((length new.list, entry) ∷ next_of old.pending old.list)) (sym (ap₂ (λ k l. (k, entry) ∷ l) place (next_numbered old.pending old.list))) (IsPermutation-refl ((length new.list, entry) ∷ next_of old.pending old.list));
            earlier = next_place old.pending old.list;
            pending = λ other is. absurd (none_some (sym pending ∙ is));
            rose = rose;
            still = still;
            fixed = fixed;
          }

      moves_by : (own : Option E) (says : Says) → Goes own old says new → MovesBy faults old new
      moves_by own says (stays list pending is) = moves faults [] [] [] (unchanged list pending) (moves_nothing list pending)
      moves_by own says (stays_pending entry was list pending is) = moves faults [] [] [] (unchanged list (pending ∙ sym was)) (moves_nothing list (pending ∙ sym was))
      moves_by own says (settles list pending is) = moves faults [] (next_of old.pending old.list) [] (settled_all list pending) (moves_settled [] list (λ entry e. absurd (none_some (sym pending ∙ e))))
      moves_by own says (fails list pending is) = moves faults [] (next_of old.pending old.list) [] (settled_all list pending) (moves_settled [] list (λ entry e. absurd (none_some (sym pending ∙ e))))
      moves_by own says (admits entry own_is list pending is) = moves faults ((length new.list, entry) ∷ []) (next_of old.pending old.list) [] (with_own entry list pending) (moves_own entry list pending)
      moves_by own says (leaves entry own_is list pending is) =
          let left : List (ℕ × E) = (length new.list + 1, entry) ∷ [] in
          moves faults [] (next_of old.pending old.list) left (with_left entry list pending)
          (moves_settled left list (λ other e. let same : entry ≡ other = cc in subst (λ x. Contains left (length new.list + 1, x)) same (contains_first (length new.list + 1, entry) [])))

    -- the list only grows
    pub older_by : (own : Option E) (says : Says) → Goes own old says new → IsOlder old.list new.list
    older_by own says (stays list pending is) = ([], list)
    older_by own says (stays_pending entry was list pending is) = ([], list)
    older_by own says (settles list pending is) = (waiting old.pending, list ∙ with_waiting old.pending old.list)
    older_by own says (fails list pending is) = (waiting old.pending, list ∙ with_waiting old.pending old.list)
    older_by own says (admits entry own_is list pending is) = (entry ∷ waiting old.pending, list ∙ ap (λ l. entry ∷ l) (with_waiting old.pending old.list))
    older_by own says (leaves entry own_is list pending is) = (waiting old.pending, list ∙ with_waiting old.pending old.list)

    pub moves_of : (own : Option E) (says : Says) → HasGone own says old new → MovesBy (faults_in says) old new
    moves_of own says gone = moves_by (faults_in says) gone.1 gone.2 gone.3 own says gone.0

    module _ (lock : TableId) (wants : ℕ) (v : View E) where
      abbrev build : ℕ → List (ℕ × E) → List (ℕ × E) → List (ℕ × E) → Known E
      build n mine settled left = record { lock = lock; allowance = v.allowance; opening = opening_of v.opening; room = v.room; seen = new.list; mine = mine; settled = settled; left = left; faults = v.faults + n; wants = v.wants + wants; turns = v.turns + 1 }

      built : (n : ℕ) (mine mine' settled settled' left left' : List (ℕ × E)) → mine ≡ mine' → settled ≡ settled' → left ≡ left' → build n mine settled left ≡ build n mine' settled' left'
      built n mine mine' settled settled' left left' a b c =
          ap (λ m. build n m settled left) a ∙ (ap (λ s. build n mine' s left) b ∙ ap (λ l. build n mine' settled' l) c)

      none_more : (l m : List (ℕ × E)) → m ≡ [] → l ++ m ≡ l
      none_more l m is = ap (λ k. l ++ k) is ∙ append-nil l

      more : (l m k : List (ℕ × E)) → m ≡ k → l ++ m ≡ l ++ k
      more l m k is = ap (λ j. l ++ j) is

      -- what the pass knows after the turn
      pub known_after : (own : Option E) (says : Says) (goes : Goes own old says new)
          → known lock (after_turn (faults_in says) wants old new v) ≡ record (with_turn goes (known lock v)) { seen = new.list; faults = v.faults + faults_in says; wants = v.wants + wants; turns = v.turns + 1 }
      known_after own says (stays list pending is) =
          let shows = unchanged list pending in
          built (faults_in says) _ _ _ _ _ _ (none_more v.mine (mine_in old new) shows.mine_is) (none_more v.settled (settled_in old new) shows.settled_is) (none_more v.left (left_in old new) shows.left_is)
      known_after own says (stays_pending entry was list pending is) =
          let shows = unchanged list (pending ∙ sym was) in
          built (faults_in says) _ _ _ _ _ _ (none_more v.mine (mine_in old new) shows.mine_is) (none_more v.settled (settled_in old new) shows.settled_is) (none_more v.left (left_in old new) shows.left_is)
      known_after own says (settles list pending is) =
          let shows = settled_all list pending in
          built (faults_in says) _ _ _ _ _ _ (none_more v.mine (mine_in old new) shows.mine_is) (more v.settled (settled_in old new) _ shows.settled_is) (none_more v.left (left_in old new) shows.left_is)
      known_after own says (fails list pending is) =
          let shows = settled_all list pending in
          built (faults_in says) _ _ _ _ _ _ (none_more v.mine (mine_in old new) shows.mine_is) (more v.settled (settled_in old new) _ shows.settled_is) (none_more v.left (left_in old new) shows.left_is)
      known_after own says (admits entry own_is list pending is) =
          let shows = with_own entry list pending in
          built (faults_in says) _ _ _ _ _ _ (more v.mine (mine_in old new) _ shows.mine_is) (more v.settled (settled_in old new) _ shows.settled_is) (none_more v.left (left_in old new) shows.left_is)
      known_after own says (leaves entry own_is list pending is) =
          let shows = with_left entry list pending in
          built (faults_in says) _ _ _ _ _ _ (none_more v.mine (mine_in old new) shows.mine_is) (more v.settled (settled_in old new) _ shows.settled_is) (more v.left (left_in old new) _ shows.left_is)
