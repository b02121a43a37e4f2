-- Passes are handed to desks and gathered again, one after the other.
use Rattle.std.proofs.Common.{◌≡◌, ℕ, zero, suc, ◌+◌, ◌<◌, ◌≤◌, List, [], ◌∷◌, ◌++◌, Some, length, set, get_or, take, refl, sym, ap, ap₂, ◌∙◌, subst, arith, length-set, get_or-set_same, get_or-set_other}
use Rattle.std.specs.Prelude.{Contains, IsPermutation}
use Rattle.std.specs.List.{flat_map, sum_by}
use Rattle.std.proofs.lemmas.List.{append-nil, take_more}
use Rattle.std.proofs.lemmas.Grind.{flat_map-append}
use Rattle.std.proofs.lemmas.List.Sums.{sum_by-append}
use Rattle.std.proofs.lemmas.List.Elements.{All-nil, All-cons, All-append, All-weaker}
use mathlib.Core.Logic.{dite}
use native.Mathlib.Decide.{ℕ_discrete}
use Rattle.atomic_table.specs.Seated.{TableId}
use Rattle.log_lock.specs.declared.turned.Snapshot.{Snapshot}
use Rattle.log_lock.specs.Turning.{RoseBy}
use Rattle.log_lock.specs.Passes.{Known, IsOlder, Closes, numbered}
use Rattle.log_lock.proofs.Lists.{older_trans}
use Rattle.log_machine.specs.declared.names.Filed.{Filed}
use Rattle.log_desks.specs.declared.stop.DeskEnd.TheVariants.{Open}
use Rattle.log_desks.specs.Desks.{DeskView, IsFresh, IsReady, Gathers, IsJoined, Ran, mine_in, settled_in, left_in, faults_in, seen_in}

module _ {X : Type 0} (P : X → Type 0) (xs : List X) (i : ℕ) (new : X) where
  -- it holds of those before i, and of the one at i
  pub more_behind : i < length xs → P new → ((k : ℕ) (d : X) → k < i → P (get_or xs k d)) → (k : ℕ) (d : X) → k < i + 1 → P (get_or (set xs i new) k d)
  more_behind lt is before k d below =
      dite (ℕ_discrete k i)
      (λ (e : k ≡ i). subst P (sym (ap (λ n. get_or (set xs i new) n d) e ∙ get_or-set_same xs i new d lt)) is)
      (λ (ne : ¬ (k ≡ i)). subst P (sym (get_or-set_other xs i k new d ne)) (before k d (omega (arith, below))))

  -- it holds of those from i on, and so of those past i
  pub fewer_ahead : ((k : ℕ) (d : X) → i ≤ k → k < length xs → P (get_or xs k d)) → (k : ℕ) (d : X) → i + 1 ≤ k → k < length (set xs i new) → P (get_or (set xs i new) k d)
  fewer_ahead ahead k d le lt = subst P (sym (get_or-set_other xs i k new d (λ (e : k ≡ i). omega (arith, le, e)))) (ahead k d (omega (arith, le)) (omega (arith, lt, length-set xs i new)))

flat_push : {X A : Type 0} (f : X → List A) (xs : List X) (y : X) (all more : List A) → all ≡ flat_map f xs → more ≡ all ++ f y → more ≡ flat_map f (xs ++ y ∷ [])
flat_push f xs y all more is then = then ∙ (ap (λ l. l ++ f y) is ∙ (ap (λ l. flat_map f xs ++ l) (sym (append-nil (f y))) ∙ sym (flat_map-append f xs (y ∷ []))))

sum_push : {X : Type 0} (f : X → ℕ) (xs : List X) (y : X) (all more : ℕ) → all ≡ sum_by f xs → more ≡ all + f y → more ≡ sum_by f (xs ++ y ∷ [])
sum_push f xs y all more is then = then ∙ (ap (λ n. n + f y) is ∙ (let one : sum_by f xs + f y ≡ sum_by f xs + sum_by f (y ∷ []) = ap (λ n. sum_by f xs + n) (let same : f y ≡ 0 + f y = omega arith in same) in one ∙ sym (sum_by-append f xs (y ∷ []))))

module _ {Entry Lines : Type 0} (lock : TableId) (opening : Snapshot (Filed Entry)) where
  -- before the first desk
  pub gathers_none : (handle : Known (Filed Entry)) → IsFresh lock opening handle → Gathers {Lines = Lines} lock opening handle []
  gathers_none handle fresh = record {
    lock_is = fresh.lock_is;
    opening_is = fresh.opening_is;
    mine = fresh.mine;
    settled = fresh.settled;
    left = fresh.left;
    faults = fresh.faults;
    seen = All-nil (λ (d : DeskView Entry Lines). IsOlder (seen_in d.handle) handle.seen);
  }

  pub gathers_push : (handle after : Known (Filed Entry)) (desks : List (DeskView Entry Lines)) (desk : DeskView Entry Lines) → Gathers lock opening handle desks → IsJoined handle after desk.handle → Gathers lock opening after (desks ++ desk ∷ [])
  gathers_push handle after desks desk g j =
      let newer : DeskView Entry Lines → Type 0 = λ (d : DeskView Entry Lines). IsOlder (seen_in d.handle) after.seen in
      record {
        lock_is = j.lock_is ∙ g.lock_is;
        opening_is = j.opening_is ∙ g.opening_is;
        mine = flat_push (λ (d : DeskView Entry Lines). mine_in d.handle) desks desk handle.mine after.mine g.mine j.mine;
        settled = flat_push (λ (d : DeskView Entry Lines). settled_in d.handle) desks desk handle.settled after.settled g.settled j.settled;
        left = flat_push (λ (d : DeskView Entry Lines). left_in d.handle) desks desk handle.left after.left g.left j.left;
        faults = sum_push (λ (d : DeskView Entry Lines). faults_in d.handle) desks desk handle.faults after.faults g.faults j.faults;
        seen = All-append newer desks (desk ∷ []) (All-weaker (λ (d : DeskView Entry Lines). IsOlder (seen_in d.handle) handle.seen) newer (λ d older. older_trans (seen_in d.handle) handle.seen after.seen older j.earlier) desks g.seen)
            (All-cons newer desk [] j.seen (All-nil newer));
      }

  pub gathers_more : (handle after : Known (Filed Entry)) (desks : List (DeskView Entry Lines)) (i : ℕ) (desk : DeskView Entry Lines) → i < length desks → get_or desks i desk ≡ desk → Gathers lock opening handle (take i desks) → IsJoined handle after desk.handle
      → Gathers lock opening after (take (i + 1) desks)
  gathers_more handle after desks i desk lt is g j =
      subst (Gathers lock opening after) (sym (take_more desks i desk lt ∙ ap (λ (d : DeskView Entry Lines). take i desks ++ d ∷ []) is)) (gathers_push handle after (take i desks) desk g j)

  -- the lock was closed by the pass that has all
  pub ran : (handle : Known (Filed Entry)) (desks : List (DeskView Entry Lines)) (closed : Snapshot (Filed Entry)) → Gathers lock opening handle desks → Closes handle closed → Ran opening closed desks
  ran handle desks closed g c = record {
    added = c.added;
    list = c.list ∙ ap (λ (s : Snapshot (Filed Entry)). c.added ++ s.list) g.opening_is;
    once = subst (λ l. IsPermutation (numbered (length opening.list) c.added) l) (ap₂ (λ l m. l ++ m) g.mine g.settled)
        (subst (λ (s : Snapshot (Filed Entry)). IsPermutation (numbered (length s.list) c.added) (handle.mine ++ handle.settled)) g.opening_is c.once);
    settled = λ entry has. subst (λ l. Contains l entry) g.left (c.settled entry (subst (λ l. Contains l entry) (sym g.settled) has));
    pending = λ entry is. subst (λ l. Contains l (length closed.list + 1, entry)) g.left (c.pending entry is);
    seen = All-weaker (λ (d : DeskView Entry Lines). IsOlder (seen_in d.handle) handle.seen) (λ (d : DeskView Entry Lines). IsOlder (seen_in d.handle) closed.list) (λ d older. older_trans (seen_in d.handle) handle.seen closed.list older c.seen) desks g.seen;
    faults = subst (λ n. RoseBy n opening.faults closed.faults) g.faults (subst (λ (s : Snapshot (Filed Entry)). RoseBy handle.faults s.faults closed.faults) g.opening_is c.faults);
    still = λ none. c.still (g.faults ∙ none) ∙ ap (λ (s : Snapshot (Filed Entry)). s.faults) g.opening_is;
    fixed = c.fixed ∙ ap (λ (s : Snapshot (Filed Entry)). s.fixed) g.opening_is;
  }

module _ {Entry : Type 0} (lock : TableId) where
  -- a part of a pass that knows nothing but the opening list is such a pass too
  pub fresh_part : (opening : Snapshot (Filed Entry)) (first part : Known (Filed Entry)) (share : ℕ) → IsFresh lock opening first → part ≡ record first { allowance = share; mine = []; settled = []; left = []; faults = 0; wants = 0; turns = 0 } → IsFresh lock opening part
  fresh_part opening first part share fresh is =
      subst (IsFresh lock opening) (sym is) (record { lock_is = fresh.lock_is; opening_is = fresh.opening_is; seen = fresh.seen; mine = refl; settled = refl; left = refl; faults = refl; wants = refl; turns = refl })

  -- the desk that gets it is ready
  pub ready_of : {Lines : Type 0} (opening : Snapshot (Filed Entry)) (first part : Known (Filed Entry)) (old new : DeskView Entry Lines) → IsFresh lock opening first → part ≡ record first { allowance = 1; mine = []; settled = []; left = []; faults = 0; wants = 0; turns = 0 }
      → new ≡ record old { handle = Some part } → old.ended ≡ Open → IsReady lock opening new
  ready_of {Lines} opening first part old new fresh is given begun =
      (part, ap (λ (d : DeskView Entry Lines). d.handle) given, fresh_part opening first part 1 fresh is, ap (λ (k : Known (Filed Entry)). k.allowance) is, ap (λ (d : DeskView Entry Lines). d.ended) given ∙ begun)

module _ {X : Type 0} (xs was : List X) (i : ℕ) (new : X) where
  -- those past i are still as they were
  pub still_ahead : ((k : ℕ) (d : X) → i ≤ k → get_or xs k d ≡ get_or was k d) → (k : ℕ) (d : X) → i + 1 ≤ k → get_or (set xs i new) k d ≡ get_or was k d
  still_ahead still k d le = get_or-set_other xs i k new d (λ (e : k ≡ i). omega (arith, le, e)) ∙ still k d (omega (arith, le))

-- an element that stands at i is found whatever stands in for those past the end
pub get_or_self : {X : Type 0} (xs : List X) (i : ℕ) (d : X) → i < length xs → get_or xs i (get_or xs i d) ≡ get_or xs i d
get_or_self [] i d lt = absurd (omega (arith, lt))
get_or_self (x ∷ xs) zero d lt = refl
get_or_self (x ∷ xs) (suc i) d lt = get_or_self xs i d (omega (arith, lt))
