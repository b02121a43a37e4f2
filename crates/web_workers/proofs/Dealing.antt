-- Desks get their passes, one after the other.
use Rattle.std.proofs.Common.{◌≡◌, ℕ, zero, suc, ◌+◌, ◌<◌, List, [], ◌∷◌, length, refl, set, get_or, sym, subst, arith, get_or-set_same, get_or-set_other}
use mathlib.Core.Logic.{dite}
use native.Mathlib.Decide.{ℕ_discrete}
use Rattle.atomic_table.specs.Seated.{TableId}
use Rattle.log_lock.specs.declared.turned.Snapshot.{Snapshot}
use Rattle.log_machine.specs.declared.names.Filed.{Filed}
use Rattle.web_workers.specs.Workers.{AreReady, IsReady, WorkerView}

-- what stands at a place doesn't hang on what stands in for those past the end
pub get_or_any : {X : Type 0} (xs : List X) (i : ℕ) (d e : X) → i < length xs → get_or xs i d ≡ get_or xs i e
get_or_any [] i d e lt = absurd (omega (arith, lt))
get_or_any (x ∷ xs) zero d e lt = refl
get_or_any (x ∷ xs) (suc i) d e lt = get_or_any xs i d e (omega (arith, lt))

module _ {Entry P : Type 0} (lock : TableId) (opening : Snapshot (Filed Entry)) (was now : List (WorkerView Entry P)) (i : ℕ) (old new : WorkerView Entry P) where
  -- one worker more
  pub ready_more : i < length now → AreReady lock opening i was now → ((d : WorkerView Entry P) → get_or was i d ≡ old) → IsReady lock opening (i + 1) old new → AreReady lock opening (i + 1) was (set now i new)
  ready_more lt ready here is k d below =
      dite (ℕ_discrete k i)
      (λ (e : k ≡ i).
      subst (λ (n : ℕ). IsReady lock opening (n + 1) (get_or was n d) (get_or (set now i new) n d)) (sym e)
      (subst (λ w. IsReady lock opening (i + 1) w (get_or (set now i new) i d)) (sym (here d)) (subst (λ w. IsReady lock opening (i + 1) old w) (sym (get_or-set_same now i new d lt)) is)))
      (λ (ne : ¬ (k ≡ i)). subst (λ w. IsReady lock opening (k + 1) (get_or was k d) w) (sym (get_or-set_other now i k new d ne)) (ready k d (omega (arith, below))))
