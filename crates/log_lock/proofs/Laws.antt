-- What callers show of turns and of the closed list.
use Rattle.std.proofs.Common.{◌≡◌, ◌⊎◌, inl, inr, ⊎_elim, ℕ, ◌+◌, ◌<◌, ◌≤◌, List, [], ◌∷◌, ◌++◌, Option, Some, None, length, refl, sym, ap, ◌∙◌, subst, arith, length-append}
use Rattle.std.specs.Prelude.{Contains}
use Rattle.std.specs.List.{All}
use Rattle.std.proofs.lemmas.List.{append-nil}
use Rattle.std.proofs.lemmas.List.Elements.{All-nil, All-cons, All-weaker, All-contains, All-contains_itself, Contains-append_right, Contains-push_cases}
use Rattle.std.proofs.lemmas.List.Sorted.{All-permutation, IsPermutation-sym}
use mathlib.Core.Logic.{dite}
use native.Mathlib.Decide.{ℕ_discrete}
use Rattle.log_lock.specs.declared.turned.Snapshot.{Snapshot}
use Rattle.log_lock.specs.Turning.{Says, Admitted, Undecided, Failed, Nothing, Goes, stays, stays_pending, settles, fails, admits, leaves}
use Rattle.log_lock.specs.Passes.{Known, StandsAt, numbered, with_turn, TakesSubmit, Closes}
use Rattle.log_lock.proofs.Lists.{contains_first}

module _ {E : Type 0} where
  numbered_stand : (opening added : List E) → All (StandsAt (added ++ opening)) (numbered (length opening) added)
  numbered_stand opening [] = All-nil (StandsAt opening)
  numbered_stand opening (x ∷ added) =
      All-cons (StandsAt (x ∷ (added ++ opening))) (length opening + length added + 1, x) (numbered (length opening) added)
      (record { newer = []; older = added ++ opening; whole = refl; position = omega (arith, length-append added opening) })
      (All-weaker (StandsAt (added ++ opening)) (StandsAt (x ∷ (added ++ opening))) (λ entry at. record { newer = x ∷ at.newer; older = at.older; whole = ap (λ l. x ∷ l) at.whole; position = at.position })
      (numbered (length opening) added) (numbered_stand opening added))

  -- what was admitted and settled stands in the closed list, at its position
  pub stands_of : (handle : Known E) (new : Snapshot E) → Closes handle new → (entry : ℕ × E) → Contains (handle.mine ++ handle.settled) entry → StandsAt new.list entry
  stands_of handle new closes entry has =
      subst (λ l. StandsAt l entry) (sym closes.list)
      (All-contains (StandsAt (closes.added ++ handle.opening.list)) (handle.mine ++ handle.settled) entry
      (All-permutation (StandsAt (closes.added ++ handle.opening.list)) (numbered (length handle.opening.list) closes.added) (handle.mine ++ handle.settled) closes.once (numbered_stand handle.opening.list closes.added)) has)

  has_number : (n : ℕ) (added : List E) (p : ℕ) → n < p → p ≤ n + length added → (entry : E) × Contains (numbered n added) (p, entry)
  has_number n [] p low high = absurd (omega (arith, low, high))
  has_number n (x ∷ added) p low high =
      dite (ℕ_discrete (n + length added + 1) p)
      (λ (same : n + length added + 1 ≡ p). (x, subst (λ q. Contains ((n + length added + 1, x) ∷ numbered n added) (q, x)) same (contains_first (n + length added + 1, x) (numbered n added))))
      (λ (other : ¬ (n + length added + 1 ≡ p)). let (entry, has) = has_number n added p low (omega (arith, high, other)) in
      (entry, Contains-append_right ((n + length added + 1, x) ∷ []) (numbered n added) (p, entry) has))

  -- each position past the opening list is one of what was admitted and settled
  pub covers : (handle : Known E) (new : Snapshot E) → Closes handle new → (p : ℕ) → length handle.opening.list < p → p ≤ length new.list → (entry : E) × Contains (handle.mine ++ handle.settled) (p, entry)
  covers handle new closes p low high =
      let len : length new.list ≡ length closes.added + length handle.opening.list = ap length closes.list ∙ length-append closes.added handle.opening.list in
      let (entry, has) = has_number (length handle.opening.list) closes.added p low (omega (arith, high, len)) in
      let back = IsPermutation-sym (numbered (length handle.opening.list) closes.added) (handle.mine ++ handle.settled) closes.once in (
        entry,
        All-contains (Contains (handle.mine ++ handle.settled)) (numbered (length handle.opening.list) closes.added) (p, entry)
            (All-permutation (Contains (handle.mine ++ handle.settled)) (handle.mine ++ handle.settled) (numbered (length handle.opening.list) closes.added) back (All-contains_itself (handle.mine ++ handle.settled))) has,
      )

  -- what a reply says was admitted of the ask's own
  abbrev pub admitted_by : Option E → Says → List (ℕ × E)
  admitted_by None says = []
  admitted_by (Some entry) (Admitted position) = (position, entry) ∷ []
  admitted_by (Some entry) (Undecided position) = []
  admitted_by (Some entry) Failed = []
  admitted_by (Some entry) Nothing = []

  none_admitted : (own : Option E) (says : Says) → ((position : ℕ) → says ≡ Admitted position → ⊥) → admitted_by own says ≡ []
  none_admitted None says differs = refl
  none_admitted (Some entry) (Admitted position) differs = absurd (differs position refl)
  none_admitted (Some entry) (Undecided position) differs = refl
  none_admitted (Some entry) Failed differs = refl
  none_admitted (Some entry) Nothing differs = refl

  module _ (own : Option E) (says : Says) (old new : Snapshot E) (handle : Known E) where
    none_more : admitted_by own says ≡ [] → handle.mine ≡ handle.mine ++ admitted_by own says
    none_more is = sym (ap (λ l. handle.mine ++ l) is ∙ append-nil handle.mine)

    mine_by : (goes : Goes own old says new) → (with_turn goes handle).mine ≡ handle.mine ++ admitted_by own says
    mine_by (stays list pending is) = none_more (none_admitted own says (λ p e. let bad : Nothing ≡ Admitted p = sym is ∙ e in absurd cc))
    mine_by (stays_pending entry was list pending is) = none_more (none_admitted own says (λ p e. let bad : Undecided (length new.list + 1) ≡ Admitted p = sym is ∙ e in absurd cc))
    mine_by (settles list pending is) = none_more (none_admitted own says (λ p e. let bad : Nothing ≡ Admitted p = sym is ∙ e in absurd cc))
    mine_by (fails list pending is) = none_more (none_admitted own says (λ p e. let bad : Failed ≡ Admitted p = sym is ∙ e in absurd cc))
    mine_by (admits entry own_is list pending is) = subst (λ o. handle.mine ++ (length new.list, entry) ∷ [] ≡ handle.mine ++ admitted_by o says) (sym own_is) (subst (λ s. handle.mine ++ (length new.list, entry) ∷ [] ≡ handle.mine ++ admitted_by (Some entry) s) (sym is) refl)
    mine_by (leaves entry own_is list pending is) = none_more (none_admitted own says (λ p e. let bad : Undecided (length new.list + 1) ≡ Admitted p = sym is ∙ e in absurd cc))

    left_by : (goes : Goes own old says new) (entry : ℕ × E) → Contains (with_turn goes handle).left entry → Contains handle.left entry ⊎ ((own ≡ Some entry.1) × (says ≡ Undecided entry.0))
    left_by (stays list pending is) entry has = inl has
    left_by (stays_pending x was list pending is) entry has = inl has
    left_by (settles list pending is) entry has = inl has
    left_by (fails list pending is) entry has = inl has
    left_by (admits x own_is list pending is) entry has = inl has
    left_by (leaves x own_is list pending is) entry has =
        ⊎_elim
        (λ (a : Contains handle.left entry). inl a)
        (λ (same : (length new.list + 1, x) ≡ entry). inr (own_is ∙ ap (λ (y : ℕ × E). Some y.1) same, is ∙ ap (λ (y : ℕ × E). Undecided y.0) same))
        (Contains-push_cases handle.left (length new.list + 1, x) entry has)

  -- a turn adds to a pass's own entries just what its reply says was admitted
  pub mine_after : (own : Option E) (says : Says) (Meets : Snapshot E → Snapshot E → Type 0) (before after : Known E) → TakesSubmit own says Meets before after → after.mine ≡ before.mine ++ admitted_by own says
  mine_after own says Meets before after submit = ap (λ (p : Known E). p.mine) submit.whole ∙ mine_by own says submit.old submit.new before submit.goes

  -- and to what it left pending, the ask's own entry at most, at the position that its reply says
  pub left_after : (own : Option E) (says : Says) (Meets : Snapshot E → Snapshot E → Type 0) (before after : Known E) → TakesSubmit own says Meets before after → (entry : ℕ × E) → Contains after.left entry
      → Contains before.left entry ⊎ ((own ≡ Some entry.1) × (says ≡ Undecided entry.0))
  left_after own says Meets before after submit entry has =
      left_by own says submit.old submit.new before submit.goes entry (subst (λ (p : Known E). Contains p.left entry) submit.whole has)
