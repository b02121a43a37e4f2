-- How a counter's turn goes.
use Rattle.std.proofs.Common.{◌≡◌, ℕ, ◌+◌, Bool, List, [], ◌∷◌, ◌++◌, Option, Some, None, length, refl, sym, ap, ap₂, ◌∙◌, subst}
use Rattle.std.specs.Prelude.{reverse}
use Rattle.std.proofs.lemmas.List.{append-nil, reverse-append, length-reverse}
use Rattle.std.specs.Prelude.{Contains}
use Rattle.std.proofs.lemmas.List.Elements.{Contains-append_left}
use Rattle.log_lock.specs.declared.turned.Snapshot.{Snapshot}
use Rattle.log_lock.specs.Passes.{Known, StandsAt, Closes}
use Rattle.log_lock.proofs.Laws.{admitted_by, stands_of}
use Rattle.lock_tests.specs.declared.counter.Answer.{Answer}
use Rattle.lock_tests.specs.declared.counter.Answer.TheVariants as answer
use Rattle.lock_tests.specs.Counts.{said, accepted}
use Rattle.log_lock.specs.Turning.{Undecided, Admitted, Goes, stays_pending, admits, leaves, with_entry}

-- what settling adds to the log
abbrev pub waited : Option ℕ → List ℕ
waited None = []
waited (Some x) = x ∷ []

abbrev snapshot : List ℕ → Option ℕ → ℕ → Bool → Snapshot ℕ
snapshot log was faults honest = record { list = reverse log; pending = was; faults = faults; fixed = honest }

settled : (log mid : List ℕ) (was : Option ℕ) → mid ≡ log ++ waited was → reverse mid ≡ with_entry was (reverse log)
settled log mid None is = ap reverse (is ∙ append-nil log)
settled log mid (Some x) is = ap reverse is ∙ reverse-append log (x ∷ [])

module _ (log mid new : List ℕ) (was : Option ℕ) (operation faults faults' : ℕ) (honest honest' : Bool) (n : ℕ) where
  next_place : n ≡ length mid → Undecided (n + 1) ≡ Undecided (length (reverse mid) + 1)
  next_place is = ap (λ k. Undecided (k + 1)) (is ∙ sym (length-reverse mid))

  pub goes_nowhere : n ≡ length mid → (x : ℕ) → was ≡ Some x → mid ≡ log → Goes (Some operation) (snapshot log was faults honest) (Undecided (n + 1)) (snapshot mid was faults' honest')
  goes_nowhere len x is same = stays_pending x is (ap reverse same) is (next_place len)

  pub goes_leaves : n ≡ length mid → mid ≡ log ++ waited was → Goes (Some operation) (snapshot log was faults honest) (Undecided (n + 1)) (snapshot mid (Some operation) faults' honest')
  goes_leaves len is = leaves operation refl (settled log mid was is) refl (next_place len)

  pub goes_admits : n ≡ length new → (now : Option ℕ) → now ≡ None → mid ≡ log ++ waited was → new ≡ mid ++ operation ∷ [] → Goes (Some operation) (snapshot log was faults honest) (Admitted n) (snapshot new now faults' honest')
  goes_admits len now none is more =
      admits operation refl (ap reverse more ∙ (reverse-append mid (operation ∷ []) ∙ ap (λ l. operation ∷ l) (settled log mid was is))) none (ap Admitted (len ∙ sym (length-reverse new)))

pub admitted_is : (a : Answer) (operation : ℕ) → admitted_by (Some operation) (said a) ≡ accepted a operation
admitted_is (answer.Accepted position) operation = refl
admitted_is (answer.Undecided position) operation = refl
admitted_is answer.NoMemory operation = refl

-- what two passes admitted stands in the closed list
pub both_stand : (mine theirs all : Known ℕ) (new : Snapshot ℕ) (a b : Answer) (one other : ℕ) → Closes all new → all.mine ≡ mine.mine ++ theirs.mine → mine.mine ≡ accepted a one → theirs.mine ≡ accepted b other
    → (entry : ℕ × ℕ) → Contains (accepted a one ++ accepted b other) entry → StandsAt new.list entry
both_stand mine theirs all new a b one other closes is first second entry has =
    let whole : accepted a one ++ accepted b other ≡ all.mine = sym (is ∙ ap₂ (λ l m. l ++ m) first second) in
    stands_of all new closes entry (Contains-append_left all.mine all.settled entry (subst (λ l. Contains l entry) whole has))
