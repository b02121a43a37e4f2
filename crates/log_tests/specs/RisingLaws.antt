-- What holds of numbers that rise as a docket.
use Rattle.std.proofs.Common.{◌≡◌, ◌≤◌, length, ℕ, refl, subst, arith, Bool, true, false, IsTrue, List, [], ◌∷◌, ◌++◌, Some, None}
use Rattle.std.specs.Prelude.{⊤, if◌then◌else◌}
use Rattle.log_journal.specs.Stands.{IsPayload}
use Rattle.log_tests.specs.Rising.{is_next, next_of}

pub keepable : (n : ℕ) → ⊤ → IsPayload (n ∷ [])
keepable n is = record { some = omega arith; fits = omega arith }

pub alone : (one other : ℕ) (rest : List ℕ) → ⊤ → ⊤ → (one ∷ []) ++ rest ≡ other ∷ [] → one ≡ other
alone one other rest is also same = cc

pub added_admitted : (past : List ℕ) (operation n : ℕ) → next_of past operation ≡ Some n → IsTrue (is_next past n)
added_admitted past operation n is = go (is_next past operation) refl is
  where
    go : (b : Bool) → is_next past operation ≡ b → (if b then Some operation else None) ≡ Some n → IsTrue (is_next past n)
    go true next same = let one : operation ≡ n = cc in subst (λ (m : ℕ). IsTrue (is_next past m)) one next
    go false next same = absurd (let bad : ⊥ = cc in bad)

-- a stamp may stand before it
pub short : (n : ℕ) → ⊤ → length (n ∷ []) ≤ 8155
short n is = omega arith
