-- The entry that a number may add is itself.
use Rattle.std.proofs.Common.{◌≡◌, ℕ, refl, Bool, true, false, List, Some, None}
use Rattle.std.specs.Prelude.{is_some, if◌then◌else◌}
use Rattle.log_tests.specs.Rising.{is_next, next_of}

pub own_added : (past : List ℕ) (operation entry : ℕ) → next_of past operation ≡ Some entry → Some operation ≡ Some entry
own_added past operation entry is = go (is_next past operation) is
  where
    go : (b : Bool) → (if b then Some operation else None) ≡ Some entry → Some operation ≡ Some entry
    go true same = same
    go false same = absurd (let bad : ⊥ = cc in bad)

pub adds_added : (past : List ℕ) (operation : ℕ) → is_next past operation ≡ is_some (next_of past operation)
adds_added past operation = go (is_next past operation)
  where
    go : (b : Bool) → b ≡ is_some {T = ℕ} (if b then Some operation else None)
    go true = refl
    go false = refl
