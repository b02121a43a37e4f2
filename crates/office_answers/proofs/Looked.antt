-- Looks that are counted later leave those that were counted.
use Rattle.std.proofs.Common.{◌≡◌, ℕ, ◌+◌, ◌-◌, ◌^◌, ◌≤◌, arith}
use Rattle.std.proofs.Math.Pow.{pow_mono}

pub still_missed : (rows old middle new : ℕ) → rows + 2 ≤ 2 ^ (middle - old + 1) → middle ≤ new → rows + 2 ≤ 2 ^ (new - old + 1)
still_missed rows old middle new missed later =
    let more : 2 ^ (middle - old + 1) ≤ 2 ^ (new - old + 1) = pow_mono {i = middle - old + 1} {j = new - old + 1} (omega arith) in
    omega (arith, missed, more)
