-- Whole dollars between two amounts.
use Rattle.std.proofs.Common.{ℕ, ◌+◌, ◌-◌, ◌*◌, ◌/◌, ◌≤◌, ◌<◌, arith}
use Rattle.std.proofs.lemmas.Nat.{le-div}
use Rattle.std.proofs.Math.Nat.{div-mul-le_self}

-- the whole dollars between two amounts are those that fit
pub fits : (have limit dollars : ℕ) → 0 < dollars → dollars ≤ (limit - have) / 100 → have + 100 * dollars ≤ limit
fits have limit dollars pos le =
    let k : (limit - have) / 100 * 100 ≤ limit - have = div-mul-le_self (limit - have) 100 in
    omega arith

pub fits_only : (have limit dollars : ℕ) → have + 100 * dollars ≤ limit → dollars ≤ (limit - have) / 100
fits_only have limit dollars le = le-div dollars (limit - have) 100 (omega arith) (omega arith)
