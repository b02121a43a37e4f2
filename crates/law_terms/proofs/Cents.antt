-- The cents of a Scheduled Award whose lifetime use is within so many units.
use Rattle.std.proofs.Common.{◌≡◌, ◌↔◌, ℕ, zero, suc, ◌+◌, ◌-◌, ◌*◌, ◌/◌, ◌≤◌, ◌<◌, Bool, true, false, nat_lt, refl, arith, ltb-true, ltb-false, zero-le}
use Rattle.std.proofs.lemmas.Nat.{le-div, div_below}
use Rattle.std.proofs.Math.Nat.{div-mul-le_self}
use Rattle.aid_types.specs.Nearest.{half_up}
use Rattle.law_terms.specs.Used.{use_of}

-- the most cents whose use of a Scheduled Award is at most so many units
abbrev pub cents_within : ℕ → ℕ → ℕ
cents_within scheduled units = (scheduled * (2 * units + 1) - 1) / 2000

use_fits : (scheduled units cents : ℕ) → 0 < scheduled → cents ≤ cents_within scheduled units → use_of cents scheduled ≤ units
unfolding use_of half_up
use_fits scheduled units zero pos le = zero-le
use_fits scheduled units (suc n) pos le =
    let k : cents_within scheduled units * 2000 ≤ scheduled * (2 * units + 1) - 1 = div-mul-le_self (scheduled * (2 * units + 1) - 1) 2000 in
    let p : (units + 1) * (2 * scheduled) ≡ scheduled * (2 * units + 1) + scheduled = grind arith in
    let b : (2 * (suc n * 1000) + scheduled) / (2 * scheduled) < units + 1 =
    div_below (2 * (suc n * 1000) + scheduled) (2 * scheduled) (units + 1) (omega arith) (omega arith) in
    omega arith

-- a quotient that is at most m
below_next : (n k m : ℕ) → 0 < k → n / k ≤ m → n < (m + 1) * k
below_next n k m pos le = go (nat_lt n ((m + 1) * k)) refl
  where
    go : (b : Bool) → nat_lt n ((m + 1) * k) ≡ b → n < (m + 1) * k
    go true e = ltb-true n ((m + 1) * k) e
    go false e =
        let f : (m + 1) * k ≤ n = ltb-false n ((m + 1) * k) e in
        let d : m + 1 ≤ n / k = le-div (m + 1) n k pos f in
        absurd (omega arith)

use_needs : (scheduled units cents : ℕ) → 0 < scheduled → use_of cents scheduled ≤ units → cents ≤ cents_within scheduled units
unfolding use_of half_up
use_needs scheduled units zero pos le = zero-le
use_needs scheduled units (suc n) pos le =
    let b : 2 * (suc n * 1000) + scheduled < (units + 1) * (2 * scheduled) =
    below_next (2 * (suc n * 1000) + scheduled) (2 * scheduled) units (omega arith) le in
    let p : (units + 1) * (2 * scheduled) ≡ scheduled * (2 * units + 1) + scheduled = grind arith in
    le-div (suc n) (scheduled * (2 * units + 1) - 1) 2000 (omega arith) (omega arith)

-- they are just those
pub cents_are : (scheduled units cents : ℕ) → 0 < scheduled → (cents ≤ cents_within scheduled units) ↔ (use_of cents scheduled ≤ units)
cents_are scheduled units cents pos = (λ le. use_fits scheduled units cents pos le, λ le. use_needs scheduled units cents pos le)
