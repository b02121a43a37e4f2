-- Rounding and use rise with the amount.
use Rattle.std.proofs.Common.{◌≡◌, ℕ, zero, suc, ◌+◌, ◌*◌, ◌/◌, ◌≤◌, ◌<◌, refl, arith, zero-le}
use Rattle.std.proofs.lemmas.Nat.{le-div, div_below}
use Rattle.std.proofs.Math.Nat.{div-mul-le_self, div-zero, zero-mul}
use Rattle.aid_types.specs.Nearest.{half_up}
use Rattle.law_terms.specs.Used.{use_of}
use Rattle.law_terms.specs.Terms.{payment_of}

pub div_mono : (a b k : ℕ) → a ≤ b → a / k ≤ b / k
div_mono a b zero h = rw (div-zero a) zero-le
div_mono a b (suc k) h =
    let low : a / suc k * suc k ≤ a = div-mul-le_self a (suc k) in
    le-div (a / suc k) b (suc k) (omega arith) (omega arith)

-- what is half_up rises
pub nearest_mono : (a b k : ℕ) → a ≤ b → half_up a k ≤ half_up b k
unfolding half_up
nearest_mono a b k h = div_mono (2 * a + k) (2 * b + k) (2 * k) (omega arith)

-- the use of a year rises with what is paid
pub use_mono : (a b scheduled : ℕ) → a ≤ b → use_of a scheduled ≤ use_of b scheduled
unfolding use_of
use_mono zero b s h = zero-le
use_mono (suc a) zero s h = absurd (omega arith)
use_mono (suc a) (suc b) s h = nearest_mono (suc a * 1000) (suc b * 1000) s (omega arith)

pub use_none : (scheduled : ℕ) → use_of 0 scheduled ≡ 0
unfolding use_of
use_none s = refl

-- nothing is paid of no award, or at a school without terms
pub nearest_none : (k : ℕ) → half_up 0 k ≡ 0
unfolding half_up
nearest_none zero = div-zero (2 * 0 + 0)
nearest_none (suc k) =
    let b : (2 * 0 + suc k) / (2 * suc k) < 1 = div_below (2 * 0 + suc k) (2 * suc k) 1 (omega arith) (omega arith) in
    omega arith

pub no_award : (percent terms : ℕ) → payment_of 0 percent terms ≡ 0
unfolding payment_of
no_award percent terms = rw zero-mul (nearest_none (100 * terms))

pub no_terms : (scheduled percent : ℕ) → payment_of scheduled percent 0 ≡ 0
unfolding payment_of half_up
no_terms scheduled percent = div-zero (2 * (scheduled * percent) + 0)
