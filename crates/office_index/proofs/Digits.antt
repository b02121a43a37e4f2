-- A number is below two to the power of its digits, and of no fewer.
use Rattle.std.proofs.Common.{◌≡◌, ℕ, zero, suc, ◌/◌, ◌^◌, ◌<◌, ◌≤◌, List, length, arith, subst}
use Rattle.std.proofs.Math.Nat.{pow-suc}
use Rattle.aid_filings.specs.declared.filing.Filing.{Filing}
use Rattle.office_index.specs.Digits.{digits_of, digits_within}

below_within : (fuel n : ℕ) → n ≤ fuel → n < 2 ^ digits_within fuel n
below_within zero n le = omega arith
below_within (suc fuel) zero le = omega arith
below_within (suc fuel) (suc n) le =
    let half = suc n / 2 in
    let below : half < 2 ^ digits_within fuel half = below_within fuel half (omega arith) in
    omega (arith, pow-suc 2 (digits_within fuel half))

within_least : (fuel n digits : ℕ) → n < 2 ^ digits → digits_within fuel n ≤ digits
within_least zero n digits lt = omega arith
within_least (suc fuel) zero digits lt = omega arith
within_least (suc fuel) (suc n) zero lt = absurd (omega arith)
within_least (suc fuel) (suc n) (suc digits) lt =
    let half = suc n / 2 in
    let least : digits_within fuel half ≤ digits = within_least fuel half digits (omega (arith, pow-suc 2 digits)) in
    omega arith

pub below_digits : (n : ℕ) → n < 2 ^ digits_of n
unfolding digits_of
below_digits n = below_within n n (omega arith)

pub digits_least : (n digits : ℕ) → n < 2 ^ digits → digits_of n ≤ digits
unfolding digits_of
digits_least n digits lt = within_least n n digits lt

-- so are a table's rows, where there are no more of them than filings
pub few_looks : (h past : List Filing) (rows : ℕ) → h ≡ past → rows ≤ length h → rows < 2 ^ digits_of (length past)
few_looks h past rows same few =
    let within : rows ≤ length past = subst (λ (l : List Filing). rows ≤ length l) same few in
    omega (arith, below_digits (length past))
