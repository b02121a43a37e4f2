-- What the greatest number up to a bound is.
use Rattle.std.proofs.Common.{◌≡◌, ◌≤◌, ◌<◌, ℕ, zero, suc, Bool, true, false, arith, sym, inl, inr}
use Rattle.std.proofs.lemmas.Bool.{cases_lt}
use Rattle.law_rules.specs.Quote.{greatest}

-- it passes, or is 0, and no greater one up to the bound passes
pub greatest_is : (p : ℕ → Bool) (n bound : ℕ) → n ≤ bound → (0 < n → p n ≡ true) → ((m : ℕ) → n < m → m ≤ bound → p m ≡ false) → greatest p bound ≡ n
greatest_is p n zero le passes fails = omega arith
greatest_is p n (suc b) le passes fails =
    elim (cases_lt n (suc b)) [
      | inl below ↦
          let rest : greatest p b ≡ n = greatest_is p n b (omega arith) passes (λ m above within. fails m above (omega arith)) in
          rw (fails (suc b) below (omega arith)) rest
      | inr not_below ↦
          let e : n ≡ suc b = omega arith in
          let here : p (suc b) ≡ true = rw e at (passes (omega arith)) in
          rw here (sym e)
    ]
