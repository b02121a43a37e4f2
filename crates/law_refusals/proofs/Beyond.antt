-- What two payments come to, on top of what stood at the same cells.
use Rattle.std.proofs.Common.{◌≡◌, ℕ, ◌+◌, ◌-◌, ◌≤◌, arith, cond, Bool, true, false, List}
use Rattle.aid_filings.specs.declared.filing.Amount.{Amount}
use Rattle.aid_filings.specs.declared.filing.Filing.{Filing}
use Rattle.aid_types.specs.declared.number.Key.{Key}
use Rattle.law_refusals.specs.Reached.{paid_too}
use Rattle.office_history.specs.Net.{Cell, cell_of, net, paid, taken}

module _ (past : List Filing) (k l : Key) (p q : Amount) (sel : Cell → Bool) (stands : taken past sel ≤ paid past sel) where
  -- the first alone
  pub first_paid : sel (cell_of k p) ≡ true → p.cents ≤ net (paid_too past k p l q) sel
  first_paid here = go (sel (cell_of k p)) (cond (sel (cell_of l q)) q.cents 0) here
    where
      go : (x : Bool) (more : ℕ) → x ≡ true → p.cents ≤ (more + (cond x p.cents 0 + paid past sel)) - taken past sel
      go true more e = omega (arith, stands)
      go false more e = absurd cc

  -- the second alone
  pub second_paid : sel (cell_of l q) ≡ true → q.cents ≤ net (paid_too past k p l q) sel
  second_paid there = go (sel (cell_of l q)) (cond (sel (cell_of k p)) p.cents 0) there
    where
      go : (y : Bool) (more : ℕ) → y ≡ true → q.cents ≤ (cond y q.cents 0 + (more + paid past sel)) - taken past sel
      go true more e = omega (arith, stands)
      go false more e = absurd cc

  -- both
  pub two_paid : sel (cell_of k p) ≡ true → sel (cell_of l q) ≡ true → p.cents + q.cents ≤ net (paid_too past k p l q) sel
  two_paid here there = go (sel (cell_of k p)) (sel (cell_of l q)) here there
    where
      go : (x y : Bool) → x ≡ true → y ≡ true → p.cents + q.cents ≤ (cond y q.cents 0 + (cond x p.cents 0 + paid past sel)) - taken past sel
      go true true e f = omega (arith, stands)
      go true false e f = absurd cc
      go false y e f = absurd cc
