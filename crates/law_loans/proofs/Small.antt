-- How large sums of loans are.
use Rattle.std.proofs.Common.{ℕ, ◌+◌, ◌-◌, ◌*◌, ◌^◌, ◌≤◌, ◌<◌, arith, Bool, true, false, List, [], ◌∷◌, length, zero-le}
use Rattle.law_loans.specs.declared.filing.LoanAmount.{LoanAmount}
use Rattle.law_loans.specs.declared.filing.LoanFiling.{LoanFiling}
use Rattle.law_loans.specs.declared.filing.LoanWhat.{LoanWhat}
use Rattle.law_loans.specs.declared.filing.LoanWhat.TheVariants.{Limits, Borrower, Before, Lend, Cancel}
use Rattle.law_loans.specs.Loans.{cancelled, if_passes, in_all, in_year, lent, lent_in, net, nets}
use Rattle.law_loans.specs.Rules.{AreAllowed, AreSmall}
use Rattle.law_loans.proofs.Holding.{has_room}

-- a list that breaks no rule is short
pub is_short : (past : List LoanFiling) → AreAllowed past → length past ≤ 200000
is_short [] h = zero-le
is_short (f ∷ past) h = let k : length past < 200000 = has_room past f h.1 in omega arith

passes_most : (b : Bool) (n most : ℕ) → n ≤ most → if_passes b n ≤ most
passes_most true n most h = h
passes_most false n most h = zero-le

lent_in_most : (what : LoanWhat) (test : LoanAmount → Bool) → lent_in test what ≤ 99999999
lent_in_most (Lend a) test = passes_most (test a) a.cents 99999999 a.in_range.1
lent_in_most (Limits l) test = zero-le
lent_in_most (Borrower r) test = zero-le
lent_in_most (Before b) test = zero-le
lent_in_most (Cancel a) test = zero-le

one_more : (a b n : ℕ) → a ≤ 99999999 → b ≤ 99999999 * n → a + b ≤ 99999999 * (n + 1)
one_more a b n h k = omega arith

pub lent_most : (past : List LoanFiling) (test : LoanAmount → Bool) → lent past test ≤ 99999999 * length past
lent_most [] test = zero-le
lent_most (f ∷ past) test =
    let k : lent_in test f.what + lent past test ≤ 99999999 * (length past + 1) =
    one_more (lent_in test f.what) (lent past test) (length past) (lent_in_most f.what test) (lent_most past test) in
    omega arith

small : (l c n : ℕ) → l ≤ 99999999 * n → n ≤ 200000 → l - c < 2 ^ 50
small l c n h k = omega arith

pub net_small : (past : List LoanFiling) → AreAllowed past → (test : LoanAmount → Bool) → net past test < 2 ^ 50
net_small past h test = small (lent past test) (cancelled past test) (length past) (lent_most past test) (is_short past h)

pub nets_small : (past : List LoanFiling) → AreAllowed past → (student year : ℕ) → AreSmall (nets past student year)
nets_small past h student year = (
  net_small past h (in_year student year true),
  net_small past h (in_year student year false),
  net_small past h (in_all student true),
  net_small past h (in_all student false),
)
