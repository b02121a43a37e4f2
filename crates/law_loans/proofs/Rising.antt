-- Limits that are on file stay, so no bound falls.
use Rattle.std.proofs.Common.{◌≡◌, ℕ, ◌≤◌, ◌<◌, refl, arith, zero-le, List, Option, Some, None, lt-ltb}
use Rattle.aid_types.specs.declared.number.Key.{Key}
use Rattle.law_loans.specs.declared.filing.BorrowerFacts.{BorrowerFacts}
use Rattle.law_loans.specs.declared.filing.LimitFacts.{LimitFacts}
use Rattle.law_loans.specs.declared.filing.LoanFiling.{LoanFiling}
use Rattle.law_loans.specs.declared.filing.LoanWhat.{LoanWhat}
use Rattle.law_loans.specs.Loans.{earlier, higher, limits, limits_of, limits_under, transaction_of, under}
use Rattle.law_loans.proofs.NetSteps.{after}

pub earlier_none : {A : Type 0} → (old : Option A) → earlier old None ≡ old
earlier_none None = refl
earlier_none (Some a) = refl

under_earlier : (amount : LimitFacts → BorrowerFacts → ℕ) (old new : Option LimitFacts) (r : Option BorrowerFacts) → under amount old r ≤ under amount (earlier old new) r
under_earlier amount None new None = zero-le
under_earlier amount None new (Some r) = zero-le
under_earlier amount (Some l) new r = omega arith

-- a bound by the limits of a year
pub year_rises : (past : List LoanFiling) (key : Key) (what : LoanWhat) (year : ℕ) (r : Option BorrowerFacts) (amount : LimitFacts → BorrowerFacts → ℕ) →
    under amount (limits past year) r ≤ under amount (limits (after past key what) year) r
year_rises past key what year r amount = under_earlier amount (limits past year) (limits_of year what) r

-- a bound by a record and the limits of its year
pub record_rises : (past : List LoanFiling) (key : Key) (what : LoanWhat) (r : Option BorrowerFacts) (amount : LimitFacts → BorrowerFacts → ℕ) →
    under amount (limits_under past r) r ≤ under amount (limits_under (after past key what) r) r
record_rises past key what None amount = zero-le
record_rises past key what (Some r) amount = under_earlier amount (limits past r.year) (limits_of r.year what) (Some r)

-- a record with a higher transaction is the one in force
pub higher_new : (old : Option BorrowerFacts) (r : BorrowerFacts) → transaction_of old < r.transaction → higher old (Some r) ≡ Some r
higher_new None r h = refl
higher_new (Some o) r h = rw (lt-ltb o.transaction r.transaction h) refl
