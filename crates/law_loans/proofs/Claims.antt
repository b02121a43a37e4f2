-- What is claimed of a student's year and of all his years, on the numbers alone.
use Rattle.std.proofs.Common.{ℕ, ◌+◌, ◌*◌, ◌≤◌, ◌<◌, refl, arith, Bool, true, false, Option}
use Rattle.law_loans.specs.declared.filing.BeforeFacts.{BeforeFacts}
use Rattle.law_loans.specs.declared.filing.BorrowerFacts.{BorrowerFacts}
use Rattle.law_loans.specs.declared.filing.LimitFacts.{LimitFacts}
use Rattle.law_loans.specs.Loans.{aggregate_sub, aggregate_total, annual_sub, annual_total, before_sub, before_total, cost_of, need_of, under}
use Rattle.law_loans.specs.Rules.{bounds_under, of_all, of_year, tries_of_loan, with_loan}
use Rattle.law_loans.specs.declared.bounds.Bounds.{Bounds}
use Rattle.law_loans.specs.declared.facts.LoanNets.{LoanNets}
use Rattle.law_loans.proofs.Holding.{LimitsHold}

-- of a year: the subsidized net and the whole net, by a record and the limits of the year
pub record YearHolds (net_sub net_whole : ℕ) (l : Option LimitFacts) (r : Option BorrowerFacts) : Type 0 where
  pub need : net_sub ≤ 100 * need_of r
  pub annual : net_sub ≤ 100 * under annual_sub l r
  pub total : net_whole ≤ 100 * under annual_total l r
  pub cost : net_whole ≤ 100 * cost_of r

-- of all years: the same, with what was borrowed before, by the last record and the limits of its year
pub record StudentHolds (net_sub net_whole : ℕ) (b : Option BeforeFacts) (l : Option LimitFacts) (r : Option BorrowerFacts) : Type 0 where
  pub aggregate : 0 < net_sub → 100 * before_sub b + net_sub ≤ 100 * under aggregate_sub l r
  pub whole : 0 < net_whole → 100 * before_total b + net_whole ≤ 100 * under aggregate_total l r

pub both : (a b c d : ℕ) → a ≤ b → c ≤ d → a + c ≤ b + d
both a b c d h k = omega arith

plain : (a b c : ℕ) → a ≤ b → b ≤ 100 * c → a ≤ 100 * c
plain a b c h k = omega arith

scaled : (a b c d : ℕ) → a ≤ b → b ≤ 100 * c → c ≤ d → a ≤ 100 * d
scaled a b c d h k m = omega arith

guarded : (t a b c d : ℕ) → a ≤ b → (0 < b → 100 * t + b ≤ 100 * c) → c ≤ d → 0 < a → 100 * t + a ≤ 100 * d
guarded t a b c d h k m g = let some : 0 < b = omega arith in let n : 100 * t + b ≤ 100 * c = k some in omega arith

-- lower nets under limits that give no less
pub year_lower : (new_sub new_whole old_sub old_whole : ℕ) (old new : Option LimitFacts) (r : Option BorrowerFacts) → new_sub ≤ old_sub → new_whole ≤ old_whole →
    ((amount : LimitFacts → BorrowerFacts → ℕ) → under amount old r ≤ under amount new r) →
    YearHolds old_sub old_whole old r → YearHolds new_sub new_whole new r
year_lower new_sub new_whole old_sub old_whole old new r p q up h = record {
  need = plain new_sub old_sub (need_of r) p h.need;
  annual = scaled new_sub old_sub (under annual_sub old r) (under annual_sub new r) p h.annual (up annual_sub);
  total = scaled new_whole old_whole (under annual_total old r) (under annual_total new r) q h.total (up annual_total);
  cost = plain new_whole old_whole (cost_of r) q h.cost;
}

pub student_lower : (new_sub new_whole old_sub old_whole : ℕ) (b : Option BeforeFacts) (old new : Option LimitFacts) (r : Option BorrowerFacts) →
    new_sub ≤ old_sub → new_whole ≤ old_whole → ((amount : LimitFacts → BorrowerFacts → ℕ) → under amount old r ≤ under amount new r) →
    StudentHolds old_sub old_whole b old r → StudentHolds new_sub new_whole b new r
student_lower new_sub new_whole old_sub old_whole b old new r p q up h = record {
  aggregate = guarded (before_sub b) new_sub old_sub (under aggregate_sub old r) (under aggregate_sub new r) p h.aggregate (up aggregate_sub);
  whole = guarded (before_total b) new_whole old_whole (under aggregate_total old r) (under aggregate_total new r) q h.whole (up aggregate_total);
}

-- a loan: its lines give what is new, and what was gives the rest
pub year_of_loan : (sub : Bool) (n : LoanNets) (cents told_sub told_total : ℕ) (l : Option LimitFacts) (r : Option BorrowerFacts) (last : Bounds) →
    YearHolds n.sub (of_year n) l r → LimitsHold (tries_of_loan sub) told_sub told_total (with_loan n sub cents) (bounds_under l r) last →
    YearHolds (with_loan n sub cents).sub (of_year (with_loan n sub cents)) l r
year_of_loan true n cents told_sub told_total l r last old h = record { need = h.need refl; annual = h.annual refl; total = h.total; cost = h.cost }
year_of_loan false n cents told_sub told_total l r last old h = record { need = old.need; annual = old.annual; total = h.total; cost = h.cost }

pub student_of_loan : (sub : Bool) (n : LoanNets) (cents : ℕ) (b : Option BeforeFacts) (own : Bounds) (l : Option LimitFacts) (r : Option BorrowerFacts) →
    StudentHolds n.sub_all (of_all n) b l r → LimitsHold (tries_of_loan sub) (before_sub b) (before_total b) (with_loan n sub cents) own (bounds_under l r) →
    StudentHolds (with_loan n sub cents).sub_all (of_all (with_loan n sub cents)) b l r
student_of_loan true n cents b own l r old h = record { aggregate = λ some. h.aggregate refl; whole = λ some. h.whole refl }
student_of_loan false n cents b own l r old h = record { aggregate = old.aggregate; whole = λ some. h.whole refl }
