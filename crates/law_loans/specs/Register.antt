-- An index as its callers see it.
use Rattle.std.specs.Prelude.{ℕ, List}
use Rattle.law_loans.specs.declared.filing.LoanFiling.{LoanFiling}

-- its filings, the newest first, and how many more it takes without asking for memory
pub record OnFile : Type 0 where
  pub history : List LoanFiling
  pub room : ℕ
