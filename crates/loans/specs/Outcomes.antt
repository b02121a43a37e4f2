-- How an outcome is written. Own format.
use Rattle.std.specs.Prelude.{ℕ, List, ◌++◌, codes}
use Rattle.aid_types.specs.Cents.{cents_text}
use Rattle.law_loans.specs.declared.facts.LoanOutcome.{LoanOutcome}
use Rattle.law_loans.specs.declared.facts.LoanOutcome.TheVariants.{Noted, Lent}

-- `noted`, or `lent YEAR ALL`
abbrev pub loan_text : LoanOutcome → List ℕ
loan_text Noted = codes "noted"
loan_text (Lent year all) = codes "lent " ++ cents_text year ++ codes " " ++ cents_text all
