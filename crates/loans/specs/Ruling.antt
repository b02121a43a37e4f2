-- The rules of the loan desk as those of a list of filings: the key, the first rule that a filing breaks, and its outcome.
use Rattle.std.specs.Prelude.{◌≡◌, ◌<◌, List, [], ◌∷◌, length, None}
use Rattle.format_kinds.specs.Kinds.{key_slots}
use Rattle.log_rules.specs.Rows.{SpellsRows, ruling_by}
use Rattle.log_rules.specs.Ruled.{IsLegal}
use Rattle.log_rules.specs.Ruling.{Ruling}
use Rattle.log_rules.specs.RowLaws.{rows_by}
use Rattle.law_loans.specs.declared.filing.LoanFiling.{LoanFiling}
use Rattle.law_loans.specs.Rules.{AreAllowed, breaks, outcome_of}
use Rattle.law_loans.specs.Within.{IsWithinLoans}
use Rattle.law_loans.specs.declared.facts.LoanOutcome.{LoanOutcome}
use Rattle.law_loans.proofs.AllowedWithin.{allowed_within}
use Rattle.law_loans.proofs.Holding.{has_room}
use Rattle.loans.specs.Kinds.{loan_kinds}
use Rattle.loans.specs.Numbers.{code_of_loan, numbers_of_loan}
use Rattle.loans.specs.Same.{same_loan}
use Rattle.aid_types.specs.Limits.{most_desk_filings}

abbrev pub loan_ruling : Ruling LoanFiling LoanOutcome
loan_ruling = ruling_by key_slots loan_kinds code_of_loan numbers_of_loan (λ filing. filing.key) breaks outcome_of

-- ---- what holds of it
-- a filing is spelled as the row of its code and its numbers
pub spells_loans : SpellsRows loan_ruling key_slots loan_kinds code_of_loan numbers_of_loan
spells_loans = rows_by key_slots loan_kinds code_of_loan numbers_of_loan (λ (filing : LoanFiling). filing.key) breaks outcome_of same_loan

-- rule 110: a full list takes no more
pub loans_have_room : (past : List LoanFiling) (filing : LoanFiling) → breaks past filing ≡ None → length past < most_desk_filings
loans_have_room past filing h = has_room past filing h

-- each filing of a legal list breaks no rule on those before it
pub legal_loans_allowed : (past : List LoanFiling) → IsLegal loan_ruling past → AreAllowed past
legal_loans_allowed [] legal = tt
legal_loans_allowed (f ∷ past) legal = (legal_loans_allowed past legal.0, legal.2)

-- so it is within every limit
pub legal_loans_within : (past : List LoanFiling) → IsLegal loan_ruling past → IsWithinLoans past
legal_loans_within past legal = allowed_within past (legal_loans_allowed past legal)
