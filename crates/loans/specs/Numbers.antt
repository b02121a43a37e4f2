-- A loan filing as the list of its numbers, in the order of its kind's fields, those of its key first. Own format.
use Rattle.std.specs.Prelude.{ℕ, ℤ, pos, Bool, true, false, List, [], ◌∷◌, ◌++◌, map}
use Rattle.aid_types.specs.Programs.{rank}
use Rattle.aid_types.specs.declared.number.Key.{Key}
use Rattle.law_loans.specs.declared.filing.BeforeFacts.{BeforeFacts}
use Rattle.law_loans.specs.declared.filing.BorrowerFacts.{BorrowerFacts}
use Rattle.law_loans.specs.declared.filing.LimitFacts.{LimitFacts}
use Rattle.law_loans.specs.declared.filing.LoanAmount.{LoanAmount}
use Rattle.law_loans.specs.declared.filing.LoanFiling.{LoanFiling}
use Rattle.law_loans.specs.declared.filing.LoanWhat.{LoanWhat}
use Rattle.law_loans.specs.declared.filing.LoanWhat.TheVariants.{Limits, Borrower, Before, Lend, Cancel}

-- a yes by 1
abbrev pub flag_number : Bool → ℤ
flag_number false = pos 0
flag_number true = pos 1

-- the school of a key, and the number
abbrev pub key_numbers : Key → List ℤ
key_numbers x = pos x.school ∷ pos x.number ∷ []

-- amounts of dollars
abbrev pub dollar_numbers : List ℕ → List ℤ
dollar_numbers amounts = map (λ n. pos n) amounts

-- all limits of a year in the order of their fields
abbrev pub limits_in : LimitFacts → List ℕ
limits_in x = x.sub ++ x.dependent ++ x.independent ++ x.graduate ∷ x.aggregate_sub ++ x.aggregate

abbrev pub limits_numbers : LimitFacts → List ℤ
limits_numbers x = pos x.year ∷ dollar_numbers (limits_in x)

abbrev pub borrower_numbers : BorrowerFacts → List ℤ
borrower_numbers x =
    pos x.student ∷ pos x.year ∷ pos x.transaction ∷ pos x.level ∷ flag_number x.independent ∷ pos x.need ∷ pos x.cost ∷ []

abbrev pub before_numbers : BeforeFacts → List ℤ
before_numbers x = pos x.student ∷ pos x.sub ∷ pos x.total ∷ []

-- a program by its place, which is 0 or 1 for a loan's
abbrev pub loan_numbers : LoanAmount → List ℤ
loan_numbers x = pos x.student ∷ pos x.year ∷ pos (rank x.program) ∷ pos x.cents ∷ []

-- what is filed: the code of its kind, and its numbers behind those of the key
abbrev pub code_of_what : LoanWhat → ℕ
code_of_what (Limits x) = 101
code_of_what (Borrower x) = 102
code_of_what (Before x) = 103
code_of_what (Lend x) = 104
code_of_what (Cancel x) = 105

abbrev pub what_numbers : LoanWhat → List ℤ
what_numbers (Limits x) = limits_numbers x
what_numbers (Borrower x) = borrower_numbers x
what_numbers (Before x) = before_numbers x
what_numbers (Lend x) = loan_numbers x
what_numbers (Cancel x) = loan_numbers x

abbrev pub code_of_loan : LoanFiling → ℕ
code_of_loan x = code_of_what x.what

abbrev pub numbers_of_loan : LoanFiling → List ℤ
numbers_of_loan x = key_numbers x.key ++ what_numbers x.what
