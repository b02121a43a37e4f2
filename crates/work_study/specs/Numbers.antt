-- A work-study filing as the list of its numbers, in the order of its kind's fields, those of its key first. Own format.
use Rattle.std.specs.Prelude.{ℕ, ℤ, pos, List, [], ◌∷◌, ◌++◌}
use Rattle.aid_types.specs.declared.number.Key.{Key}
use Rattle.law_work.specs.declared.filing.DollarFacts.{DollarFacts}
use Rattle.law_work.specs.declared.filing.EarnFacts.{EarnFacts}
use Rattle.law_work.specs.declared.filing.FundFacts.{FundFacts}
use Rattle.law_work.specs.declared.filing.WorkFiling.{WorkFiling}
use Rattle.law_work.specs.declared.filing.WorkWhat.{WorkWhat}
use Rattle.law_work.specs.declared.filing.WorkWhat.TheVariants.{Fund, Award, Earn, Release}

-- the school of a key, and the number
abbrev pub key_numbers : Key → List ℤ
key_numbers x = pos x.school ∷ pos x.number ∷ []

abbrev pub fund_numbers : FundFacts → List ℤ
fund_numbers x = pos x.year ∷ pos x.dollars ∷ []

abbrev pub dollar_numbers : DollarFacts → List ℤ
dollar_numbers x = pos x.student ∷ pos x.year ∷ pos x.dollars ∷ []

abbrev pub earn_numbers : EarnFacts → List ℤ
earn_numbers x = pos x.student ∷ pos x.year ∷ pos x.minutes ∷ pos x.wage ∷ []

-- what is filed: the code of its kind, and its numbers behind those of the key
abbrev pub code_of_what : WorkWhat → ℕ
code_of_what (Fund x) = 201
code_of_what (Award x) = 202
code_of_what (Earn x) = 203
code_of_what (Release x) = 204

abbrev pub what_numbers : WorkWhat → List ℤ
what_numbers (Fund x) = fund_numbers x
what_numbers (Award x) = dollar_numbers x
what_numbers (Earn x) = earn_numbers x
what_numbers (Release x) = dollar_numbers x

abbrev pub code_of_work : WorkFiling → ℕ
code_of_work x = code_of_what x.what

abbrev pub numbers_of_work : WorkFiling → List ℤ
numbers_of_work x = key_numbers x.key ++ what_numbers x.what
