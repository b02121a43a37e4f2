-- A filing as the list of its numbers, in the order of its kind's fields, those of its key first. Own format.
use Rattle.std.specs.Prelude.{ℕ, ℤ, pos, ◌-ℤ◌, Bool, true, false, List, [], ◌∷◌, ◌++◌, length, flat_map, map}
use Rattle.aid_types.specs.Programs.{rank}
use Rattle.aid_types.specs.declared.application.Application.{Application}
use Rattle.aid_types.specs.declared.application.Region.{Region}
use Rattle.aid_types.specs.declared.application.Region.TheVariants.{Contiguous, Alaska, Hawaii}
use Rattle.aid_types.specs.declared.application.Side.{Side}
use Rattle.aid_types.specs.declared.number.Key.{Key}
use Rattle.aid_filings.specs.declared.filing.Amount.{Amount}
use Rattle.aid_filings.specs.declared.filing.Filing.{Filing}
use Rattle.aid_filings.specs.declared.filing.What.{What}
use Rattle.aid_filings.specs.declared.filing.What.TheVariants.{Book, School, Calendar, Prior, Apply, Enroll, Originate, Pay, Withdraw, Repay, Adjust, Cost, Sent, Amend}
use Rattle.format_kinds.specs.Book.{numbers_of as book_numbers}
use Rattle.format_kinds.specs.Kinds.{slots_of_kind}
use Rattle.format_table.specs.Layout.{AreNumbers}
use Rattle.format_kinds.specs.declared.kind.Kind.{Kind}
use Rattle.format_kinds.specs.declared.kind.Kind.TheVariants as kinds

-- a day by the days since 1970-01-01, a yes by 1, a region and a program by its place
abbrev pub day_number : ℕ → ℤ
day_number day = pos day -ℤ pos 25567

abbrev pub flag_number : Bool → ℤ
flag_number false = pos 0
flag_number true = pos 1

abbrev pub region_number : Region → ℤ
region_number Contiguous = pos 0
region_number Alaska = pos 1
region_number Hawaii = pos 2

-- the school of a key, and the number
abbrev pub key_numbers : Key → List ℤ
key_numbers x = pos x.school ∷ pos x.number ∷ []

-- the first and the last day of a break
abbrev pub break_days : ℕ × ℕ → List ℤ
break_days days = day_number days.0 ∷ day_number days.1 ∷ []

-- the amounts of one household
abbrev pub side_numbers : Side → List ℤ
side_numbers x =
    x.agi ∷ x.ira ∷ x.interest ∷ x.ira_untaxed ∷ x.pension ∷ x.foreign ∷ x.grants ∷ x.credits ∷ x.work_study ∷ x.tax ∷ x.earned_first
    ∷ x.earned_second ∷ x.support ∷ x.cash ∷ x.investments ∷ x.business ∷ []

-- an application: its numbers, what it says of the student's own standing and of the upbringing, the student's household,
-- what it says of the parents, and their household
abbrev pub application_numbers : Application → List ℤ
application_numbers x =
    pos x.student ∷ pos x.year ∷ pos x.transaction ∷ pos x.birth_year ∷ region_number x.region ∷ pos x.family
    ∷ map flag_number (x.married ∷ x.graduate ∷ x.bachelor ∷ x.veteran ∷ x.dependents ∷ x.orphan ∷ x.ward ∷ x.foster ∷ x.emancipated ∷ x.homeless ∷ x.student_file ∷ [])
    ++ side_numbers x.own ++ flag_number x.parents_married ∷ flag_number x.parents_file ∷ pos x.parent_age ∷ side_numbers x.parents

-- a payment, a repayment or an adjustment
abbrev pub amount_numbers : Amount → List ℤ
amount_numbers x = pos x.student ∷ pos x.year ∷ pos x.term ∷ pos (rank x.program) ∷ pos x.cents ∷ []

-- What is filed: its kind, and its numbers behind those of the key. A withdrawal ends with the cents of each program that could
-- have been disbursed.
abbrev pub filed_as : What → Kind × List ℤ
filed_as (Book x) = (kinds.Book, book_numbers x)
filed_as (School x) = (kinds.School, pos x.code ∷ pos x.terms ∷ pos x.full ∷ [])
filed_as (Calendar x) =
    (kinds.Calendar, pos x.year ∷ pos x.term ∷ flag_number x.extra ∷ day_number x.first ∷ day_number x.last ∷ pos (length x.breaks) ∷ flat_map break_days x.breaks)
filed_as (Prior x) = (kinds.Prior, pos x.student ∷ pos x.units ∷ [])
filed_as (Apply x) = (kinds.Apply, application_numbers x)
filed_as (Enroll x) = (kinds.Enroll, pos x.student ∷ pos x.year ∷ pos x.term ∷ pos x.credits ∷ [])
filed_as (Originate x) = (kinds.Originate, pos x.student ∷ pos x.year ∷ pos x.cost ∷ [])
filed_as (Pay x) = (kinds.Pay, amount_numbers x)
filed_as (Withdraw x) =
    (kinds.Withdraw, pos x.student ∷ pos x.year ∷ pos x.term ∷ day_number x.last ∷ day_number x.determined ∷ pos x.charges ∷ map (λ cents. pos cents) x.could)
filed_as (Repay x) = (kinds.Repay, amount_numbers x)
filed_as (Adjust x) = (kinds.Adjust, amount_numbers x)
filed_as (Cost x) = (kinds.Cost, pos x.student ∷ pos x.year ∷ pos x.cost ∷ [])
filed_as (Sent x) =
    (kinds.Sent, pos x.student ∷ pos x.year ∷ pos x.term ∷ pos (rank x.program) ∷ pos x.cents ∷ day_number x.day ∷ pos x.reference ∷ [])
filed_as (Amend x) = (kinds.Amend, pos x.of.school ∷ pos x.of.number ∷ pos x.change ∷ pos x.reason ∷ pos x.reference ∷ [])

abbrev pub kind_of : What → Kind
kind_of what = (filed_as what).0

unfoldable pub facts_of : What → List ℤ
facts_of what = (filed_as what).1

-- the numbers of a filing, those of its key first
abbrev pub numbers_of : Filing → List ℤ
numbers_of filing = key_numbers filing.key ++ facts_of filing.what

-- a filing's numbers are within the limits of its kind's fields, as its type makes them
abbrev pub IsFiling : Filing → Type 0
IsFiling filing = AreNumbers (slots_of_kind (kind_of filing.what)) [] (numbers_of filing)
