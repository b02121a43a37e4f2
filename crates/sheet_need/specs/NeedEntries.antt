-- The lines of a worksheet, section by section (HEA 401(b), 475 to 478, 480). An amount has no line where it is 0.
use Rattle.std.specs.Prelude.{ℕ, ℤ, pos, ◌*ℤ◌, ◌/◌, unsigned_abs, ◌==◌, int_lt, Bool, List, [], ◌∷◌, ◌++◌, if◌then◌else◌}
use Rattle.std.specs.Ordering.{int_eq}
use Rattle.aid_books.specs.declared.book.Book.{Book}
use Rattle.aid_types.specs.declared.application.Application.{Application}
use Rattle.aid_types.specs.declared.application.Side.{Side}
use Rattle.aid_types.specs.declared.award.Formula.{Formula}
use Rattle.aid_types.specs.declared.award.Formula.TheVariants.{A}
use Rattle.law_sai.specs.declared.lines.ParentLines.{ParentLines}
use Rattle.law_sai.specs.Index.{age, shortfall}
use Rattle.law_sai.specs.declared.IndexLines.{IndexLines}
use Rattle.law_pell.specs.Award.{calculated, ceiling_bound, guideline, income, is_barred, maximum_percent, minimum_percent, must_file}
use Rattle.law_pell.specs.declared.Decision.{Decision}
use Rattle.sheet_need.specs.declared.entry.Entry.{Entry}
use Rattle.sheet_need.specs.declared.entry.Label.{Label}
use Rattle.sheet_need.specs.declared.entry.Label.TheVariants.{Agi, Ira, Interest, IraUntaxed, Pension, Foreign, Grants, Credits, WorkStudy, TotalIncome, Tax, Payroll, Protection, FamilyProtection, Employment, Shortfall, Allowances, Available, FromIncome, LeastFromIncome, Support, Cash, Investments, Business, AdjustedBusiness, NetWorth, AssetProtection, Discretionary, FromAssets, NoneFromAssets, Adjusted, BySchedule, Contributions, Index, Ceiling, ParentsMustFile, StudentMustFile, Barred, ParentsAgi, StudentAgi, ParentsAgiAndForeign, StudentAgiAndForeign, Guideline, MaximumUpTo, MinimumUpTo, Calculated, CalculatedAtZero, MinimumAward, Scheduled, FinalIndex}
use Rattle.sheet_need.specs.declared.entry.Mark.{Mark}
use Rattle.sheet_need.specs.declared.entry.Mark.TheVariants.{Blank, Equals, Plus, Minus}
use Rattle.sheet_need.specs.declared.entry.Part.{Part}
use Rattle.sheet_need.specs.declared.entry.Part.TheVariants.{Empty, Number, Rate, WayTaken}
use Rattle.sheet_need.specs.declared.entry.Figure.TheVariants.{Worked, Dollars, Answer}

-- an amount, a worked line, one with something within its words, and an answer
abbrev pub amount : Mark → Label → ℤ → Entry
amount mark label dollars = record { mark = mark; label = label; part = Empty; figure = Dollars dollars }

abbrev pub worked : Mark → Label → ℤ → Entry
worked mark label n = record { mark = mark; label = label; part = Empty; figure = Worked n }

abbrev pub worked_with : Mark → Label → Part → ℤ → Entry
worked_with mark label part n = record { mark = mark; label = label; part = part; figure = Worked n }

abbrev pub answer : Label → Bool → Entry
answer label b = record { mark = Blank; label = label; part = Empty; figure = Answer b }

-- the amounts of a household's income, and its total income
abbrev pub income_entries : Side → ParentLines → List Entry
income_entries s l =
    amount Blank Agi s.agi ∷ amount Plus Ira s.ira ∷ amount Plus Interest s.interest ∷ amount Plus IraUntaxed s.ira_untaxed
    ∷ amount Plus Pension s.pension ∷ amount Plus Foreign s.foreign ∷ amount Minus Grants s.grants ∷ amount Minus Credits s.credits
    ∷ amount Minus WorkStudy s.work_study ∷ worked Equals TotalIncome l.total ∷ []

-- its allowances: for taxes, for living, and a further one; and what they leave
abbrev pub allowance_entries : Entry → Entry → ParentLines → List Entry
allowance_entries living further l =
    worked Blank Tax l.tax ∷ worked Plus Payroll l.payroll ∷ living ∷ further ∷ worked Equals Allowances l.allowances
    ∷ worked Blank Available l.available ∷ []

-- what is allowed for living, by size of family or not; for employment; and for what the parents' adjusted income is below 0
abbrev pub family_living : ℕ → ParentLines → Entry
family_living family l = worked_with Plus FamilyProtection (Number (pos family)) l.protection

abbrev pub own_living : ParentLines → Entry
own_living l = worked Plus Protection l.protection

abbrev pub employment : ParentLines → Entry
employment l = worked Plus Employment l.employment

abbrev pub below_zero : ParentLines → Entry
below_zero parent = worked Plus Shortfall (shortfall parent)

-- a student's contribution from income, by its rate or as the least that the book allows (HEA 475(g), 476(b))
abbrev pub least_or_share : ℤ → ℤ → ℤ → Entry
least_or_share lowest rate n = if int_eq n lowest then worked Blank LeastFromIncome n else worked_with Blank FromIncome (Rate rate) n

abbrev pub from_income : Book → IndexLines → Entry
from_income book l = least_or_share book.schedule.lowest_student book.schedule.student_rate l.from_income

-- a household's assets, and its net worth
abbrev pub worth_entries : Side → ParentLines → List Entry
worth_entries s l =
    amount Blank Support s.support ∷ amount Plus Cash s.cash ∷ amount Plus Investments s.investments
    ∷ amount Plus AdjustedBusiness l.business ∷ worked Equals NetWorth l.worth ∷ []

-- what a rate takes of assets, and the same where nothing is taken of a rest below 0
abbrev pub from_assets : ℤ → ParentLines → Entry
from_assets rate l = worked_with Blank FromAssets (Rate rate) l.from_assets

abbrev pub from_assets_above : ℤ → ParentLines → Entry
from_assets_above rate l = if int_lt l.discretionary (pos 0) then worked Blank NoneFromAssets l.from_assets else from_assets rate l

-- what is protected of it at an age, and what a rate takes of the rest

abbrev pub asset_entries : ℤ → ℤ → ParentLines → List Entry
asset_entries age rate l =
    worked_with Minus AssetProtection (Number age) l.asset_protection ∷ worked Equals Discretionary l.discretionary
    ∷ from_assets_above rate l ∷ []

-- a dependent student's assets, and what a rate takes of them
abbrev pub dependent_assets : Side → ℤ → ParentLines → List Entry
dependent_assets s rate l =
    amount Blank Cash s.cash ∷ amount Plus Investments s.investments ∷ amount Plus Business s.business
    ∷ worked Equals NetWorth l.worth ∷ from_assets rate l ∷ []

-- what the schedule makes of income and assets
abbrev pub schedule_entries : ParentLines → List Entry
schedule_entries l = worked Blank Adjusted l.adjusted ∷ worked Blank BySchedule l.contribution ∷ []

-- a household that the schedule assesses
abbrev pub assessed_entries : Side → ℕ → ℤ → ℤ → ParentLines → List Entry
assessed_entries s family age rate l =
    income_entries s l ++ allowance_entries (family_living family l) (employment l) l
    ++ worth_entries s l ++ asset_entries age rate l ++ schedule_entries l

-- the parents of a dependent student, and the student (HEA 475)
abbrev pub parent_entries : Book → Application → IndexLines → List Entry
parent_entries book a l = assessed_entries a.parents a.family (pos a.parent_age) book.assets.parents_rate l.parent

abbrev pub dependent_entries : Book → Application → IndexLines → List Entry
dependent_entries book a l =
    income_entries a.own l.own ++ allowance_entries (own_living l.own) (below_zero l.parent) l.own ++ from_income book l ∷ []
    ++ dependent_assets a.own book.assets.dependent_rate l.own

-- an independent student without dependents (HEA 476)
abbrev pub single_entries : Book → Application → IndexLines → List Entry
single_entries book a l =
    income_entries a.own l.own ++ allowance_entries (own_living l.own) (employment l.own) l.own ++ from_income book l ∷ []
    ++ worth_entries a.own l.own ++ asset_entries (age book a) book.assets.no_dependents_rate l.own

-- one with dependents (HEA 477)
abbrev pub family_entries : Book → Application → IndexLines → List Entry
family_entries book a l = assessed_entries a.own a.family (age book a) book.assets.with_dependents_rate l.own

-- the sum of the contributions, the index, and the least one at the year's ceiling (HEA 401(b)(1), 473)
abbrev pub raw_entry : IndexLines → Entry
raw_entry l = worked Equals Contributions l.raw

abbrev pub index_entry : IndexLines → Entry
index_entry l = worked Blank Index l.index

abbrev pub ceiling_entry : Book → Entry
ceiling_entry book = amount Blank Ceiling (pos (ceiling_bound book))

-- the answers that decide before an income does (HEA 401(b)(1), (d)(1))
abbrev pub filing_label : Formula → Label
filing_label A = ParentsMustFile
filing_label f = StudentMustFile

abbrev pub filing_entry : Formula → Application → Entry
filing_entry f a = answer (filing_label f) (must_file f a)

abbrev pub barred_entry : Application → Entry
barred_entry a = answer Barred (is_barred a)

abbrev pub index_entries : Formula → Book → Application → IndexLines → List Entry
index_entries f book a l = raw_entry l ∷ index_entry l ∷ ceiling_entry book ∷ filing_entry f a ∷ barred_entry a ∷ []

-- whose income counts, and which: the foreign income too, where the year has a ceiling
abbrev pub income_label : Formula → Book → Label
income_label A book = if book.ceiling == 0 then ParentsAgi else ParentsAgiAndForeign
income_label f book = if book.ceiling == 0 then StudentAgi else StudentAgiAndForeign

-- the greatest whole income of at most so many percent of a guideline
abbrev pub most_within : ℤ → ℤ → ℤ
most_within percent guideline = pos (unsigned_abs (percent *ℤ guideline) / 100)

-- the income that decides, and up to which income it makes an award a Maximum or a Minimum (HEA 401(b)(1))
abbrev pub percent_entry : Label → ℤ → ℤ → Entry
percent_entry label percent guideline = worked_with Blank label (Number percent) (most_within percent guideline)

abbrev pub income_entry : Formula → Book → Application → Entry
income_entry f book a = worked Blank (income_label f book) (income book f a)

abbrev pub guideline_entry : Book → Application → Entry
guideline_entry book a = worked_with Blank Guideline (Number (pos a.family)) (guideline book a)

abbrev pub maximum_entry : Formula → Book → Application → Entry
maximum_entry f book a = percent_entry MaximumUpTo (maximum_percent book.percent f a) (guideline book a)

abbrev pub at_least_entry : Formula → Book → Application → Entry
at_least_entry f book a = percent_entry MinimumUpTo (minimum_percent book.percent f a) (guideline book a)

abbrev pub guideline_entries : Formula → Book → Application → List Entry
guideline_entries f book a = income_entry f book a ∷ guideline_entry book a ∷ maximum_entry f book a ∷ at_least_entry f book a ∷ []

-- what the index leaves of the Maximum, where one below 0 counts as 0; the year's Minimum, the Scheduled Award with its way, and the
-- final index (HEA 401(b)(1))
abbrev pub calculated_label : IndexLines → Label
calculated_label l = if int_lt l.index (pos 0) then CalculatedAtZero else Calculated

abbrev pub calculated_entry : Book → IndexLines → Entry
calculated_entry book l = worked_with Blank (calculated_label l) (Number book.pell.maximum) (calculated book l.index)

abbrev pub minimum_entry : Book → Entry
minimum_entry book = worked Blank MinimumAward book.pell.minimum

abbrev pub scheduled_entry : Decision → Entry
scheduled_entry d = worked_with Blank Scheduled (WayTaken d.way) (pos d.scheduled)

abbrev pub final_entry : Decision → Entry
final_entry d = worked Blank FinalIndex d.sai

abbrev pub decision_entries : Book → IndexLines → Decision → List Entry
decision_entries book l d = calculated_entry book l ∷ minimum_entry book ∷ scheduled_entry d ∷ final_entry d ∷ []

abbrev pub award_entries : Formula → Book → Application → IndexLines → Decision → List Entry
award_entries f book a l d = index_entries f book a l ++ guideline_entries f book a ++ decision_entries book l d
