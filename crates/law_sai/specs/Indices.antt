-- The Student Aid Index of an application by its amounts and the book alone, without the lines of a worksheet (HEA 475 to 477).
use Rattle.std.specs.Prelude.{false, Bool, ℤ, pos, neg_ℤ, ◌+ℤ◌, ◌-ℤ◌}
use Rattle.std.specs.Int.{int_max}
use Rattle.aid_types.specs.Nearest.{share}
use Rattle.aid_types.specs.declared.application.Application.{Application}
use Rattle.aid_types.specs.declared.application.Side.{Side}
use Rattle.aid_books.specs.declared.book.Book.{Book}
use Rattle.aid_types.specs.declared.award.Formula.{Formula}
use Rattle.aid_types.specs.declared.award.Formula.TheVariants.{A, B, C}
use Rattle.law_sai.specs.Formulas.{formula}
use Rattle.law_sai.specs.Household.{asset_contribution, asset_protection, business_worth, employment_allowance, payroll_allowance, protection_allowance, schedule_value, tax_allowance, total_income}
use Rattle.law_sai.specs.Index.{age, bounded, employment_if_married, family_protection, income_contribution, single_or_married}

-- a household's available income: its total income less the allowances for taxes, for living and for employment
-- (HEA 475(c), 476(b), 477(b))
abbrev pub available : Book → Side → Bool → ℤ → ℤ → ℤ
available book side married living working =
    total_income side -ℤ (tax_allowance side +ℤ payroll_allowance book.payroll married side +ℤ living +ℤ working)

-- its contribution from assets, of which the formula takes a rate (HEA 475(d), 476(c), 477(c))
abbrev pub from_assets : Book → Side → Bool → ℤ → ℤ → ℤ
from_assets book side married age rate =
    asset_contribution (side.support +ℤ side.cash +ℤ side.investments +ℤ business_worth book.business side.business -ℤ asset_protection book.age married age) rate

-- the parents' adjusted available income (HEA 475(b) to (e))
abbrev pub parents_adjusted : Book → Application → ℤ
parents_adjusted book a =
    available book a.parents a.parents_married (protection_allowance book.protection.parents a.family) (employment_allowance book.employment a.parents)
    +ℤ from_assets book a.parents a.parents_married (pos a.parent_age) book.assets.parents_rate

-- The contributions that each formula adds. A: the parents'; the student's from income, for which what the parents' adjusted income is
-- below 0 is an allowance; and the student's from assets (own: a dependent student's business isn't adjusted, support isn't counted).
-- B: the student's from income and from assets. C: the schedule's value of both (HEA 475(a), 476(a), 477(a)).
abbrev pub raw_index : Formula → Book → Application → ℤ
raw_index A book a =
    let shortfall = int_max (pos 0) (neg_ℤ (parents_adjusted book a)) in
    schedule_value book (parents_adjusted book a)
    +ℤ income_contribution book (available book a.own false book.protection.dependent_student shortfall)
    +ℤ share (a.own.cash +ℤ a.own.investments +ℤ a.own.business) book.assets.dependent_rate
raw_index B book a =
    income_contribution book (available book a.own a.married (single_or_married book a) (employment_if_married book a))
    +ℤ from_assets book a.own a.married (age book a) book.assets.no_dependents_rate
raw_index C book a =
    schedule_value book (available book a.own a.married (family_protection book a) (employment_allowance book.employment a.own)
    +ℤ from_assets book a.own a.married (age book a) book.assets.with_dependents_rate)

-- the index of an application by its formula
abbrev pub index_of : Book → Application → ℤ
index_of book a = bounded (raw_index (formula book a) book a)
