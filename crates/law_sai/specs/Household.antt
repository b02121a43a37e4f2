-- The lines of need analysis that every household has, from its amounts and the year's book (HEA 475 to 478, 480).
use Rattle.std.specs.Prelude.{ℕ, Bool, if◌then◌else◌, ℤ, pos, ◌+ℤ◌, ◌-ℤ◌, ◌≤ℤ◌, int_lt, All, List, option_map, unwrap_or}
use Rattle.std.specs.Int.{int_max, int_min}
use Rattle.aid_types.specs.Nearest.{share}
use Rattle.aid_books.specs.Ages.{row_at_age}
use Rattle.aid_books.specs.BySize.{by_size}
use Rattle.aid_books.specs.Marginal.{IsBracket, IsMarginal, value_at}
use Rattle.aid_books.specs.declared.ages.AgeRow.{AgeRow}
use Rattle.aid_types.specs.declared.application.Side.{Side}
use Rattle.aid_books.specs.declared.book.Book.{Book}
use Rattle.aid_books.specs.declared.book.Employment.{Employment}
use Rattle.aid_books.specs.declared.book.Payroll.{Payroll}
use Rattle.aid_books.specs.declared.by_size.BySize.{BySize}
use Rattle.aid_books.specs.declared.marginal.Bracket.{Bracket}

-- untaxed income and benefits (HEA 480(b))
abbrev pub untaxed_income : Side → ℤ
untaxed_income s = s.ira +ℤ s.interest +ℤ s.ira_untaxed +ℤ s.pension +ℤ s.foreign

-- what is taken off income: grants, education credits and work-study (HEA 480(e))
abbrev pub income_offsets : Side → ℤ
income_offsets s = s.grants +ℤ s.credits +ℤ s.work_study

-- total income (HEA 480(a))
unfoldable pub total_income : Side → ℤ
total_income s = s.agi +ℤ untaxed_income s -ℤ income_offsets s

-- the allowance for federal income tax: the tax, if it is above 0 (HEA 475(c)(1)(A))
unfoldable pub tax_allowance : Side → ℤ
tax_allowance s = int_max s.tax (pos 0)

-- what both earned (HEA 478(g), (h))
abbrev pub earned : Side → ℤ
earned s = s.earned_first +ℤ s.earned_second

-- the amount from which the higher Medicare rate is due (HEA 478(g))
abbrev pub medicare_threshold : Payroll → Bool → ℤ
medicare_threshold p married = if married then p.threshold_married else p.threshold_single

-- the old age insurance of one earner, up to the cap (HEA 478(g))
unfoldable pub oasdi : Payroll → ℤ → ℤ
oasdi p earned = share (int_min earned p.oasdi_cap) p.oasdi_rate

-- the Medicare tax of what both earned, up to the threshold and beyond it (HEA 478(g))
unfoldable pub medicare : Payroll → Bool → ℤ → ℤ
medicare p married earned =
    share (int_min earned (medicare_threshold p married)) p.medicare_rate
    +ℤ share (int_max (earned -ℤ medicare_threshold p married) (pos 0)) p.medicare_high

-- the payroll tax allowance, each product rounded once (HEA 475(c), 478(g); own: the place of each rounding)
unfoldable pub payroll_allowance : Payroll → Bool → Side → ℤ
payroll_allowance p married s = oasdi p s.earned_first +ℤ oasdi p s.earned_second +ℤ medicare p married (earned s)

-- the employment expense allowance: a share of what both earned, up to the cap (HEA 478(h))
unfoldable pub employment_allowance : Employment → Side → ℤ
employment_allowance e s = int_min e.cap (share (earned s) e.rate)

-- an income protection allowance by size of family (HEA 478(b))
abbrev pub protection_allowance : BySize 2 5 → ℕ → ℤ
protection_allowance allowance family = by_size 2 allowance.sizes allowance.extra family

-- the adjusted net worth of a business: 0 where it has none (HEA 478(c))
unfoldable pub business_worth : List Bracket → ℤ → ℤ
business_worth rows x = unwrap_or (value_at rows x) (pos 0)

-- the asset protection allowance: the amount of the last row that begins at most at the age (HEA 478(d))
unfoldable pub asset_protection : List AgeRow → Bool → ℤ → ℤ
asset_protection rows married age =
    unwrap_or (option_map (λ row. if married then row.married else row.single) (row_at_age rows age)) (pos 0)

-- the contribution from assets: a share of the discretionary net worth, if that is above 0 (HEA 475(d), 476(c), 477(c))
unfoldable pub asset_contribution : ℤ → ℤ → ℤ
asset_contribution discretionary rate = int_max (pos 0) (share discretionary rate)

-- the assessment schedule's value of an adjusted available income (HEA 475(e), 477(d))
unfoldable pub schedule_value : Book → ℤ → ℤ
schedule_value b x =
    if int_lt x b.schedule.low_at then b.schedule.low
    else unwrap_or (value_at b.bracket x) (share x b.schedule.first_rate)

-- own, for the law on income: a schedule that falls nowhere. Its brackets are a book's, and its least value is no
-- greater than the first rate's at the place up to which the least value stands
pub record IsRisingSchedule (b : Book) : Type 0 where
  pub rows : All IsBracket b.bracket
  pub marginal : IsMarginal b.bracket
  pub low : b.schedule.low ≤ℤ share b.schedule.low_at b.schedule.first_rate
