-- The lines of a household in need analysis, as equations on the lines themselves (HEA 475(b) to (e), 476, 477).
use Rattle.std.specs.Prelude.{◌≡◌, Bool, ℤ, pos, ◌+ℤ◌, ◌-ℤ◌}
use Rattle.aid_types.specs.declared.application.Application.{Application}
use Rattle.aid_types.specs.declared.application.Side.{Side}
use Rattle.aid_books.specs.declared.book.Book.{Book}
use Rattle.law_sai.specs.Household.{asset_contribution, asset_protection, business_worth, employment_allowance, payroll_allowance, protection_allowance, schedule_value, tax_allowance, total_income}
use Rattle.law_sai.specs.declared.lines.ParentLines.{ParentLines}

-- income and assets of a household whose formula allows `allowed` for living and `working` for employment, and takes
-- `rate` of its assets: each line by the lines before it, the amounts and the book (HEA 475(b) to (d), 476(b) and (c))
pub record AreHouseholdLines (book : Book) (side : Side) (married : Bool) (age allowed working rate : ℤ) (l : ParentLines) : Type 0 where
  pub total : l.total ≡ total_income side
  pub tax : l.tax ≡ tax_allowance side
  pub payroll : l.payroll ≡ payroll_allowance book.payroll married side
  pub protection : l.protection ≡ allowed
  pub employment : l.employment ≡ working
  pub allowances : l.allowances ≡ l.tax +ℤ l.payroll +ℤ l.protection +ℤ l.employment
  pub available : l.available ≡ l.total -ℤ l.allowances
  pub business : l.business ≡ business_worth book.business side.business
  pub worth : l.worth ≡ side.support +ℤ side.cash +ℤ side.investments +ℤ l.business
  pub asset_protection : l.asset_protection ≡ asset_protection book.age married age
  pub discretionary : l.discretionary ≡ l.worth -ℤ l.asset_protection
  pub from_assets : l.from_assets ≡ asset_contribution l.discretionary rate

-- the household is assessed by the schedule: its adjusted available income, and the schedule's value of it
-- (HEA 475(e), 477(d))
pub record IsAssessed (book : Book) (l : ParentLines) : Type 0 where
  pub adjusted : l.adjusted ≡ l.available +ℤ l.from_assets
  pub contribution : l.contribution ≡ schedule_value book l.adjusted

-- it isn't: the two lines are 0 (HEA 476)
pub record IsNotAssessed (l : ParentLines) : Type 0 where
  pub adjusted : l.adjusted ≡ pos 0
  pub contribution : l.contribution ≡ pos 0

-- the parents of a dependent student (HEA 475(b) to (e))
pub record AreParentLines (book : Book) (a : Application) (l : ParentLines) : Type 0 where
  pub lines : AreHouseholdLines book a.parents a.parents_married (pos a.parent_age)
      (protection_allowance book.protection.parents a.family) (employment_allowance book.employment a.parents) book.assets.parents_rate l
  pub assessed : IsAssessed book l

-- The same lines, computed. `household_lines-are`, `household_lines-only` and the like of proofs/LinesLaws say that these
-- are the lines of the equations above, and that no others are.

-- a household that isn't assessed
abbrev pub household_lines : Book → Side → Bool → ℤ → ℤ → ℤ → ℤ → ParentLines
household_lines book side married age allowed working rate =
    let allowances = tax_allowance side +ℤ payroll_allowance book.payroll married side +ℤ allowed +ℤ working in
    let worth = side.support +ℤ side.cash +ℤ side.investments +ℤ business_worth book.business side.business in
    let discretionary = worth -ℤ asset_protection book.age married age in
    record {
      total = total_income side;
      tax = tax_allowance side;
      payroll = payroll_allowance book.payroll married side;
      protection = allowed;
      employment = working;
      allowances = allowances;
      available = total_income side -ℤ allowances;
      business = business_worth book.business side.business;
      worth = worth;
      asset_protection = asset_protection book.age married age;
      discretionary = discretionary;
      from_assets = asset_contribution discretionary rate;
      adjusted = pos 0;
      contribution = pos 0;
    }

-- those lines of a household that is assessed
abbrev pub assessed_lines : Book → ParentLines → ParentLines
assessed_lines book l = record l {
  adjusted = l.available +ℤ l.from_assets;
  contribution = schedule_value book (l.available +ℤ l.from_assets);
}

abbrev pub parent_lines : Book → Application → ParentLines
parent_lines book a =
    assessed_lines book (household_lines book a.parents a.parents_married (pos a.parent_age)
    (protection_allowance book.protection.parents a.family) (employment_allowance book.employment a.parents) book.assets.parents_rate)
