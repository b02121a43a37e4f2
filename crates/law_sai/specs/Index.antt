-- The student's lines in each formula, and the Student Aid Index (HEA 475(a), (f) to (h), 476, 477).
use Rattle.std.specs.Prelude.{◌≡◌, false, if◌then◌else◌, ℤ, pos, neg_ℤ, ◌+ℤ◌, ◌-ℤ◌}
use Rattle.std.specs.Int.{int_max, int_min}
use Rattle.aid_types.specs.Nearest.{share}
use Rattle.aid_types.specs.declared.application.Application.{Application}
use Rattle.aid_books.specs.declared.book.Book.{Book}
use Rattle.aid_types.specs.declared.award.Formula.{Formula}
use Rattle.aid_types.specs.declared.award.Formula.TheVariants.{A, B, C}
use Rattle.law_sai.specs.Household.{employment_allowance, payroll_allowance, protection_allowance, tax_allowance, total_income}
use Rattle.law_sai.specs.Lines.{AreHouseholdLines, AreParentLines, IsAssessed, IsNotAssessed, assessed_lines, household_lines, parent_lines}
use Rattle.law_sai.specs.declared.lines.ParentLines.{ParentLines}
use Rattle.law_sai.specs.Formulas.{formula}
use Rattle.law_sai.specs.declared.IndexLines.{IndexLines}

-- a student's age in the award year, by years alone (HEA 478(d))
abbrev pub age : Book → Application → ℤ
age book a = pos book.year -ℤ pos a.birth_year

-- the contribution from a student's available income: a share of it, and not below the schedule's least
-- (HEA 475(g), 476(b))
unfoldable pub income_contribution : Book → ℤ → ℤ
income_contribution book available = int_max (share available book.schedule.student_rate) book.schedule.lowest_student

-- what the parents' adjusted available income is below 0, which a dependent student is allowed (HEA 475(g))
abbrev pub shortfall : ParentLines → ℤ
shortfall parent = int_max (pos 0) (neg_ℤ parent.adjusted)

-- a dependent student, who counts as not married: the parents' shortfall is an allowance, and all assets but those that
-- parents hold contribute (HEA 475(g), (h); own rule: the worth of a business isn't adjusted)
pub record AreDependentLines (book : Book) (a : Application) (parent l : ParentLines) : Type 0 where
  pub total : l.total ≡ total_income a.own
  pub tax : l.tax ≡ tax_allowance a.own
  pub payroll : l.payroll ≡ payroll_allowance book.payroll false a.own
  pub protection : l.protection ≡ book.protection.dependent_student
  pub employment : l.employment ≡ pos 0
  pub allowances : l.allowances ≡ l.tax +ℤ l.payroll +ℤ l.protection +ℤ shortfall parent
  pub available : l.available ≡ l.total -ℤ l.allowances
  pub business : l.business ≡ pos 0
  pub worth : l.worth ≡ a.own.cash +ℤ a.own.investments +ℤ a.own.business
  pub asset_protection : l.asset_protection ≡ pos 0
  pub discretionary : l.discretionary ≡ l.worth
  pub from_assets : l.from_assets ≡ share l.worth book.assets.dependent_rate
  pub not_assessed : IsNotAssessed l

-- what a student without dependents is allowed for living, and for employment if married (HEA 476(b))
abbrev pub single_or_married : Book → Application → ℤ
single_or_married book a = if a.married then book.protection.married_student else book.protection.single_student

abbrev pub employment_if_married : Book → Application → ℤ
employment_if_married book a = if a.married then employment_allowance book.employment a.own else pos 0

-- an independent student without dependents (HEA 476)
pub record AreSingleLines (book : Book) (a : Application) (l : ParentLines) : Type 0 where
  pub lines : AreHouseholdLines book a.own a.married (age book a) (single_or_married book a) (employment_if_married book a)
      book.assets.no_dependents_rate l
  pub not_assessed : IsNotAssessed l

-- what a student with dependents is allowed for living, by size of family (HEA 477(b))
abbrev pub family_protection : Book → Application → ℤ
family_protection book a =
    protection_allowance (if a.married then book.protection.married_parent else book.protection.single_parent) a.family

-- an independent student with dependents, who is assessed as parents are (HEA 477)
pub record AreFamilyLines (book : Book) (a : Application) (l : ParentLines) : Type 0 where
  pub lines : AreHouseholdLines book a.own a.married (age book a) (family_protection book a)
      (employment_allowance book.employment a.own) book.assets.with_dependents_rate l
  pub assessed : IsAssessed book l

-- lines that a formula doesn't have: all 0
abbrev pub no_lines : ParentLines
no_lines = record {
  total = pos 0;
  tax = pos 0;
  payroll = pos 0;
  protection = pos 0;
  employment = pos 0;
  allowances = pos 0;
  available = pos 0;
  business = pos 0;
  worth = pos 0;
  asset_protection = pos 0;
  discretionary = pos 0;
  from_assets = pos 0;
  adjusted = pos 0;
  contribution = pos 0;
}

-- the lines of each formula, and its raw index (HEA 475(a), 476(a), 477(a))
abbrev pub AreLinesOf : Formula → Book → Application → IndexLines → Type 0
AreLinesOf A book a l =
    AreParentLines book a l.parent × AreDependentLines book a l.parent l.own
    × (l.from_income ≡ income_contribution book l.own.available)
    × (l.raw ≡ l.parent.contribution +ℤ l.from_income +ℤ l.own.from_assets)
AreLinesOf B book a l =
    (l.parent ≡ no_lines) × AreSingleLines book a l.own
    × (l.from_income ≡ income_contribution book l.own.available)
    × (l.raw ≡ l.from_income +ℤ l.own.from_assets)
AreLinesOf C book a l =
    (l.parent ≡ no_lines) × AreFamilyLines book a l.own × (l.from_income ≡ pos 0) × (l.raw ≡ l.own.contribution)

-- a raw index brought to the range of an index: not below -1,500 and not above 999,999 (HEA 473; SAI and Pell Grant
-- Eligibility Guide)
abbrev pub bounded : ℤ → ℤ
bounded raw = int_min (pos 999999) (int_max (neg_ℤ (pos 1500)) raw)

-- the lines of an application under its formula, and the index
pub record AreIndexLines (book : Book) (a : Application) (l : IndexLines) : Type 0 where
  pub formula : l.formula ≡ formula book a
  pub lines : AreLinesOf l.formula book a l
  pub index : l.index ≡ bounded l.raw

-- The same lines, computed. `index_lines-are` and `index_lines-only` of proofs/IndexLaws say that these are the lines of
-- the equations above, and that no others are.

abbrev pub dependent_lines : Book → Application → ParentLines → ParentLines
dependent_lines book a parent =
    let allowances = tax_allowance a.own +ℤ payroll_allowance book.payroll false a.own +ℤ book.protection.dependent_student +ℤ shortfall parent in
    let worth = a.own.cash +ℤ a.own.investments +ℤ a.own.business in
    record {
      total = total_income a.own;
      tax = tax_allowance a.own;
      payroll = payroll_allowance book.payroll false a.own;
      protection = book.protection.dependent_student;
      employment = pos 0;
      allowances = allowances;
      available = total_income a.own -ℤ allowances;
      business = pos 0;
      worth = worth;
      asset_protection = pos 0;
      discretionary = worth;
      from_assets = share worth book.assets.dependent_rate;
      adjusted = pos 0;
      contribution = pos 0;
    }

abbrev pub single_lines : Book → Application → ParentLines
single_lines book a =
    household_lines book a.own a.married (age book a) (single_or_married book a) (employment_if_married book a) book.assets.no_dependents_rate

abbrev pub family_lines : Book → Application → ParentLines
family_lines book a =
    assessed_lines book (household_lines book a.own a.married (age book a) (family_protection book a)
    (employment_allowance book.employment a.own) book.assets.with_dependents_rate)

-- an answer with its raw index brought to the index's range
abbrev pub indexed : Formula → ParentLines → ParentLines → ℤ → ℤ → IndexLines
indexed formula parent own from_income raw =
    record { formula = formula; parent = parent; own = own; from_income = from_income; raw = raw; index = bounded raw }

abbrev pub lines_of : Formula → Book → Application → IndexLines
lines_of A book a =
    let parent = parent_lines book a in
    let own = dependent_lines book a parent in
    let from_income = income_contribution book own.available in
    indexed A parent own from_income (parent.contribution +ℤ from_income +ℤ own.from_assets)
lines_of B book a =
    let own = single_lines book a in
    let from_income = income_contribution book own.available in
    indexed B no_lines own from_income (from_income +ℤ own.from_assets)
lines_of C book a =
    let own = family_lines book a in
    indexed C no_lines own (pos 0) own.contribution

abbrev pub index_lines : Book → Application → IndexLines
index_lines book a = lines_of (formula book a) book a
