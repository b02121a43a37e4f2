-- What makes the book of an award year valid: its figures are in range (own ranges), and its tables meet the conditions
-- that the law's schedules have (HEA 475(d), (e), 476, 477, 478).
use Rattle.std.specs.Prelude.{◌≡◌, ℕ, suc, ◌≤◌, pos, ◌<ℤ◌, List, length, All, slice_get, Some}
use Rattle.aid_types.specs.Nearest.{share}
use Rattle.aid_books.specs.Ages.{IsAgeRow}
use Rattle.aid_books.specs.Marginal.{IsBracket, row_value}
use Rattle.aid_types.specs.Ranges.{IsAmount, IsBetween, IsFloor, IsPercent, IsRate, IsWithin}
use Rattle.aid_books.specs.declared.ages.AgeRow.{AgeRow}
use Rattle.aid_books.specs.declared.book.AssetRates.{AssetRates}
use Rattle.aid_books.specs.declared.book.Book.{Book}
use Rattle.aid_books.specs.declared.book.Employment.{Employment}
use Rattle.aid_books.specs.declared.book.Payroll.{Payroll}
use Rattle.aid_books.specs.declared.book.PellFigures.{PellFigures}
use Rattle.aid_books.specs.declared.book.Percents.{Percents}
use Rattle.aid_books.specs.declared.book.Protection.{Protection}
use Rattle.aid_books.specs.declared.book.Schedule.{Schedule}
use Rattle.aid_books.specs.declared.by_size.BySize.{BySize}
use Rattle.aid_books.specs.declared.marginal.Bracket.{Bracket}

-- a row and the one after it
abbrev pub AreNeighbours : {A : Type 0} → List A → ℕ → A → A → Type 0
AreNeighbours rows k row next = (slice_get rows k ≡ Some row) × (slice_get rows (suc k) ≡ Some next)

-- a table by amount: 1 to 16 rows in range, each above the one before it and beginning with the value that that one
-- has there
pub record IsBracketTable (rows : List Bracket) : Type 0 where
  pub count : IsBetween 1 16 (length rows)
  pub in_range : All IsBracket rows
  pub rises : (k : ℕ) (row next : Bracket) → AreNeighbours rows k row next → row.over <ℤ next.over
  pub goes_on : (k : ℕ) (row next : Bracket) → AreNeighbours rows k row next → next.base ≡ row_value row next.over

-- a table by age: 1 to 64 rows in range, each at a greater age than the one before it
pub record IsAgeTable (rows : List AgeRow) : Type 0 where
  pub count : IsBetween 1 64 (length rows)
  pub in_range : All IsAgeRow rows
  pub rises : (k : ℕ) (row next : AgeRow) → AreNeighbours rows k row next → row.start <ℤ next.start

-- the Scheduled Award's greatest and least amounts (HEA 401(b))
pub record ArePellFigures (p : PellFigures) : Type 0 where
  pub maximum : IsWithin (pos 1) (pos 99999) p.maximum
  pub minimum : IsWithin (pos 1) p.maximum p.minimum

-- the percents of the poverty guideline (HEA 401(b))
pub record ArePercents (p : Percents) : Type 0 where
  pub maximum_single : IsPercent p.maximum_single
  pub maximum_other : IsPercent p.maximum_other
  pub minimum_dependent_single : IsPercent p.minimum_dependent_single
  pub minimum_dependent_other : IsPercent p.minimum_dependent_other
  pub minimum_single_parent : IsPercent p.minimum_single_parent
  pub minimum_parent : IsPercent p.minimum_parent
  pub minimum_no_dependents : IsPercent p.minimum_no_dependents

-- amounts by size of family
pub record AreAmountsBySize (first count : ℕ) (amounts : BySize first count) : Type 0 where
  pub sizes : All IsAmount amounts.sizes
  pub extra : IsAmount amounts.extra

-- the payroll tax allowance (HEA 478(g))
pub record IsPayroll (p : Payroll) : Type 0 where
  pub oasdi_cap : IsAmount p.oasdi_cap
  pub oasdi_rate : IsRate p.oasdi_rate
  pub medicare_rate : IsRate p.medicare_rate
  pub medicare_high : IsRate p.medicare_high
  pub threshold_single : IsAmount p.threshold_single
  pub threshold_married : IsAmount p.threshold_married

-- the income protection allowances (HEA 478(b))
pub record IsProtection (p : Protection) : Type 0 where
  pub parents : AreAmountsBySize 2 5 p.parents
  pub dependent_student : IsAmount p.dependent_student
  pub single_student : IsAmount p.single_student
  pub married_student : IsAmount p.married_student
  pub single_parent : AreAmountsBySize 2 5 p.single_parent
  pub married_parent : AreAmountsBySize 2 5 p.married_parent

-- the employment expense allowance (HEA 478(h))
pub record IsEmployment (e : Employment) : Type 0 where
  pub cap : IsAmount e.cap
  pub rate : IsRate e.rate

-- the rates at which assets contribute
pub record AreAssetRates (a : AssetRates) : Type 0 where
  pub parents_rate : IsRate a.parents_rate
  pub dependent_rate : IsRate a.dependent_rate
  pub no_dependents_rate : IsRate a.no_dependents_rate
  pub with_dependents_rate : IsRate a.with_dependents_rate

-- the assessment schedule beside its brackets (HEA 475(e))
pub record IsSchedule (s : Schedule) : Type 0 where
  pub low_at : IsFloor s.low_at
  pub low : IsFloor s.low
  pub first_rate : IsRate s.first_rate
  pub student_rate : IsRate s.student_rate
  pub lowest_student : IsFloor s.lowest_student

-- the whole book: the first row of `business` is at 0 with 0, that of `age` at 0, and that of `bracket` begins with what
-- the first rate gives there
pub record IsValidBook (b : Book) : Type 0 where
  pub year : IsBetween 2000 2099 b.year
  pub pell : ArePellFigures b.pell
  pub percent : ArePercents b.percent
  pub contiguous : AreAmountsBySize 1 8 b.poverty.contiguous
  pub alaska : AreAmountsBySize 1 8 b.poverty.alaska
  pub hawaii : AreAmountsBySize 1 8 b.poverty.hawaii
  pub payroll : IsPayroll b.payroll
  pub protection : IsProtection b.protection
  pub employment : IsEmployment b.employment
  pub assets : AreAssetRates b.assets
  pub business : IsBracketTable b.business
  pub business_first : (row : Bracket) → slice_get b.business 0 ≡ Some row → (row.over ≡ pos 0) × (row.base ≡ pos 0)
  pub age : IsAgeTable b.age
  pub age_first : (row : AgeRow) → slice_get b.age 0 ≡ Some row → row.start ≡ pos 0
  pub schedule : IsSchedule b.schedule
  pub bracket : IsBracketTable b.bracket
  pub bracket_first : (row : Bracket) → slice_get b.bracket 0 ≡ Some row → row.base ≡ share row.over b.schedule.first_rate
  pub ceiling : b.ceiling ≤ 9999
