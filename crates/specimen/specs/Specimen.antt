-- The figures of the specimen book, in the order of the book's fields. They are own, even where one looks published.
use Rattle.std.specs.Prelude.{◌≡◌, ℕ, pos, neg_ℤ, List, [], ◌∷◌, map}
use Rattle.aid_books.specs.declared.ages.AgeRow.{AgeRow}
use Rattle.aid_books.specs.declared.book.AssetRates.{AssetRates}
use Rattle.aid_books.specs.declared.book.Book.{Book}
use Rattle.aid_books.specs.declared.book.Employment.{Employment}
use Rattle.aid_books.specs.declared.book.Payroll.{Payroll}
use Rattle.aid_books.specs.declared.book.PellFigures.{PellFigures}
use Rattle.aid_books.specs.declared.book.Percents.{Percents}
use Rattle.aid_books.specs.declared.book.Poverty.{Poverty}
use Rattle.aid_books.specs.declared.book.Protection.{Protection}
use Rattle.aid_books.specs.declared.book.Schedule.{Schedule}
use Rattle.aid_books.specs.declared.by_size.BySize.{BySize}
use Rattle.aid_books.specs.declared.marginal.Bracket.{Bracket}

-- amounts by size of family, and what each further member adds
abbrev pub HasSizes : (first count : ℕ) → BySize first count → List ℕ → ℕ → Type 0
HasSizes first count amounts sizes extra = (amounts.sizes ≡ map pos sizes) × (amounts.extra ≡ pos extra)

abbrev pub IsPell : PellFigures → Type 0
IsPell p = (p.maximum ≡ pos 7395) × (p.minimum ≡ pos 740)

abbrev pub ArePercents : Percents → Type 0
ArePercents p =
    p.maximum_single ∷ p.maximum_other ∷ p.minimum_dependent_single ∷ p.minimum_dependent_other ∷ p.minimum_single_parent ∷ p.minimum_parent
    ∷ p.minimum_no_dependents ∷ [] ≡ map pos (225 ∷ 175 ∷ 325 ∷ 275 ∷ 400 ∷ 350 ∷ 275 ∷ [])

abbrev pub IsPoverty : Poverty → Type 0
IsPoverty p =
    HasSizes 1 8 p.contiguous (14580 ∷ 19720 ∷ 24860 ∷ 30000 ∷ 35140 ∷ 40280 ∷ 45420 ∷ 50560 ∷ []) 5140
    × HasSizes 1 8 p.alaska (18210 ∷ 24640 ∷ 31070 ∷ 37500 ∷ 43930 ∷ 50360 ∷ 56790 ∷ 63220 ∷ []) 6430
    × HasSizes 1 8 p.hawaii (16770 ∷ 22680 ∷ 28590 ∷ 34500 ∷ 40410 ∷ 46320 ∷ 52230 ∷ 58140 ∷ []) 5910

abbrev pub IsPayroll : Payroll → Type 0
IsPayroll p =
    p.oasdi_cap ∷ p.oasdi_rate ∷ p.medicare_rate ∷ p.medicare_high ∷ p.threshold_single ∷ p.threshold_married ∷ []
    ≡ map pos (168600 ∷ 620 ∷ 145 ∷ 235 ∷ 200000 ∷ 250000 ∷ [])

abbrev pub IsProtection : Protection → Type 0
IsProtection p =
    HasSizes 2 5 p.parents (28530 ∷ 35510 ∷ 43870 ∷ 51750 ∷ 60540 ∷ []) 6840
    × (p.dependent_student ∷ p.single_student ∷ p.married_student ∷ [] ≡ map pos (11770 ∷ 18310 ∷ 29350 ∷ []))
    × HasSizes 2 5 p.single_parent (53660 ∷ 66800 ∷ 82500 ∷ 97330 ∷ 113840 ∷ []) 12860
    × HasSizes 2 5 p.married_parent (42800 ∷ 53270 ∷ 65810 ∷ 77630 ∷ 90810 ∷ []) 10260

abbrev pub IsEmployment : Employment → Type 0
IsEmployment e = (e.cap ≡ pos 4730) × (e.rate ≡ pos 3500)

abbrev pub AreAssetRates : AssetRates → Type 0
AreAssetRates a =
    a.parents_rate ∷ a.dependent_rate ∷ a.no_dependents_rate ∷ a.with_dependents_rate ∷ [] ≡ map pos (1200 ∷ 2000 ∷ 2000 ∷ 700 ∷ [])

abbrev pub IsSchedule : Schedule → Type 0
IsSchedule s =
    s.low_at ∷ s.low ∷ s.first_rate ∷ s.student_rate ∷ s.lowest_student ∷ []
    ≡ neg_ℤ (pos 6820) ∷ neg_ℤ (pos 1500) ∷ pos 2200 ∷ pos 5000 ∷ neg_ℤ (pos 1500) ∷ []

-- a row of a table by amount, and of the one by age
abbrev pub bracket : ℕ → ℕ → ℕ → Bracket
bracket over base rate = record { over = pos over; base = pos base; rate = pos rate }

abbrev pub age_row : ℕ → ℕ → ℕ → AgeRow
age_row start single married = record { start = pos start; single = pos single; married = pos married }

abbrev pub business_rows : List Bracket
business_rows = bracket 0 0 4000 ∷ bracket 165000 66000 5000 ∷ bracket 490000 228500 6000 ∷ bracket 815000 423500 10000 ∷ []

abbrev pub age_rows : List AgeRow
age_rows = age_row 0 0 0 ∷ age_row 26 500 800 ∷ age_row 40 2500 6000 ∷ age_row 65 4000 10000 ∷ []

abbrev pub bracket_rows : List Bracket
bracket_rows =
    bracket 20500 4510 2500 ∷ bracket 25700 5810 2900 ∷ bracket 30900 7318 3400 ∷ bracket 36200 9120 4000 ∷ bracket 41500 11240 4700 ∷ []

-- the whole book. It is not seen through, so that a caller's proofs don't carry its figures
unfoldable pub IsSpecimenBook : Book → Type 0
IsSpecimenBook b =
    (b.year ≡ 2025) × IsPell b.pell × ArePercents b.percent × IsPoverty b.poverty × IsPayroll b.payroll × IsProtection b.protection
    × IsEmployment b.employment × AreAssetRates b.assets × (b.business ≡ business_rows) × (b.age ≡ age_rows) × IsSchedule b.schedule
    × (b.bracket ≡ bracket_rows) × (b.ceiling ≡ 0)
