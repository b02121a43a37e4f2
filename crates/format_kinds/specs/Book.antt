-- The numbers of a book, in the order of its fields. A fixed list is its numbers; a table is its count of rows, and then its
-- rows one after the other. Own format.
use Rattle.std.specs.Prelude.{ℕ, zero, suc, ℤ, pos, List, [], ◌∷◌, ◌++◌, length, flat_map}
use Rattle.aid_books.specs.declared.ages.AgeRow.{AgeRow}
use Rattle.aid_books.specs.declared.book.AssetRates.{AssetRates}
use Rattle.aid_books.specs.declared.book.Book.{Book}
use Rattle.aid_books.specs.declared.book.Employment.{Employment}
use Rattle.aid_books.specs.declared.by_size.BySize.{BySize}
use Rattle.aid_books.specs.declared.book.Payroll.{Payroll}
use Rattle.aid_books.specs.declared.book.PellFigures.{PellFigures}
use Rattle.aid_books.specs.declared.book.Percents.{Percents}
use Rattle.aid_books.specs.declared.book.Poverty.{Poverty}
use Rattle.aid_books.specs.declared.book.Protection.{Protection}
use Rattle.aid_books.specs.declared.book.Schedule.{Schedule}
use Rattle.aid_books.specs.declared.marginal.Bracket.{Bracket}
use Rattle.format_kinds.specs.Kinds.{book_slots}
use Rattle.format_table.specs.Layout.{AreNumbers}

abbrev pub pell_numbers : PellFigures → List ℤ
pell_numbers x = x.maximum ∷ x.minimum ∷ []

abbrev pub percent_numbers : Percents → List ℤ
percent_numbers x =
    x.maximum_single ∷ x.maximum_other ∷ x.minimum_dependent_single ∷ x.minimum_dependent_other ∷ x.minimum_single_parent ∷ x.minimum_parent ∷ x.minimum_no_dependents ∷ []

-- amounts by size of family
abbrev pub size_numbers : {first count : ℕ} → BySize first count → List ℤ
size_numbers x = x.sizes ++ (x.extra ∷ [])

abbrev pub poverty_numbers : Poverty → List ℤ
poverty_numbers x = size_numbers x.contiguous ++ (size_numbers x.alaska ++ size_numbers x.hawaii)

abbrev pub payroll_numbers : Payroll → List ℤ
payroll_numbers x = x.oasdi_cap ∷ x.oasdi_rate ∷ x.medicare_rate ∷ x.medicare_high ∷ x.threshold_single ∷ x.threshold_married ∷ []

abbrev pub protection_numbers : Protection → List ℤ
protection_numbers x =
    size_numbers x.parents ++ (x.dependent_student ∷ x.single_student ∷ x.married_student ∷ (size_numbers x.single_parent ++ size_numbers x.married_parent))

abbrev pub employment_numbers : Employment → List ℤ
employment_numbers x = x.cap ∷ x.rate ∷ []

abbrev pub asset_numbers : AssetRates → List ℤ
asset_numbers x = x.parents_rate ∷ x.dependent_rate ∷ x.no_dependents_rate ∷ x.with_dependents_rate ∷ []

-- the rows of a table by amount, and of the one by age
abbrev pub bracket_row : Bracket → List ℤ
bracket_row row = row.over ∷ row.base ∷ row.rate ∷ []

abbrev pub bracket_numbers : List Bracket → List ℤ
bracket_numbers rows = pos (length rows) ∷ flat_map bracket_row rows

abbrev pub age_row : AgeRow → List ℤ
age_row row = row.start ∷ row.single ∷ row.married ∷ []

abbrev pub age_numbers : List AgeRow → List ℤ
age_numbers rows = pos (length rows) ∷ flat_map age_row rows

abbrev pub schedule_numbers : Schedule → List ℤ
schedule_numbers x = x.low_at ∷ x.low ∷ x.first_rate ∷ x.student_rate ∷ x.lowest_student ∷ []

-- the form of a book without a ceiling is 1, and that of one with it 2; a ceiling is its last number
abbrev pub form_number : ℕ → ℤ
form_number zero = pos 1
form_number (suc n) = pos 2

abbrev pub ceiling_numbers : ℕ → List ℤ
ceiling_numbers zero = []
ceiling_numbers (suc n) = pos (suc n) ∷ []

unfoldable pub numbers_of : Book → List ℤ
numbers_of b =
    (form_number b.ceiling ∷ pos b.year ∷ []) ++ (pell_numbers b.pell ++ (percent_numbers b.percent ++ (poverty_numbers b.poverty ++ (payroll_numbers b.payroll
    ++ (protection_numbers b.protection ++ (employment_numbers b.employment ++ (asset_numbers b.assets ++ (bracket_numbers b.business
    ++ (age_numbers b.age ++ (schedule_numbers b.schedule ++ (bracket_numbers b.bracket ++ ceiling_numbers b.ceiling)))))))))))

-- numbers that a book may have, whatever stands before them
abbrev pub AreBookNumbers : List ℤ → Type 0
AreBookNumbers zs = (earlier : List ℤ) × AreNumbers book_slots earlier zs
