-- The text of a year book in TOML: that of `book` and `check book`. Own layout.
use Rattle.std.specs.Prelude.{ℕ, ◌==◌, ℤ, List, [], ◌∷◌, ◌++◌, codes, decimal, if◌then◌else◌}
use Rattle.std.specs.List.{concat, flat_map}
use Rattle.aid_types.specs.Whole.{whole_text}
use Rattle.aid_books.specs.declared.ages.AgeRow.{AgeRow}
use Rattle.aid_books.specs.declared.book.AssetRates.{AssetRates}
use Rattle.aid_books.specs.declared.book.Book.{Book}
use Rattle.aid_books.specs.declared.book.Employment.{Employment}
use Rattle.aid_books.specs.declared.book.Payroll.{Payroll}
use Rattle.aid_books.specs.declared.book.PellFigures.{PellFigures}
use Rattle.aid_books.specs.declared.book.Percents.{Percents}
use Rattle.aid_books.specs.declared.book.Poverty.{Poverty}
use Rattle.aid_books.specs.declared.book.Protection.{Protection}
use Rattle.aid_books.specs.declared.book.Schedule.{Schedule}
use Rattle.aid_books.specs.declared.marginal.Bracket.{Bracket}

-- KEY = NUMBER
abbrev pub number_line : List ℕ → ℤ → List ℕ
number_line key n = concat (key ∷ codes " = " ∷ whole_text n ∷ codes "\n" ∷ [])

-- numbers with a comma and a blank between each two
unfoldable pub behind_comma : ℤ → List ℕ
behind_comma n = codes ", " ++ whole_text n

abbrev pub listed : List ℤ → List ℕ
listed [] = []
listed (n ∷ ns) = whole_text n ++ flat_map behind_comma ns

-- KEY = [NUMBER, NUMBER ..]
abbrev pub numbers_line : List ℕ → List ℤ → List ℕ
numbers_line key ns = concat (key ∷ codes " = [" ∷ listed ns ∷ codes "]\n" ∷ [])

unfoldable pub pell_text : PellFigures → List ℕ
pell_text p = concat (codes "\n[pell]\n" ∷ number_line (codes "maximum") p.maximum ∷ number_line (codes "minimum") p.minimum ∷ [])

unfoldable pub percent_text : Percents → List ℕ
percent_text p =
    concat (codes "\n[percent]\n" ∷ number_line (codes "maximum_single") p.maximum_single ∷ number_line (codes "maximum_other") p.maximum_other
    ∷ number_line (codes "minimum_dependent_single") p.minimum_dependent_single
    ∷ number_line (codes "minimum_dependent_other") p.minimum_dependent_other ∷ number_line (codes "minimum_single_parent") p.minimum_single_parent
    ∷ number_line (codes "minimum_parent") p.minimum_parent ∷ number_line (codes "minimum_no_dependents") p.minimum_no_dependents ∷ [])

unfoldable pub poverty_text : Poverty → List ℕ
poverty_text p =
    concat (codes "\n[poverty]\n" ∷ numbers_line (codes "contiguous") p.contiguous.sizes ∷ number_line (codes "contiguous_extra") p.contiguous.extra
    ∷ numbers_line (codes "alaska") p.alaska.sizes ∷ number_line (codes "alaska_extra") p.alaska.extra ∷ numbers_line (codes "hawaii") p.hawaii.sizes
    ∷ number_line (codes "hawaii_extra") p.hawaii.extra ∷ [])

unfoldable pub payroll_text : Payroll → List ℕ
payroll_text p =
    concat (codes "\n[payroll]\n" ∷ number_line (codes "oasdi_cap") p.oasdi_cap ∷ number_line (codes "oasdi_rate") p.oasdi_rate
    ∷ number_line (codes "medicare_rate") p.medicare_rate ∷ number_line (codes "medicare_high") p.medicare_high
    ∷ number_line (codes "threshold_single") p.threshold_single ∷ number_line (codes "threshold_married") p.threshold_married ∷ [])

unfoldable pub protection_text : Protection → List ℕ
protection_text p =
    concat (codes "\n[protection]\n" ∷ numbers_line (codes "parents") p.parents.sizes ∷ number_line (codes "parents_extra") p.parents.extra
    ∷ number_line (codes "dependent_student") p.dependent_student ∷ number_line (codes "single_student") p.single_student
    ∷ number_line (codes "married_student") p.married_student ∷ numbers_line (codes "single_parent") p.single_parent.sizes
    ∷ number_line (codes "single_parent_extra") p.single_parent.extra ∷ numbers_line (codes "married_parent") p.married_parent.sizes
    ∷ number_line (codes "married_parent_extra") p.married_parent.extra ∷ [])

unfoldable pub employment_text : Employment → List ℕ
employment_text e = concat (codes "\n[employment]\n" ∷ number_line (codes "cap") e.cap ∷ number_line (codes "rate") e.rate ∷ [])

unfoldable pub assets_text : AssetRates → List ℕ
assets_text a =
    concat (codes "\n[assets]\n" ∷ number_line (codes "parents_rate") a.parents_rate ∷ number_line (codes "dependent_rate") a.dependent_rate
    ∷ number_line (codes "no_dependents_rate") a.no_dependents_rate ∷ number_line (codes "with_dependents_rate") a.with_dependents_rate ∷ [])

-- a row of a table by amount, of one by age
unfoldable pub bracket_text : List ℕ → Bracket → List ℕ
bracket_text name row =
    concat (codes "\n[[" ∷ name ∷ codes "]]\n" ∷ number_line (codes "over") row.over ∷ number_line (codes "base") row.base
    ∷ number_line (codes "rate") row.rate ∷ [])

unfoldable pub age_text : AgeRow → List ℕ
age_text row =
    concat (codes "\n[[age]]\n" ∷ number_line (codes "from") row.start ∷ number_line (codes "single") row.single
    ∷ number_line (codes "married") row.married ∷ [])

unfoldable pub schedule_text : Schedule → List ℕ
schedule_text s =
    concat (codes "\n[schedule]\n" ∷ number_line (codes "low_at") s.low_at ∷ number_line (codes "low") s.low
    ∷ number_line (codes "first_rate") s.first_rate ∷ number_line (codes "student_rate") s.student_rate
    ∷ number_line (codes "lowest_student") s.lowest_student ∷ [])

-- form 2 has a ceiling
unfoldable pub form_text : ℕ → List ℕ
form_text ceiling = if ceiling == 0 then codes "form = 1\n" else codes "form = 2\n"

unfoldable pub ceiling_text : ℕ → List ℕ
ceiling_text ceiling = if ceiling == 0 then [] else concat (codes "\n[ceiling]\npercent = " ∷ decimal ceiling ∷ codes "\n" ∷ [])

-- the sections in the order of the fields, each behind an empty line
abbrev pub sections : Book → List (List ℕ)
sections b =
    form_text b.ceiling ∷ concat (codes "year = " ∷ decimal b.year ∷ codes "\n" ∷ []) ∷ pell_text b.pell ∷ percent_text b.percent ∷ poverty_text b.poverty ∷ payroll_text b.payroll
    ∷ protection_text b.protection ∷ employment_text b.employment ∷ assets_text b.assets ∷ flat_map (bracket_text (codes "business")) b.business
    ∷ flat_map age_text b.age ∷ schedule_text b.schedule ∷ flat_map (bracket_text (codes "bracket")) b.bracket ∷ ceiling_text b.ceiling ∷ []

abbrev pub book_text : Book → List ℕ
book_text b = concat (sections b)
