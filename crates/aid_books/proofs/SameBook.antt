-- The derived `==` of a book and of its parts is equality.
use Rattle.std.proofs.Common.{length, ◌≡◌, ℕ, ◌≤◌, ℤ, pos, ◌&&◌, List, Some, option_map, slice_get, refl, ap}
use Rattle.std.specs.Ordering.{int_eq}
use Rattle.std.specs.Cmp.Rules.{signed_items}
use denote.Struct.Props.{props}
use lib.Pointwise.{pointwise}
use Rattle.std.specs.Coded.{le_prop}
use Rattle.aid_types.specs.Nearest.{share}
use Rattle.aid_types.proofs.Same.{Tells, tells_filled, tells_pair, tells_by, same_with_fact, tells_ℕ, tells_ℤ, le_ℤ-prop}
use Rattle.aid_types.specs.Ranges.{EachIsAmount, IsAmount, IsFloor, IsPercent, IsRate, IsWithin}
use Rattle.aid_books.specs.contracts.ages.AgesPartialEq.TheImpl.{eq-value as ages_eq}
use Rattle.aid_books.specs.contracts.marginal.BracketsPartialEq.TheImpl.{eq-value as brackets_eq}
use Rattle.aid_books.specs.declared.book.PellFigures.{PellFigures}
use Rattle.aid_books.specs.contracts.book.PellFiguresPartialEq.TheImpl.{eq-value as pell_figures_eq}
use Rattle.aid_books.specs.declared.book.Percents.{Percents}
use Rattle.aid_books.specs.contracts.book.PercentsPartialEq.TheImpl.{eq-value as percents_eq}
use Rattle.aid_books.specs.declared.by_size.BySize.{BySize}
use Rattle.aid_books.specs.declared.book.Poverty.{Poverty}
use Rattle.aid_books.specs.contracts.book.PovertyPartialEq.TheImpl.{eq-value as poverty_eq}
use Rattle.aid_books.specs.declared.book.Payroll.{Payroll}
use Rattle.aid_books.specs.contracts.book.PayrollPartialEq.TheImpl.{eq-value as payroll_eq}
use Rattle.aid_books.specs.declared.book.Protection.{Protection}
use Rattle.aid_books.specs.contracts.book.ProtectionPartialEq.TheImpl.{eq-value as protection_eq}
use Rattle.aid_books.specs.declared.book.Employment.{Employment}
use Rattle.aid_books.specs.contracts.book.EmploymentPartialEq.TheImpl.{eq-value as employment_eq}
use Rattle.aid_books.specs.declared.book.AssetRates.{AssetRates}
use Rattle.aid_books.specs.contracts.book.AssetRatesPartialEq.TheImpl.{eq-value as asset_rates_eq}
use Rattle.aid_books.specs.declared.book.Schedule.{Schedule}
use Rattle.aid_books.specs.contracts.book.SchedulePartialEq.TheImpl.{eq-value as schedule_eq}
use Rattle.aid_books.specs.declared.marginal.Bracket.{Bracket}
use Rattle.aid_books.specs.contracts.marginal.BracketPartialEq.TheImpl.{eq-value as bracket_eq}
use Rattle.aid_books.specs.declared.ages.AgeRow.{AgeRow}
use Rattle.aid_books.specs.contracts.ages.AgeRowPartialEq.TheImpl.{eq-value as age_row_eq}
use Rattle.aid_books.specs.declared.book.Book.{Book}
use Rattle.aid_books.specs.contracts.book.BookPartialEq.TheImpl.{eq-value as book_eq}

tells_ℤs : Tells (pointwise int_eq)
tells_ℤs = record { same = λ x y h. (signed_items x y).0 h; told = λ x. (signed_items x x).1 refl }

abbrev PellFiguresParts : Type 0
PellFiguresParts = ℤ × (ℤ)

unfoldable pub pell_figures_parts : PellFigures → PellFiguresParts
pell_figures_parts s = (s.maximum, s.minimum)

pub pell_figures_whole : (x y : PellFigures) → pell_figures_parts x ≡ pell_figures_parts y → x ≡ y
unfolding pell_figures_parts
pell_figures_whole x y e =
    let P : PellFiguresParts → Type 0 = λ b. (IsWithin (pos 1) (pos 99999) b.0) × ((IsWithin (pos 1) b.0 b.1)) in
    let make : (b : PellFiguresParts) → P b → PellFigures = λ b p. record { maximum = b.0; minimum = b.1; maximum_in_range = p.0; minimum_in_range = p.1 } in
    same_with_fact P make (λ b. hlevel (le_ℤ-prop, props)) (pell_figures_parts x) (pell_figures_parts y) (x.maximum_in_range, x.minimum_in_range) (y.maximum_in_range, y.minimum_in_range) e

pub tells_pell_figures : Tells pell_figures_eq.it
unfolding pell_figures_parts
tells_pell_figures = tells_by pell_figures_parts pell_figures_whole (tells_pair tells_ℤ tells_ℤ)

abbrev PercentsParts : Type 0
PercentsParts = ℤ × (ℤ × (ℤ × (ℤ × (ℤ × (ℤ × (ℤ))))))

unfoldable pub percents_parts : Percents → PercentsParts
percents_parts s = (s.maximum_single, (s.maximum_other, (s.minimum_dependent_single, (s.minimum_dependent_other, (s.minimum_single_parent, (s.minimum_parent, s.minimum_no_dependents))))))

pub percents_whole : (x y : Percents) → percents_parts x ≡ percents_parts y → x ≡ y
unfolding percents_parts
percents_whole x y e =
    let P : PercentsParts → Type 0 = λ b. IsPercent b.0 × IsPercent b.1.0 × IsPercent b.1.1.0 × IsPercent b.1.1.1.0 × IsPercent b.1.1.1.1.0 × IsPercent b.1.1.1.1.1.0 × IsPercent b.1.1.1.1.1.1 in
    let make : (b : PercentsParts) → P b → Percents = λ b p. record { maximum_single = b.0; maximum_other = b.1.0; minimum_dependent_single = b.1.1.0; minimum_dependent_other = b.1.1.1.0; minimum_single_parent = b.1.1.1.1.0; minimum_parent = b.1.1.1.1.1.0; minimum_no_dependents = b.1.1.1.1.1.1; in_range = p } in
    same_with_fact P make (λ b. hlevel (le_ℤ-prop, props)) (percents_parts x) (percents_parts y) x.in_range y.in_range e

pub tells_percents : Tells percents_eq.it
unfolding percents_parts
tells_percents = tells_by percents_parts percents_whole (tells_pair tells_ℤ (tells_pair tells_ℤ (tells_pair tells_ℤ (tells_pair tells_ℤ (tells_pair tells_ℤ (tells_pair tells_ℤ tells_ℤ))))))

abbrev BySizeParts : Type 0
BySizeParts = List ℤ × (ℤ)

unfoldable pub by_size_parts : (first count : ℕ) → BySize first count → BySizeParts
by_size_parts first count s = (s.sizes, s.extra)

pub by_size_whole : (first count : ℕ) (x y : BySize first count) → by_size_parts first count x ≡ by_size_parts first count y → x ≡ y
unfolding by_size_parts
by_size_whole first count x y e =
    let P : BySizeParts → Type 0 = λ b. (length b.0 ≡ count) × ((EachIsAmount b.0) × ((IsAmount b.1))) in
    let make : (b : BySizeParts) → P b → BySize first count = λ b p. record { sizes = b.0; extra = b.1; sizes_counted = p.0; sizes_in_range = p.1.0; extra_in_range = p.1.1 } in
    same_with_fact P make (λ b. hlevel (le_ℤ-prop, props)) (by_size_parts first count x) (by_size_parts first count y) (x.sizes_counted, (x.sizes_in_range, x.extra_in_range)) (y.sizes_counted, (y.sizes_in_range, y.extra_in_range)) e

pub tells_by_size : (first count : ℕ) → Tells (λ (x y : BySize first count). pointwise int_eq x.sizes y.sizes && int_eq x.extra y.extra)
unfolding by_size_parts
tells_by_size first count = tells_by (by_size_parts first count) (by_size_whole first count) (tells_pair tells_ℤs tells_ℤ)

abbrev PovertyParts : Type 0
PovertyParts = BySize 1 8 × (BySize 1 8 × (BySize 1 8))

unfoldable pub poverty_parts : Poverty → PovertyParts
poverty_parts s = (s.contiguous, (s.alaska, s.hawaii))

pub poverty_whole : (x y : Poverty) → poverty_parts x ≡ poverty_parts y → x ≡ y
unfolding poverty_parts
poverty_whole x y e = let make : PovertyParts → Poverty = λ b. record { contiguous = b.0; alaska = b.1.0; hawaii = b.1.1 } in ap make e

pub tells_poverty : Tells poverty_eq.it
unfolding poverty_parts
tells_poverty = tells_by poverty_parts poverty_whole (let guideline = tells_by_size 1 8 in tells_pair guideline (tells_pair guideline guideline))

abbrev PayrollParts : Type 0
PayrollParts = ℤ × (ℤ × (ℤ × (ℤ × (ℤ × (ℤ)))))

unfoldable pub payroll_parts : Payroll → PayrollParts
payroll_parts s = (s.oasdi_cap, (s.oasdi_rate, (s.medicare_rate, (s.medicare_high, (s.threshold_single, s.threshold_married)))))

pub payroll_whole : (x y : Payroll) → payroll_parts x ≡ payroll_parts y → x ≡ y
unfolding payroll_parts
payroll_whole x y e =
    let P : PayrollParts → Type 0 = λ b. (IsAmount b.0 × IsAmount b.1.1.1.1.0 × IsAmount b.1.1.1.1.1) × ((IsRate b.1.0 × IsRate b.1.1.0 × IsRate b.1.1.1.0)) in
    let make : (b : PayrollParts) → P b → Payroll = λ b p. record { oasdi_cap = b.0; oasdi_rate = b.1.0; medicare_rate = b.1.1.0; medicare_high = b.1.1.1.0; threshold_single = b.1.1.1.1.0; threshold_married = b.1.1.1.1.1; amounts_in_range = p.0; rates_in_range = p.1 } in
    same_with_fact P make (λ b. hlevel (le_ℤ-prop, props)) (payroll_parts x) (payroll_parts y) (x.amounts_in_range, x.rates_in_range) (y.amounts_in_range, y.rates_in_range) e

pub tells_payroll : Tells payroll_eq.it
unfolding payroll_parts
tells_payroll = tells_by payroll_parts payroll_whole (tells_pair tells_ℤ (tells_pair tells_ℤ (tells_pair tells_ℤ (tells_pair tells_ℤ (tells_pair tells_ℤ tells_ℤ)))))

abbrev ProtectionParts : Type 0
ProtectionParts = BySize 2 5 × (ℤ × (ℤ × (ℤ × (BySize 2 5 × (BySize 2 5)))))

unfoldable pub protection_parts : Protection → ProtectionParts
protection_parts s = (s.parents, (s.dependent_student, (s.single_student, (s.married_student, (s.single_parent, s.married_parent)))))

pub protection_whole : (x y : Protection) → protection_parts x ≡ protection_parts y → x ≡ y
unfolding protection_parts
protection_whole x y e =
    let P : ProtectionParts → Type 0 = λ b. IsAmount b.1.0 × IsAmount b.1.1.0 × IsAmount b.1.1.1.0 in
    let make : (b : ProtectionParts) → P b → Protection = λ b p. record { parents = b.0; dependent_student = b.1.0; single_student = b.1.1.0; married_student = b.1.1.1.0; single_parent = b.1.1.1.1.0; married_parent = b.1.1.1.1.1; in_range = p } in
    same_with_fact P make (λ b. hlevel (le_ℤ-prop, props)) (protection_parts x) (protection_parts y) x.in_range y.in_range e

pub tells_protection : Tells protection_eq.it
unfolding protection_parts
tells_protection = tells_by protection_parts protection_whole (let allowance = tells_by_size 2 5 in tells_pair allowance (tells_pair tells_ℤ (tells_pair tells_ℤ (tells_pair tells_ℤ (tells_pair allowance allowance)))))

abbrev EmploymentParts : Type 0
EmploymentParts = ℤ × (ℤ)

unfoldable pub employment_parts : Employment → EmploymentParts
employment_parts s = (s.cap, s.rate)

pub employment_whole : (x y : Employment) → employment_parts x ≡ employment_parts y → x ≡ y
unfolding employment_parts
employment_whole x y e =
    let P : EmploymentParts → Type 0 = λ b. IsAmount b.0 × IsRate b.1 in
    let make : (b : EmploymentParts) → P b → Employment = λ b p. record { cap = b.0; rate = b.1; in_range = p } in
    same_with_fact P make (λ b. hlevel (le_ℤ-prop, props)) (employment_parts x) (employment_parts y) x.in_range y.in_range e

pub tells_employment : Tells employment_eq.it
unfolding employment_parts
tells_employment = tells_by employment_parts employment_whole (tells_pair tells_ℤ tells_ℤ)

abbrev AssetRatesParts : Type 0
AssetRatesParts = ℤ × (ℤ × (ℤ × (ℤ)))

unfoldable pub asset_rates_parts : AssetRates → AssetRatesParts
asset_rates_parts s = (s.parents_rate, (s.dependent_rate, (s.no_dependents_rate, s.with_dependents_rate)))

pub asset_rates_whole : (x y : AssetRates) → asset_rates_parts x ≡ asset_rates_parts y → x ≡ y
unfolding asset_rates_parts
asset_rates_whole x y e =
    let P : AssetRatesParts → Type 0 = λ b. IsRate b.0 × IsRate b.1.0 × IsRate b.1.1.0 × IsRate b.1.1.1 in
    let make : (b : AssetRatesParts) → P b → AssetRates = λ b p. record { parents_rate = b.0; dependent_rate = b.1.0; no_dependents_rate = b.1.1.0; with_dependents_rate = b.1.1.1; in_range = p } in
    same_with_fact P make (λ b. hlevel (le_ℤ-prop, props)) (asset_rates_parts x) (asset_rates_parts y) x.in_range y.in_range e

pub tells_asset_rates : Tells asset_rates_eq.it
unfolding asset_rates_parts
tells_asset_rates = tells_by asset_rates_parts asset_rates_whole (tells_pair tells_ℤ (tells_pair tells_ℤ (tells_pair tells_ℤ tells_ℤ)))

abbrev ScheduleParts : Type 0
ScheduleParts = ℤ × (ℤ × (ℤ × (ℤ × (ℤ))))

unfoldable pub schedule_parts : Schedule → ScheduleParts
schedule_parts s = (s.low_at, (s.low, (s.first_rate, (s.student_rate, s.lowest_student))))

pub schedule_whole : (x y : Schedule) → schedule_parts x ≡ schedule_parts y → x ≡ y
unfolding schedule_parts
schedule_whole x y e =
    let P : ScheduleParts → Type 0 = λ b. IsFloor b.0 × IsFloor b.1.0 × IsRate b.1.1.0 × IsRate b.1.1.1.0 × IsFloor b.1.1.1.1 in
    let make : (b : ScheduleParts) → P b → Schedule = λ b p. record { low_at = b.0; low = b.1.0; first_rate = b.1.1.0; student_rate = b.1.1.1.0; lowest_student = b.1.1.1.1; in_range = p } in
    same_with_fact P make (λ b. hlevel (le_ℤ-prop, props)) (schedule_parts x) (schedule_parts y) x.in_range y.in_range e

pub tells_schedule : Tells schedule_eq.it
unfolding schedule_parts
tells_schedule = tells_by schedule_parts schedule_whole (tells_pair tells_ℤ (tells_pair tells_ℤ (tells_pair tells_ℤ (tells_pair tells_ℤ tells_ℤ))))

abbrev BracketParts : Type 0
BracketParts = ℤ × (ℤ × (ℤ))

unfoldable pub bracket_parts : Bracket → BracketParts
bracket_parts s = (s.over, (s.base, s.rate))

pub bracket_whole : (x y : Bracket) → bracket_parts x ≡ bracket_parts y → x ≡ y
unfolding bracket_parts
bracket_whole x y e = let make : BracketParts → Bracket = λ b. record { over = b.0; base = b.1.0; rate = b.1.1 } in ap make e

pub tells_bracket : Tells bracket_eq.it
unfolding bracket_parts
tells_bracket = tells_by bracket_parts bracket_whole (tells_pair tells_ℤ (tells_pair tells_ℤ tells_ℤ))

abbrev AgeRowParts : Type 0
AgeRowParts = ℤ × (ℤ × (ℤ))

unfoldable pub age_row_parts : AgeRow → AgeRowParts
age_row_parts s = (s.start, (s.single, s.married))

pub age_row_whole : (x y : AgeRow) → age_row_parts x ≡ age_row_parts y → x ≡ y
unfolding age_row_parts
age_row_whole x y e = let make : AgeRowParts → AgeRow = λ b. record { start = b.0; single = b.1.0; married = b.1.1 } in ap make e

pub tells_age_row : Tells age_row_eq.it
unfolding age_row_parts
tells_age_row = tells_by age_row_parts age_row_whole (tells_pair tells_ℤ (tells_pair tells_ℤ tells_ℤ))

pub tells_brackets : Tells brackets_eq.it
tells_brackets = tells_filled 16 (record { over = pos 0; base = pos 0; rate = pos 0 }) tells_bracket

pub tells_ages : Tells ages_eq.it
tells_ages = tells_filled 64 (record { start = pos 0; single = pos 0; married = pos 0 }) tells_age_row

abbrev BookParts : Type 0
BookParts = ℕ × (PellFigures × (Percents × (Poverty × (Payroll × (Protection × (Employment × (AssetRates × (List Bracket × (List AgeRow × (Schedule × (List Bracket × ℕ)))))))))))

unfoldable pub book_parts : Book → BookParts
book_parts s = (s.year, (s.pell, (s.percent, (s.poverty, (s.payroll, (s.protection, (s.employment, (s.assets, (s.business, (s.age, (s.schedule, (s.bracket, s.ceiling))))))))))))

pub book_whole : (x y : Book) → book_parts x ≡ book_parts y → x ≡ y
unfolding book_parts
book_whole x y e =
    let P : BookParts → Type 0 = λ b. (b.1.1.1.1.1.1.1.1.1.1.1.1 ≤ 9999) × ((option_map (λ (row : Bracket). row.over) (slice_get b.1.1.1.1.1.1.1.1.0 0) ≡ Some (pos 0)) × ((option_map (λ (row : Bracket). row.base) (slice_get b.1.1.1.1.1.1.1.1.0 0) ≡ Some (pos 0)) × ((option_map (λ (row : AgeRow). row.start) (slice_get b.1.1.1.1.1.1.1.1.1.0 0) ≡ Some (pos 0)) × ((option_map (λ (row : Bracket). row.base) (slice_get b.1.1.1.1.1.1.1.1.1.1.1.0 0) ≡ option_map (λ (row : Bracket). share row.over b.1.1.1.1.1.1.1.1.1.1.0.first_rate) (slice_get b.1.1.1.1.1.1.1.1.1.1.1.0 0)))))) in
    let make : (b : BookParts) → P b → Book = λ b p. record { year = b.0; pell = b.1.0; percent = b.1.1.0; poverty = b.1.1.1.0; payroll = b.1.1.1.1.0; protection = b.1.1.1.1.1.0; employment = b.1.1.1.1.1.1.0; assets = b.1.1.1.1.1.1.1.0; business = b.1.1.1.1.1.1.1.1.0; age = b.1.1.1.1.1.1.1.1.1.0; schedule = b.1.1.1.1.1.1.1.1.1.1.0; bracket = b.1.1.1.1.1.1.1.1.1.1.1.0; ceiling = b.1.1.1.1.1.1.1.1.1.1.1.1; ceiling_in_range = p.0; business_over = p.1.0; business_base = p.1.1.0; age_start = p.1.1.1.0; bracket_base = p.1.1.1.1 } in
    same_with_fact P make (λ b. hlevel (le_prop, props)) (book_parts x) (book_parts y) (x.ceiling_in_range, (x.business_over, (x.business_base, (x.age_start, x.bracket_base)))) (y.ceiling_in_range, (y.business_over, (y.business_base, (y.age_start, y.bracket_base)))) e

pub tells_book : Tells book_eq.it
unfolding book_parts
tells_book = tells_by book_parts book_whole (tells_pair tells_ℕ (tells_pair tells_pell_figures (tells_pair tells_percents (tells_pair tells_poverty (tells_pair tells_payroll (tells_pair tells_protection (tells_pair tells_employment (tells_pair tells_asset_rates (tells_pair tells_brackets (tells_pair tells_ages (tells_pair tells_schedule (tells_pair tells_brackets tells_ℕ))))))))))))
