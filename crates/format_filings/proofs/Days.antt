-- The text of a day is read as that day.
use Rattle.std.proofs.Common.{◌≡◌, ◌≤◌, ◌<◌, ◌+◌, ◌-◌, ℕ, zero, suc, Bool, true, false, Ok, inl, inr, refl, sym, ap, ◌∙◌, subst, arith}
use Rattle.std.specs.Prelude.{nat_lt, if◌then◌else◌}
use Rattle.std.proofs.lemmas.Bool.{cases_lt, ltb-true, ltb-false}
use Rattle.std.proofs.lemmas.Int.{ints}
use Rattle.jiff_core.proofs.MarchLemmas.{days_of_years-march_days}
use Rattle.law_terms.specs.CivilDays.{days_of_months, days_of_years, is_leap, month_days, year_days}
use Rattle.law_terms.specs.DayText.{IsDayText, date_text, day_in}
use Rattle.law_terms.specs.Days.{day_text, month_at, passed, year_at}
use Rattle.law_terms.proofs.DayLemmas.{same_years, years_before}
use Rattle.law_terms.proofs.DayTextLaws.{IsDayReading-day_in}

-- the days of k years or months from a first one on
abbrev spent : (ℕ → ℕ) → ℕ → ℕ → ℕ
spent has first zero = 0
spent has first (suc k) = has first + spent has (first + 1) k

-- of the years or months that are passed, so many are over, and less than the next one is left, unless all are over
record IsPassed (has : ℕ → ℕ) (n first days : ℕ) (at : ℕ × ℕ) : Type 0 where
  over : ℕ
  few : over ≤ n
  place : at.0 ≡ first + over
  days_are : days ≡ spent has first over + at.1
  less : over < n → at.1 < has at.0

by_first : (has : ℕ → ℕ) (n first days : ℕ) (b : Bool) → nat_lt days (has first) ≡ b → IsPassed has n (first + 1) (days - has first) (passed has n (first + 1) (days - has first))
    → IsPassed has (suc n) first days (if b then (first, days) else passed has n (first + 1) (days - has first))
by_first has n first days true e more = record { over = 0; few = omega arith; place = omega arith; days_are = omega arith; less = λ lt. ltb-true days (has first) e }
by_first has n first days false e more =
    let at_least : has first ≤ days = ltb-false days (has first) e in
    record {
      over = suc more.over;
      few = omega (arith, more.few);
      place = omega (arith, more.place);
      days_are = omega (arith, more.days_are, at_least);
      less = λ lt. more.less (omega (arith, lt));
    }

is_passed : (has : ℕ → ℕ) (n first days : ℕ) → IsPassed has n first days (passed has n first days)
is_passed has zero first days = record { over = 0; few = omega arith; place = omega arith; days_are = omega arith; less = λ lt. absurd (omega (arith, lt)) }
is_passed has (suc n) first days = by_first has n first days (nat_lt days (has first)) refl (is_passed has n (first + 1) (days - has first))

plus_next : (n k : ℕ) → n + 1 + k ≡ n + suc k
plus_next n k = omega arith

plus_zero : (n : ℕ) → n ≡ n + 0
plus_zero n = omega arith

one_plus : (n : ℕ) → 1 + n ≡ suc n
one_plus n = omega arith

spent-last : (has : ℕ → ℕ) (first k : ℕ) → spent has first (suc k) ≡ spent has first k + has (first + k)
spent-last has first zero = omega (arith, ap has (plus_zero first))
spent-last has first (suc k) = omega (arith, spent-last has (first + 1) k, ap has (plus_next first k))

spent-years : (k : ℕ) → spent year_days 1900 k ≡ days_of_years k
unfolding days_of_years
spent-years zero = refl
spent-years (suc k) = omega (arith, spent-last year_days 1900 k, spent-years k)

spent-months : (y k : ℕ) → spent (month_days y) 1 k ≡ days_of_months y k
unfolding days_of_months
spent-months y zero = refl
spent-months y (suc k) = omega (arith, spent-last (month_days y) 1 k, spent-months y k, ap (month_days y) (one_plus k))

-- the days of all years but the last
all_years : days_of_years 8099 ≡ 2958099
all_years = omega (arith, days_of_years-march_days 19999, same_years 8099, years_before)

-- the months of a year are its days
before_december : (y : ℕ) → days_of_months y 11 + 31 ≡ year_days y
unfolding days_of_months
before_december y = by_leap (is_leap y)
  where
    by_leap : (leap : Bool) → 31 + (if leap then 29 else 28) + 31 + 30 + 31 + 30 + 31 + 31 + 30 + 31 + 30 + 31 ≡ (if leap then 366 else 365)
    by_leap true = refl
    by_leap false = refl

year_at_least : (y : ℕ) → 365 ≤ year_days y
year_at_least y = by_leap (is_leap y)
  where
    by_leap : (leap : Bool) → 365 ≤ (if leap then 366 else 365)
    by_leap true = omega arith
    by_leap false = omega arith

-- of the days of a year so many are left
in_year : (n over rest y : ℕ) → n ≤ 2958463 → over ≤ 8099 → n ≡ spent year_days 1900 over + rest → (over < 8099 → rest < year_days y) → rest < year_days y
in_year n over rest y last few are less = elim (cases_lt over 8099) [
  | inl lt ↦ less lt
  | inr end ↦
      let all : over ≡ 8099 = omega (arith, few, end) in
      let days : spent year_days 1900 over ≡ 2958099 = ap (spent year_days 1900) all ∙ spent-years 8099 ∙ all_years in
      omega (arith, last, are, days, year_at_least y)
]

in_month : (y days over rest m : ℕ) → days < year_days y → over ≤ 11 → m ≡ 1 + over → days ≡ spent (month_days y) 1 over + rest → (over < 11 → rest < month_days y m) → rest < month_days y m
in_month y days over rest m within few place are less = elim (cases_lt over 11) [
  | inl lt ↦ less lt
  | inr end ↦
      let all : over ≡ 11 = omega (arith, few, end) in
      let before : spent (month_days y) 1 over ≡ days_of_months y 11 = ap (spent (month_days y) 1) all ∙ spent-months y 11 in
      let december : m ≡ 12 = omega (arith, place, all) in
      let short : rest < 31 = omega (arith, within, are, before, before_december y) in
      subst (λ (k : ℕ). rest < month_days y k) (sym december) short
]

-- the civil date of a count of days
dated : (n y m rest days over passed_months : ℕ) → n ≤ 2958463 → over ≤ 8099 → y ≡ 1900 + over → n ≡ spent year_days 1900 over + days → (over < 8099 → days < year_days y)
    → passed_months ≤ 11 → m ≡ 1 + passed_months → days ≡ spent (month_days y) 1 passed_months + rest → (passed_months < 11 → rest < month_days y m)
    → IsDayText (date_text y m (rest + 1)) n
dated n y m rest days over passed_months last few_years year days_are in_its_year few_months month rest_is in_its_month =
    let day_there = in_year n over days y last few_years days_are in_its_year in
    let rest_there = in_month y days passed_months rest m day_there few_months month rest_is in_its_month in
    let years : days_of_years (y - 1900) ≡ spent year_days 1900 over = ap days_of_years (omega (arith, year)) ∙ sym (spent-years over) in
    let months : days_of_months y (m - 1) ≡ spent (month_days y) 1 passed_months = ap (days_of_months y) (omega (arith, month)) ∙ sym (spent-months y passed_months) in
    record {
      year = y;
      month = m;
      day = rest + 1;
      is_date = record {
        year_from = omega (arith, ints, year);
        year_to = omega (arith, ints, year, few_years);
        month_from = omega (arith, month);
        month_to = omega (arith, month, few_months);
        day_from = omega arith;
        day_to = omega (arith, rest_there);
      };
      spelled = refl;
      counted = omega (arith, days_are, rest_is, years, months);
    }

is_day_text : (n : ℕ) → n ≤ 2958463 → IsDayText (day_text n) n
unfolding day_text
is_day_text n last =
    let years = is_passed year_days 8099 1900 n in
    let at = year_at n in
    let months = is_passed (month_days at.0) 11 1 at.1 in
    let month = month_at at in
    dated n at.0 month.0 month.1 at.1 years.over months.over last years.few years.place years.days_are years.less months.few months.place months.days_are months.less

pub day_again : (n : ℕ) → n ≤ 2958463 → day_in (day_text n) ≡ Ok n
day_again n last = ((IsDayReading-day_in (day_text n)).ok n).1 (is_day_text n last)
