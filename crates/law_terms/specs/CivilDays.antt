-- The civil calendar from 1900-01-01 to 9999-12-31, and its days counted from 1970-01-01.
use Rattle.std.specs.Prelude.{ℕ, zero, suc, ◌+◌, ◌-◌, ◌%◌, ◌≤◌, Bool, not, ◌&&◌, ◌||◌, ◌==◌, if◌then◌else◌, ℤ, pos, neg_ℤ, ◌-ℤ◌, ◌≤ℤ◌, unsigned_abs}

-- every fourth year, but of the centuries only every fourth
abbrev pub is_leap : ℕ → Bool
is_leap y = (y % 4 == 0) && (not (y % 100 == 0) || (y % 400 == 0))

-- the days of a month of the year
abbrev pub month_days : ℕ → ℕ → ℕ
month_days y m =
    if m == 2 then (if is_leap y then 29 else 28)
    else (if (m == 4) || (m == 6) || (m == 9) || (m == 11) then 30 else 31)

-- the days of a year
abbrev pub year_days : ℕ → ℕ
year_days y = if is_leap y then 366 else 365

-- the days of the n years from 1900 on
unfoldable pub days_of_years : ℕ → ℕ
days_of_years zero = 0
days_of_years (suc n) = days_of_years n + year_days (1900 + n)

-- the days of the first n months of the year
unfoldable pub days_of_months : ℕ → ℕ → ℕ
days_of_months y zero = 0
days_of_months y (suc n) = days_of_months y n + month_days y (suc n)

-- the days between 1900-01-01 and a date
abbrev pub days_from_1900 : ℕ → ℕ → ℕ → ℕ
days_from_1900 y m d = days_of_years (y - 1900) + days_of_months y (m - 1) + (d - 1)

-- the day number: 0 is 1970-01-01
abbrev pub day_number : ℤ → ℕ → ℕ → ℤ
day_number y m d = pos (days_from_1900 (unsigned_abs y) m d) -ℤ pos (days_from_1900 1970 1 1)

-- there is such a civil date in the range
pub record IsCivilDate (y : ℤ) (m d : ℕ) : Type 0 where
  pub year_from : pos 1900 ≤ℤ y
  pub year_to : y ≤ℤ pos 9999
  pub month_from : 1 ≤ m
  pub month_to : m ≤ 12
  pub day_from : 1 ≤ d
  pub day_to : d ≤ month_days (unsigned_abs y) m

-- a day number of the range, from 1900-01-01 to 9999-12-31
abbrev pub IsDay : ℤ → Type 0
IsDay d = (neg_ℤ (pos 25567) ≤ℤ d) × (d ≤ℤ pos 2932896)

-- the count of days from 1900-01-01 to 9999-12-31, the last day there is
abbrev pub LAST_DAY : ℕ
LAST_DAY = 2958463
