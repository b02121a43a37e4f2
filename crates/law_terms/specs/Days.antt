-- The text of the civil day of a count.
use Rattle.std.specs.Prelude.{ℕ, zero, suc, ◌+◌, ◌-◌, nat_lt, List, if◌then◌else◌}
use Rattle.law_terms.specs.CivilDays.{month_days, year_days}
use Rattle.law_terms.specs.DayText.{date_text}

-- of n years or months from a first one on, with the days that each has: the one in which so many days end, and the days left
abbrev pub passed : (ℕ → ℕ) → ℕ → ℕ → ℕ → ℕ × ℕ
passed has zero first days = (first, days)
passed has (suc n) first days = if nat_lt days (has first) then (first, days) else passed has n (first + 1) (days - has first)

-- the year of a day counted from 1900-01-01, with the days before it in the year; the month with those in the month
abbrev pub year_at : ℕ → ℕ × ℕ
year_at count = passed year_days 8099 1900 count

abbrev pub month_at : ℕ × ℕ → ℕ × ℕ
month_at at = passed (month_days at.0) 11 1 at.1

-- its text, as 2025-08-25: `day_text-is` of proofs/DayTexts says that it is the day's one text
unfoldable pub day_text : ℕ → List ℕ
day_text count = let month = month_at (year_at count) in date_text (year_at count).0 month.0 (month.1 + 1)
