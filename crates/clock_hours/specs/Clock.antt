-- Payments of clock-hour programs, and their returns of funds (34 CFR 690.63(e), 668.22(f)).
use Rattle.std.specs.Prelude.{ℕ, ◌*◌, ◌≤◌, nat_le, if◌then◌else◌}
use Rattle.aid_types.specs.Nearest.{half_up}

-- hours and weeks of a payment period, within those of the academic year that the program defines
pub record AreHours (hours year_hours weeks year_weeks : ℕ) : Type 0 where
  pub some_hours : 1 ≤ year_hours
  pub most_hours : year_hours ≤ 9999
  pub some_weeks : 1 ≤ year_weeks
  pub most_weeks : year_weeks ≤ 99
  pub hours_inside : hours ≤ year_hours
  pub weeks_inside : weeks ≤ year_weeks

-- Formula 4: the Scheduled Award by the lesser of two fractions, that of the hours and that of the weeks of instructional time, to
-- the nearest dollar, half a dollar up (34 CFR 690.63(e); the rounding is own)
abbrev pub clock_payment : ℕ → ℕ → ℕ → ℕ → ℕ → ℕ
clock_payment scheduled hours year_hours weeks year_weeks =
    if nat_le (hours * year_weeks) (weeks * year_hours) then half_up (scheduled * hours) year_hours else half_up (scheduled * weeks) year_weeks
