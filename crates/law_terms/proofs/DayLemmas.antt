-- The days of `specs/CivilDays.antt` are those of `jiff`.
use Rattle.std.proofs.Common.{w16, w64, T, Fits, nat_abs, subst, lit≤, inl, inr, ◌<ℤ◌, ◌≡◌, ℕ, zero, suc, ◌+◌, ◌-◌, ◌≤◌, refl, sym, ap, ◌∙◌, arith, ℤ, pos, negsuc, ◌+ℤ◌, ◌-ℤ◌, ◌≤ℤ◌, unsigned_abs, to_z, of_z, to_z-of_z, w32}
use Rattle.std.proofs.lemmas.Bool.{cases_lt}
use Rattle.std.proofs.lemmas.Int.{ints}
use Rattle.jiff_core.specs.Calendar.{days_of_years as jiff_years, days_of_months as jiff_months, day_count, days_from_civil, IsDate, IsEpochDay, IsCivilDate as IsPlainDate, IsYear}
use lib.Signed.{non_neg}
use Rattle.jiff_core.proofs.MarchLemmas.{leap_day, leap_day-shift, days_of_years-suc, days_of_years-march_days}
use Rattle.jiff_core.proofs.SignedLemmas.{signed_arith, fits_between}
use Rattle.jiff_core.proofs.CalendarLemmas.{day_count-epoch, day_count-lt_year, days_from_civil-day_count}
use Rattle.jiff_core.specs.declared.civil.date.Date.{Date}
use Rattle.jiff_core.proofs.DateLemmas.{epoch_day_injective}
use Rattle.law_terms.specs.CivilDays.{year_days, days_of_years, days_of_months, days_from_1900, day_number, IsCivilDate, IsDay}

-- the months of a year
pub same_months : (y n : ℕ) → jiff_months (pos y) n ≡ days_of_months y n
unfolding jiff_months days_of_months
same_months y zero = refl
same_months y (suc n) = rw (same_months y n) refl

pub year_days-leap_day : (n : ℕ) → 365 + leap_day (pos n) ≡ year_days n
year_days-leap_day n = grind arith

-- the leap days are the same 10000 years later
pub leap_later : (n : ℕ) → 365 + leap_day (pos (11900 + n)) ≡ year_days (1900 + n)
leap_later n =
    omega (arith, leap_day-shift (pos (1900 + n)) (11900 + n) (omega (arith, signed_arith)), year_days-leap_day (1900 + n))

pub same_years : (n : ℕ) → jiff_years (11900 + n) ≡ jiff_years 11900 + days_of_years n
unfolding days_of_years
same_years zero = omega arith
same_years (suc n) =
    let next : 11900 + suc n ≡ suc (11900 + n) = omega arith in
    rw next (omega (arith, days_of_years-suc (11900 + n), same_years n, leap_later n))

pub years_before : jiff_years 11900 ≡ 4_346_386
years_before = omega (arith, days_of_years-march_days 11900)

first_day : days_from_1900 1900 1 1 ≡ 0
unfolding days_of_years days_of_months
first_day = refl

-- 1 January 1970 is 25,567 days after 1 January 1900
pub epoch_from_1900 : days_from_1900 1970 1 1 ≡ 25_567
unfolding days_of_years days_of_months
epoch_from_1900 = refl

-- the days before a date, as jiff counts them
pub same_count : (y m d : ℕ) → 1900 ≤ y → 1 ≤ d → day_count (pos y) m d ≡ 4_346_386 + days_from_1900 y m d
unfolding day_count
same_count y m d hy hd =
    let at : y + 10000 ≡ 11900 + (y - 1900) = omega arith in
    rw at (omega (arith, same_years (y - 1900), years_before, same_months y (m - 1)))

-- a difference stays where both numbers grow by as much
same_difference : (a b n m k : ℕ) → a ≡ k + n → b ≡ k + m → pos a -ℤ pos b ≡ pos n -ℤ pos m
same_difference a b n m k ha hb = omega (arith, signed_arith)

-- the day number of jiff, for a year from 1900 on
pub same_number : (y m d : ℕ) → 1900 ≤ y → 1 ≤ d → days_from_civil (pos y) m d ≡ day_number (pos y) m d
unfolding days_from_civil
same_number y m d hy hd =
    same_difference (day_count (pos y) m d) (day_count (pos 1970) 1 1) (days_from_1900 y m d) (days_from_1900 1970 1 1) 4_346_386
    (same_count y m d hy hd)
    (omega (arith, day_count-epoch, epoch_from_1900))

-- the same, and that it is a civil date
pub civil_day : (y : ℤ) (m d : ℕ) → pos 1900 ≤ℤ y → y ≤ℤ pos 9999 → IsDate y (pos m) (pos d) → IsCivilDate y m d × (days_from_civil y m d ≡ day_number y m d)
civil_day (pos y) m d low high (year, month, at) =
    let hy : 1900 ≤ y = omega (arith, signed_arith) in
    let hd : 1 ≤ d = omega (arith, signed_arith) in (
      record {
        year_from = low;
        year_to = high;
        month_from = omega (arith, signed_arith);
        month_to = omega (arith, signed_arith);
        day_from = hd;
        day_to = omega (arith, signed_arith);
      },
      same_number y m d hy hd,
    )
civil_day (negsuc y) m d low high h = absurd (omega (arith, signed_arith))

-- a day number of jiff comes back from 32 bits
pub read_back : (r : ℤ) → IsEpochDay r → to_z w32 (of_z w32 r) ≡ r
read_back r h = to_z-of_z {w = w32} (fits_between w32 r (omega (arith, signed_arith)))

-- a day number as the count of days since 1900-01-01
pub count_of_number : (z y : ℤ) (m d : ℕ) → z ≡ day_number y m d → unsigned_abs (z +ℤ pos 25567) ≡ days_from_1900 (unsigned_abs y) m d
count_of_number z y m d e =
    let same : z ≡ pos (days_from_1900 (unsigned_abs y) m d) -ℤ pos 25567 = e ∙ ap (λ (n : ℕ). pos (days_from_1900 (unsigned_abs y) m d) -ℤ pos n) epoch_from_1900 in
    shifted z (days_from_1900 (unsigned_abs y) m d) same
  where
    shifted : (z : ℤ) (n : ℕ) → z ≡ pos n -ℤ pos 25567 → unsigned_abs (z +ℤ pos 25567) ≡ n
    shifted z n e = rw e (omega (arith, ints))

pub number_low : (y : ℤ) (m d : ℕ) → negsuc 25566 ≤ℤ day_number y m d
number_low y m d =
    low (day_number y m d) (days_from_1900 (unsigned_abs y) m d) (ap (λ (n : ℕ). pos (days_from_1900 (unsigned_abs y) m d) -ℤ pos n) epoch_from_1900)
  where
    low : (z : ℤ) (n : ℕ) → z ≡ pos n -ℤ pos 25567 → negsuc 25566 ≤ℤ z
    low z n e = rw e (omega (arith, ints))

pub read_back_day : (r : ℤ) → IsDay r → to_z w32 (of_z w32 r) ≡ r
read_back_day r h = to_z-of_z {w = w32} (fits_between w32 r (omega (arith, signed_arith)))

before_1900 : (y : ℤ) (m d : ℕ) → IsPlainDate y m d → IsDay (days_from_civil y m d) → y <ℤ pos 1900 → ⊥
before_1900 y m d is within lt =
    let less = day_count-lt_year y m d (pos 1900) 1 1 is (lit≤ tt) lt in
    let first : days_from_1900 1900 1 1 ≡ 0 = first_day in
    let from = same_count 1900 1 1 (lit≤ tt) (lit≤ tt) in
    let both = days_from_civil-day_count y m d in
    let low = within.0 in
    omega (arith, signed_arith)

-- a date of jiff whose day number is in the range is from 1900 on
pub year_from_number : (y : ℤ) (m d : ℕ) → IsPlainDate y m d → IsDay (days_from_civil y m d) → pos 1900 ≤ℤ y
year_from_number (negsuc n) m d is within = absurd (before_1900 (negsuc n) m d is within (omega (arith, signed_arith)))
year_from_number (pos y) m d is within = elim (cases_lt y 1900) [
  | inl lt ↦ absurd (before_1900 (pos y) m d is within (omega (arith, signed_arith, lt)))
  | inr le ↦ omega (arith, signed_arith, le)
]

pub read_back_year : (y : ℤ) → IsYear y → to_z w16 (of_z w16 y) ≡ y
read_back_year y h = to_z-of_z {w = w16} (fits_between w16 y (omega (arith, signed_arith)))

-- a day number is the same in 64 bits
pub read_back_wide : (r : ℤ) → IsDay r → to_z w64 (of_z w64 (to_z w32 (of_z w32 r))) ≡ r
read_back_wide r h = ap (λ (z : ℤ). to_z w64 (of_z w64 z)) (read_back_day r h) ∙ to_z-of_z {w = w64} (fits_between w64 r (omega (arith, signed_arith)))

-- what a date of jiff with a day number of the range is
pub record IsDated (year : ℤ) (m d : ℕ) (number : ℤ) : Type 0 where
  pub y : ℕ
  pub year_is : year ≡ pos y
  pub below : y ≤ 9999
  pub is_date : IsCivilDate (pos y) m d
  pub value : number ≡ day_number (pos y) m d

signed_date : (y : ℕ) (m d : ℕ) → IsPlainDate (pos y) m d → IsDate (pos y) (pos m) (pos d)
signed_date y m d (year, month, at) = (year, (omega (arith, signed_arith), omega (arith, signed_arith)), (omega (arith, signed_arith), omega (arith, signed_arith)))

pub dated_by_number : (year : ℤ) (m d : ℕ) (number : ℤ) → IsPlainDate year m d → days_from_civil year m d ≡ number → IsDay number → IsDated year m d number
dated_by_number (negsuc n) m d number is e within =
    let low = year_from_number (negsuc n) m d is (subst IsDay (sym e) within) in
    absurd (omega (arith, signed_arith))
dated_by_number (pos y) m d number is e within =
    let low = year_from_number (pos y) m d is (subst IsDay (sym e) within) in
    let high : pos y ≤ℤ pos 9999 = is.0.1 in
    let both = civil_day (pos y) m d low high (signed_date y m d is) in
    record { y = y; year_is = refl; below = omega (arith, signed_arith); is_date = both.0; value = sym e ∙ both.1 }

pub cast_fits : (z : ℤ) (n : ℕ) → z ≡ pos n → n ≤ 9999 → T (non_neg z) × Fits w16 (nat_abs z)
cast_fits z n e h = subst (λ (x : ℤ). T (non_neg x) × Fits w16 (nat_abs x)) (sym e) (tt, search (arith))

-- a civil date as `jiff` has it
plain_date : (y m d : ℕ) → IsCivilDate (pos y) m d → IsPlainDate (pos y) m d
plain_date y m d h =
    ((omega (arith, signed_arith), h.year_to), (h.month_from, h.month_to), (h.day_from, omega (arith, signed_arith, h.day_to)))

date_of : (y m d : ℕ) → IsCivilDate (pos y) m d → Date
date_of y m d h =
    let plain = plain_date y m d h in
    record { year = pos y; month = m; day = d; year_in = plain.0; month_in = plain.1; day_in = plain.2 }

-- a day has one civil date
pub one_date : (y m d y₂ m₂ d₂ : ℕ) → IsCivilDate (pos y) m d → IsCivilDate (pos y₂) m₂ d₂ → days_from_1900 y m d ≡ days_from_1900 y₂ m₂ d₂
    → (y ≡ y₂) × (m ≡ m₂) × (d ≡ d₂)
unfolding date_of
one_date y m d y₂ m₂ d₂ h k e =
    let first = same_number y m d (omega (arith, signed_arith, h.year_from)) h.day_from in
    let second = same_number y₂ m₂ d₂ (omega (arith, signed_arith, k.year_from)) k.day_from in
    let same = epoch_day_injective (date_of y m d h) (date_of y₂ m₂ d₂ k) (first ∙ (ap (λ (n : ℕ). pos n -ℤ pos (days_from_1900 1970 1 1)) e ∙ sym second)) in
    (ap nat_abs same.0, same.1, same.2)
