-- The text of a count's day is the day's one text.
use Rattle.std.proofs.Common.{◌≡◌, ◌≤◌, ◌<◌, ◌+◌, ◌-◌, ℕ, zero, suc, List, Bool, true, false, refl, sym, ap, ◌∙◌, arith}
use Rattle.std.specs.Prelude.{nat_lt, if◌then◌else◌}
use Rattle.std.proofs.lemmas.Bool.Decides.{nat_tests}
use Rattle.std.proofs.lemmas.Int.{ints}
use Rattle.law_terms.specs.CivilDays.{days_from_1900, days_of_months, days_of_years, is_leap, month_days, year_days}
use Rattle.law_terms.specs.DayText.{IsDayText, date_text}
use Rattle.law_terms.specs.Days.{day_text, month_at, passed, year_at}

-- the days of k years or months from a first one on
abbrev spent : (ℕ → ℕ) → ℕ → ℕ → ℕ
spent has first zero = 0
spent has first (suc k) = has first + spent has (first + 1) k

plus_zero : (n : ℕ) → n ≡ n + 0
plus_zero n = omega arith

plus_next : (n k : ℕ) → n + 1 + k ≡ n + suc k
plus_next n k = omega arith

one_plus : (n : ℕ) → 1 + n ≡ suc n
one_plus n = omega arith

less_one : (n : ℕ) → suc n - 1 ≡ n
less_one n = omega arith

spent-last : (has : ℕ → ℕ) (first k : ℕ) → spent has first (suc k) ≡ spent has first k + has (first + k)
spent-last has first zero = omega (arith, ap has (plus_zero first))
spent-last has first (suc k) =
    ap (λ n. has first + n) (spent-last has (first + 1) k)
    ∙ ap (λ n. has first + (spent has (first + 1) k + has n)) (plus_next first k)
    ∙ regrouped (has first) (spent has (first + 1) k) (has (first + suc k))
  where
    regrouped : (a b c : ℕ) → a + (b + c) ≡ a + b + c
    regrouped a b c = omega arith

-- where k of them are over and less than the next is spent, that one is found, with what is spent of it
found : (has : ℕ → ℕ) (n first k days rest : ℕ) → days ≡ spent has first k + rest → k ≤ n → rest < has (first + k) → passed has n first days ≡ (first + k, rest)
found has zero first zero days rest e few less = ap (λ n. (n, days)) (plus_zero first) ∙ ap (λ d. (first + 0, d)) (only days rest e)
  where
    only : (days rest : ℕ) → days ≡ 0 + rest → days ≡ rest
    only days rest e = omega (arith, e)
found has zero first (suc k) days rest e few less = absurd (omega (arith, few))
found has (suc n) first zero days rest e few less =
    ap (λ (b : Bool). if b then (first, days) else passed has n (first + 1) (days - has first)) here
    ∙ ap (λ m. (m, days)) (plus_zero first) ∙ ap (λ d. (first + 0, d)) only
  where
    only : days ≡ rest
    only = omega (arith, e)

    below : days < has first
    below = omega (arith, only, less, ap has (plus_zero first))

    here : nat_lt days (has first) ≡ true
    here = grind (arith, nat_tests, below)
found has (suc n) first (suc k) days rest e few less =
    ap (λ (b : Bool). if b then (first, days) else passed has n (first + 1) (days - has first)) past
    ∙ found has n (first + 1) k (days - has first) rest (omega (arith, e)) (omega (arith, few)) (rw next less)
    ∙ ap (λ at. (at, rest)) next
  where
    enough : has first ≤ days
    enough = omega (arith, e)

    past : nat_lt days (has first) ≡ false
    past = grind (arith, nat_tests, enough)

    next : first + 1 + k ≡ first + suc k
    next = plus_next first k

spent-years : (k : ℕ) → spent year_days 1900 k ≡ days_of_years k
unfolding days_of_years
spent-years zero = refl
spent-years (suc k) = spent-last year_days 1900 k ∙ ap (λ n. n + year_days (1900 + k)) (spent-years k)

spent-months : (y k : ℕ) → spent (month_days y) 1 k ≡ days_of_months y k
unfolding days_of_months
spent-months y zero = refl
spent-months y (suc k) =
    spent-last (month_days y) 1 k ∙ ap (λ n. n + month_days y (1 + k)) (spent-months y k) ∙ ap (λ m. days_of_months y k + month_days y m) (one_plus k)

-- the months of a year are its days
whole_year : (y : ℕ) → days_of_months y 12 ≡ year_days y
unfolding days_of_months
whole_year y = go (is_leap y)
  where
    go : (leap : Bool) → 31 + (if leap then 29 else 28) + 31 + 30 + 31 + 30 + 31 + 31 + 30 + 31 + 30 + 31 ≡ (if leap then 366 else 365)
    go true = refl
    go false = refl

fewer_months : (y k more : ℕ) → days_of_months y k ≤ days_of_months y (k + more)
unfolding days_of_months
fewer_months y k zero = omega (arith, ap (days_of_months y) (plus_zero k))
fewer_months y k (suc more) = omega (arith, fewer_months y k more, ap (days_of_months y) (behind k more))
  where
    behind : (k more : ℕ) → k + suc more ≡ suc (k + more)
    behind k more = omega arith

within_year : (y m d : ℕ) → suc m ≤ 12 → d < month_days y (suc m) → days_of_months y m + d < year_days y
unfolding days_of_months
within_year y m d few less =
    let through : days_of_months y (suc m) ≤ days_of_months y (suc m + (12 - suc m)) = fewer_months y (suc m) (12 - suc m) in
    let last : suc m + (12 - suc m) ≡ 12 = omega (arith, few) in
    let all : days_of_months y (suc m) ≤ days_of_months y 12 = rw last at through in
    omega (arith, all, whole_year y, less)

-- the date of a day
dated : (y m d count : ℕ) → 1900 ≤ y → y ≤ 9999 → suc m ≤ 12 → d < month_days y (suc m) → count ≡ days_of_years (y - 1900) + days_of_months y m + d
    → date_text y (suc m) (suc d) ≡ day_text count
unfolding day_text
dated y m d count from to few less e =
    let spelled : ℕ × ℕ → List ℕ = λ (at : ℕ × ℕ). date_text at.0 (month_at at).0 ((month_at at).1 + 1) in
    let again : 1900 + (y - 1900) ≡ y = omega (arith, from) in
    let rest = days_of_months y m + d in
    let there : rest < year_days (1900 + (y - 1900)) = rw again (within_year y m d few less) in
    let year : year_at count ≡ (1900 + (y - 1900), rest) =
    found year_days 8099 1900 (y - 1900) count rest (omega (arith, e, spent-years (y - 1900))) (omega (arith, to)) there in
    let month : month_at (y, rest) ≡ (1 + m, d) =
    found (month_days y) 11 1 m rest d (omega (arith, spent-months y m)) (omega (arith, few)) (rw (one_plus m) less) in
    sym (ap spelled {y = (y, rest)} (year ∙ ap (λ n. (n, rest)) again) ∙ ap (λ (at : ℕ × ℕ). date_text y at.0 (at.1 + 1)) month ∙ ap (λ n. date_text y n (d + 1)) (one_plus m)
    ∙ ap (date_text y (suc m)) (plus_one d))
  where
    plus_one : (d : ℕ) → d + 1 ≡ suc d
    plus_one d = omega arith

-- each text of the day is this one
pub day_text-is : (text : List ℕ) (count : ℕ) → IsDayText text count → text ≡ day_text count
day_text-is text count is =
    let from : 1900 ≤ is.year = omega (arith, ints, is.is_date.year_from) in
    let to : is.year ≤ 9999 = omega (arith, ints, is.is_date.year_to) in
    is.spelled ∙ go is.month is.day from to is.is_date.month_from is.is_date.month_to is.is_date.day_from is.is_date.day_to is.counted
  where
    go : (m d : ℕ) → 1900 ≤ is.year → is.year ≤ 9999 → 1 ≤ m → m ≤ 12 → 1 ≤ d → d ≤ month_days is.year m → count ≡ days_from_1900 is.year m d
        → date_text is.year m d ≡ day_text count
    go zero d from to low few one less e = absurd (omega (arith, low))
    go (suc m) zero from to low few one less e = absurd (omega (arith, one))
    go (suc m) (suc d) from to low few one less e = dated is.year m d count from to few (omega (arith, less)) (rw (less_one m, less_one d) at e)
