-- The text of a civil day: four digits of the year, two of the month and two of the day, as 2025-08-25 (ISO 8601).
use Rattle.std.specs.Prelude.{◌≡◌, ◌≤◌, ℕ, ◌+◌, ◌-◌, ◌*◌, ◌/◌, ◌%◌, Bool, ◌&&◌, ◌==◌, nat_le, List, [], ◌∷◌, ◌++◌, Option, Some, None, Result, Ok, Err, pos, if◌then◌else◌}
use Rattle.std.specs.Char.{is_ascii_digit}
use Rattle.aid_types.specs.declared.text.Malformed.{Malformed}
use Rattle.aid_types.specs.declared.text.Malformed.TheVariants.{Spelling, Range}
use Rattle.law_terms.specs.CivilDays.{IsCivilDate, days_from_1900, month_days}

-- two digits
abbrev pub two_text : ℕ → List ℕ
two_text n = (48 + n / 10) ∷ (48 + n % 10) ∷ []

-- the text of a date
abbrev pub date_text : ℕ → ℕ → ℕ → List ℕ
date_text y m d = two_text (y / 100) ++ (two_text (y % 100) ++ (45 ∷ (two_text m ++ (45 ∷ two_text d))))

-- the text has the shape of a date, four, two and two digits with hyphens between them, and these are its numbers
pub record IsSpelled (text : List ℕ) (y m d : ℕ) : Type 0 where
  pub year : y ≤ 9999
  pub month : m ≤ 99
  pub day : d ≤ 99
  pub spelled : text ≡ date_text y m d

-- the text is that of the day with this count
pub record IsDayText (text : List ℕ) (count : ℕ) : Type 0 where
  pub year : ℕ
  pub month : ℕ
  pub day : ℕ
  pub is_date : IsCivilDate (pos year) month day
  pub spelled : text ≡ date_text year month day
  pub counted : count ≡ days_from_1900 year month day

-- the number of two digits
abbrev pub two_of : ℕ → ℕ → Option ℕ
two_of tens ones = if is_ascii_digit tens && is_ascii_digit ones then Some (10 * (tens - 48) + (ones - 48)) else None

-- year, month and day of two digits each, the year of two such
abbrev pub joined : Option ℕ → Option ℕ → Option ℕ → Option ℕ → Option (ℕ × ℕ × ℕ)
joined (Some century) (Some year) (Some month) (Some day) = Some (100 * century + year, month, day)
joined _ _ _ _ = None

-- the year, the month and the day of a text of that shape
abbrev pub date_in : List ℕ → Option (ℕ × ℕ × ℕ)
date_in (a ∷ b ∷ c ∷ d ∷ p ∷ e ∷ f ∷ q ∷ g ∷ h ∷ []) = if (p == 45) && (q == 45) then joined (two_of a b) (two_of c d) (two_of e f) (two_of g h) else None
date_in _ = None

-- whether there is such a civil date from 1900-01-01 to 9999-12-31
abbrev pub is_date : ℕ → ℕ → ℕ → Bool
is_date y m d = nat_le 1900 y && nat_le y 9999 && nat_le 1 m && nat_le m 12 && nat_le 1 d && nat_le d (month_days y m)

-- the count of a date that there is
abbrev pub counted : Option (ℕ × ℕ × ℕ) → Result ℕ Malformed
counted None = Err Spelling
counted (Some date) = if is_date date.0 date.1 date.2 then Ok (days_from_1900 date.0 date.1 date.2) else Err Range

-- the day that a text is of, or why it is of none
abbrev pub day_in : List ℕ → Result ℕ Malformed
day_in text = counted (date_in text)
