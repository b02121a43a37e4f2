-- The numbers of a row's fields, and the first field that is none. Own format.
use Rattle.std.specs.Prelude.{◌≡◌, ℕ, ◌+◌, ◌-◌, ◌^◌, ℤ, pos, neg_ℤ, int_le, unsigned_abs, Bool, true, false, not, ◌&&◌, List, [], Option, Some, None, unwrap_or, Result, Ok, Err}
use Rattle.std.specs.List.{position}
use Rattle.std.specs.Result.{result_map_both}
use Rattle.aid_types.specs.Cents.{cents_of, cents_up_to}
use Rattle.aid_types.specs.Whole.{whole_between, whole_of}
use Rattle.aid_types.specs.declared.text.Malformed.{Malformed}
use Rattle.aid_types.specs.declared.text.Malformed.TheVariants as malformed
use Rattle.csv.specs.Records.{field_at}
use Rattle.format_rows.specs.Numbers.{refused}
use Rattle.format_rows.specs.declared.error.Cause.TheVariants.{Spelling, Range}
use Rattle.format_rows.specs.declared.error.RowError.{RowError}
use Rattle.clock_hours.specs.declared.field.Field.{Field}

-- the text of a field of a row, of which the kind is field 1
abbrev pub text_at : List (List ℕ) → ℕ → List ℕ
text_at texts place = unwrap_or (field_at texts (place - 1)) []

-- the whole number that a field spells, of 64 bits with sign, or why it spells none
abbrev pub whole_at : List (List ℕ) → ℕ → Result ℤ Malformed
whole_at texts place = whole_between (neg_ℤ (pos (2 ^ 63))) (pos (2 ^ 63 - 1)) (whole_of (text_at texts place))

-- the amount that a field spells, in cents, up to 999,999.99 dollars, or why it spells none
abbrev pub cents_at : List (List ℕ) → ℕ → Result ℤ Malformed
cents_at texts place = result_map_both (λ n. pos n) (λ e. e) (cents_up_to 99999999 (cents_of (text_at texts place)))

-- a number that has to be between two others
abbrev pub between : ℕ → ℕ → Result ℤ Malformed → Field
between least most number = record { number = number; least = pos least; most = pos most }

-- the greatest number that another lets a field have, which bounds nothing where it is no number itself
abbrev pub bound_of : Result ℤ Malformed → ℤ
bound_of (Ok most) = most
bound_of (Err e) = pos (2 ^ 63 - 1)

-- a number that may be no greater than another
abbrev pub up_to : ℕ → Result ℤ Malformed → Result ℤ Malformed → Field
up_to least most number = record { number = number; least = pos least; most = bound_of most }

-- a field that spells no number of any size
abbrev pub no_spelling : Result ℤ Malformed → Bool
no_spelling (Err malformed.Spelling) = true
no_spelling _ = false

abbrev pub is_misspelled : Field → Bool
is_misspelled field = no_spelling field.number

-- a field whose number is too small or too great
abbrev pub lies_outside : ℤ → ℤ → Result ℤ Malformed → Bool
lies_outside least most (Ok z) = not (int_le least z && int_le z most)
lies_outside least most (Err e) = true

abbrev pub is_outside : Field → Bool
is_outside field = lies_outside field.least field.most field.number

-- a number in its range
abbrev pub IsInRange : Field → Type 0
IsInRange field = is_outside field ≡ false

-- An answer to a row, if each field behind its kind is spelled well and in its range. The first that is misspelled is told before
-- any that lies outside of its range.
abbrev pub judged_by : {A : Type 0} → ℕ → Option ℕ → Option ℕ → A → Result A RowError
judged_by row (Some misspelled) outside answer = Err (refused row (misspelled + 2) Spelling)
judged_by row None (Some outside) answer = Err (refused row (outside + 2) Range)
judged_by row None None answer = Ok answer

abbrev pub judged : {A : Type 0} → ℕ → List Field → A → Result A RowError
judged row fields answer = judged_by row (position is_misspelled fields) (position is_outside fields) answer

-- the size of a number in its range, which is never below 0
abbrev pub size : Result ℤ Malformed → ℕ
size (Ok z) = unsigned_abs z
size (Err e) = 0
