-- What the rows about clock-hour programs mean. Own format.
use Rattle.std.specs.Prelude.{ℕ, ◌==◌, if◌then◌else◌, List, [], ◌∷◌, length, map, sum, bytes_eq, codes, Option, Some, None, Result, Err}
use Rattle.csv.specs.Records.{field_at}
use Rattle.format_rows.specs.Numbers.{refused}
use Rattle.format_rows.specs.declared.error.Cause.TheVariants.{UnknownKind, WrongCount}
use Rattle.format_rows.specs.declared.error.RowError.{RowError}
use Rattle.clock_hours.specs.Clock.{clock_payment}
use Rattle.law_r2t4.specs.Worksheet.{worksheet_of}
use Rattle.law_r2t4.specs.declared.Lines.{Lines}
use Rattle.clock_hours.specs.Fields.{between, cents_at, judged, size, up_to, whole_at}
use Rattle.clock_hours.specs.declared.answer.ClockAnswer.{ClockAnswer}
use Rattle.clock_hours.specs.declared.answer.ClockAnswer.TheVariants.{Pay, Returned}
use Rattle.clock_hours.specs.declared.field.Field.{Field}

-- ---- pay,scheduled,hours,year_hours,weeks,year_weeks
-- each field with its range: the Scheduled Award in dollars, then the hours of the period and those of the academic year, then its weeks
-- and the year's
abbrev pub pay_fields : List (List ℕ) → List Field
pay_fields texts =
    between 0 99999 (whole_at texts 2)
    ∷ up_to 0 (whole_at texts 4) (whole_at texts 3)
    ∷ between 1 9999 (whole_at texts 4)
    ∷ up_to 0 (whole_at texts 6) (whole_at texts 5)
    ∷ between 1 99 (whole_at texts 6) ∷ []

-- the payment of a payment period
abbrev pub payment : List (List ℕ) → ClockAnswer
payment texts =
    Pay (clock_payment (size (whole_at texts 2)) (size (whole_at texts 3)) (size (whole_at texts 4)) (size (whole_at texts 5)) (size (whole_at texts 6)))

-- a row of the kind `pay`
abbrev pub pay_row : ℕ → List (List ℕ) → Result ClockAnswer RowError
pay_row row texts = if length texts == 6 then judged row (pay_fields texts) (payment texts) else Err (refused row 0 WrongCount)

-- ---- withdraw,scheduled_hours,period_hours,charges, then six net amounts, then six that could have been disbursed
-- an amount, in cents
abbrev pub amount_at : List (List ℕ) → ℕ → Field
amount_at texts place = between 0 99999999 (cents_at texts place)

-- each field with its range
abbrev pub withdrawal_fields : List (List ℕ) → List Field
withdrawal_fields texts =
    up_to 1 (whole_at texts 3) (whole_at texts 2)
    ∷ between 1 9999 (whole_at texts 3)
    ∷ amount_at texts 4
    ∷ amount_at texts 5 ∷ amount_at texts 6 ∷ amount_at texts 7 ∷ amount_at texts 8 ∷ amount_at texts 9 ∷ amount_at texts 10
    ∷ amount_at texts 11 ∷ amount_at texts 12 ∷ amount_at texts 13 ∷ amount_at texts 14 ∷ amount_at texts 15 ∷ amount_at texts 16 ∷ []

-- the amounts of these fields
abbrev pub cents_in : List (List ℕ) → List ℕ → List ℕ
cents_in texts places = map (λ place. size (cents_at texts place)) places

-- what a worksheet comes to: the percent earned, what the school returns, what the student owes of it all, what is still to be
-- disbursed
abbrev pub returned : Lines → ClockAnswer
returned lines = Returned lines.percent lines.school (sum lines.owed) lines.post

-- the return of funds after a withdrawal
abbrev pub withdrawal : List (List ℕ) → ClockAnswer
withdrawal texts =
    returned (worksheet_of (size (whole_at texts 2)) (size (whole_at texts 3)) (size (cents_at texts 4))
    (cents_in texts (5 ∷ 6 ∷ 7 ∷ 8 ∷ 9 ∷ 10 ∷ [])) (cents_in texts (11 ∷ 12 ∷ 13 ∷ 14 ∷ 15 ∷ 16 ∷ [])))

-- a row of the kind `withdraw`
abbrev pub withdraw_row : ℕ → List (List ℕ) → Result ClockAnswer RowError
withdraw_row row texts = if length texts == 16 then judged row (withdrawal_fields texts) (withdrawal texts) else Err (refused row 0 WrongCount)

-- ---- a row, by the kind that its first field names
abbrev pub row_of_kind : ℕ → List (List ℕ) → Option (List ℕ) → Result ClockAnswer RowError
row_of_kind row texts None = Err (refused row 1 UnknownKind)
row_of_kind row texts (Some kind) =
    if bytes_eq kind (codes "pay") then pay_row row texts
    else if bytes_eq kind (codes "withdraw") then withdraw_row row texts
    else Err (refused row 1 UnknownKind)

-- what a row means, its number counting from 1: an answer, or why there is none
abbrev pub clock_meaning : ℕ → List (List ℕ) → Result ClockAnswer RowError
clock_meaning row texts = row_of_kind row texts (field_at texts 0)
