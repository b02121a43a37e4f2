-- The numbers of a row's fields, and the first that isn't one.
use Rattle.std.specs.Prelude.{ℕ, ◌+◌, ℤ, List, [], ◌∷◌, Option, Some, None, Result, Err}
use Rattle.std.specs.Result.{result_map_both}
use Rattle.aid_types.specs.Whole.{whole_between, whole_of}
use Rattle.aid_types.specs.declared.text.Malformed.{Malformed}
use Rattle.aid_types.specs.declared.text.Malformed.TheVariants as malformed
use Rattle.format_table.specs.Walk.{Found, Source}
use Rattle.format_table.specs.declared.field.Form.{Form}
use Rattle.format_rows.specs.Fields.{number_in}
use Rattle.format_rows.specs.declared.error.Cause.{Cause}
use Rattle.format_rows.specs.declared.error.Cause.TheVariants.{WrongCount, Spelling, Range}
use Rattle.format_rows.specs.declared.error.RowError.{RowError}

-- why a row is none of its form
abbrev pub refused : ℕ → ℕ → Cause → RowError
refused row field cause = record { row = row; field = field; cause = cause }

-- the cause that a text is no number of its field
abbrev pub cause_of : Malformed → Cause
cause_of malformed.Spelling = Spelling
cause_of malformed.Range = Range

-- the number of the first text and the texts behind it, or why the row is none of its form
abbrev pub first_number : List (List ℕ) → ℕ → ℕ → Form → List (List ℕ) → Result (Found (List (List ℕ))) RowError
first_number words row place form [] = Err (refused row 0 WrongCount)
first_number words row place form (text ∷ texts) =
    result_map_both (λ z. record { number = z; rest = texts }) (λ e. refused row place (cause_of e)) (number_in words form text)

-- The numbers of a row's texts behind the kind's name, which is field 1: the place of a number is 2 more than there are
-- numbers before it.
abbrev pub row_source : List (List ℕ) → ℕ → Source (List (List ℕ)) RowError
row_source words row = record { find = λ before line texts. first_number words row (before + 2) line.form texts; past = λ before texts. refused row (before + 2) Range; left = λ texts. None }

-- the whole number within bounds that a field's text spells, or why the row is none
abbrev pub whole_field : ℕ → ℕ → ℤ → ℤ → List ℕ → Result ℤ RowError
whole_field row field low high text = result_map_both (λ z. z) (λ e. refused row field (cause_of e)) (whole_between low high (whole_of text))

-- the same of a field that may not be there
abbrev pub whole_spelled : ℕ → ℕ → ℤ → ℤ → Option (List ℕ) → Result ℤ RowError
whole_spelled row field low high None = Err (refused row 0 WrongCount)
whole_spelled row field low high (Some text) = whole_field row field low high text

-- ---- what the code reads first
abbrev pub number_spelled : List (List ℕ) → ℕ → ℕ → Form → Option (List ℕ) → Result ℤ RowError
number_spelled words row place form None = Err (refused row 0 WrongCount)
number_spelled words row place form (Some text) = result_map_both (λ z. z) (λ e. refused row place (cause_of e)) (number_in words form text)
