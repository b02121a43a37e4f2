-- The rows of a round, and the lines of those that are none. Own format.
use Rattle.std.specs.Prelude.{ℕ, ◌+◌, ◌++◌, ◌==◌, ℤ, pos, neg_ℤ, unsigned_abs, Bool, false, if◌then◌else◌, List, [], ◌∷◌, length, codes, decimal, Option, Some, None, Result, Ok, Err}
use Rattle.std.specs.List.{list_any}
use Rattle.std.specs.Result.{result_map_both}
use Rattle.format_rows.specs.Lines.{error_line}
use Rattle.format_rows.specs.Meanings.{meanings}
use Rattle.format_rows.specs.Numbers.{refused, whole_field}
use Rattle.format_rows.specs.declared.error.Cause.TheVariants.{WrongCount}
use Rattle.format_rows.specs.declared.error.RowError.{RowError}
use Rattle.format_table.specs.Walk.{and_then}
use Rattle.law_funds.specs.declared.candidate.Candidate.{Candidate}
use Rattle.work_rounds.specs.declared.rows.RoundSaid.{RoundSaid}

-- what a row says, its number counting from 1: a student, an index, a need and an intensity. A wrong number of fields is told first,
-- and then the first bad field.
abbrev pub round_row : ℕ → List (List ℕ) → Result RoundSaid RowError
round_row row (student ∷ sai ∷ need ∷ intensity ∷ []) =
    and_then (whole_field row 1 (pos 1) (pos 999999999999) student) (λ number. and_then (whole_field row 2 (neg_ℤ (pos 1500)) (pos 999999) sai) (λ index.
    and_then (whole_field row 3 (pos 0) (pos 999999) need) (λ dollars. and_then (whole_field row 4 (pos 1) (pos 100) intensity) (λ percent.
    Ok (record { student = unsigned_abs number; sai = index; need = unsigned_abs dollars; intensity = unsigned_abs percent })))))
round_row row _ = Err (refused row 0 WrongCount)

-- what the rows of a text say
abbrev pub round_rows : List ℕ → List (Result RoundSaid RowError)
round_rows text = meanings round_row text

-- a row that was read is of a student
abbrev pub is_of : ℕ → Result RoundSaid RowError → Bool
is_of student (Ok said) = said.student == student
is_of student (Err error) = false

-- ROW error 1 5: the student was read before
abbrev pub repeated_line : ℕ → List ℕ
repeated_line row = decimal row ++ codes " error 1 5\n"

-- the line of a row behind others, if it has one: why it is none, or that its student was read before
abbrev pub round_line : List (Result RoundSaid RowError) → Result RoundSaid RowError → List ℕ
round_line before (Err error) = error_line error
round_line before (Ok said) = if list_any (is_of said.student) before then repeated_line (length before + 1) else []

-- the lines of rows behind others, in their order
abbrev pub round_lines : List (Result RoundSaid RowError) → List (Result RoundSaid RowError) → List ℕ
round_lines before [] = []
round_lines before (row ∷ rows) = round_line before row ++ round_lines (before ++ row ∷ []) rows

-- what a candidate says as a row
abbrev pub said_of_candidate : Candidate → RoundSaid
said_of_candidate c = record { student = c.student; sai = c.sai; need = c.need; intensity = c.intensity }
