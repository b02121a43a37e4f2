-- The lines that answer rows about clock-hour programs. Own format.
use Rattle.std.specs.Prelude.{ℕ, suc, List, [], ◌∷◌, ◌++◌, codes, decimal, Result, Ok, Err}
use Rattle.aid_types.specs.Cents.{cents_text}
use Rattle.aid_types.specs.Percents.{percent_text}
use Rattle.format_rows.specs.Lines.{error_line}
use Rattle.format_rows.specs.Meanings.{meanings}
use Rattle.format_rows.specs.declared.error.RowError.{RowError}
use Rattle.clock_hours.specs.Rows.{clock_meaning}
use Rattle.clock_hours.specs.declared.answer.ClockAnswer.{ClockAnswer}
use Rattle.clock_hours.specs.declared.answer.ClockAnswer.TheVariants.{Pay, Returned}

-- ROW pay DOLLARS, and ROW returned PERCENT RETURNED OWED POST
abbrev pub answer_line : ℕ → ClockAnswer → List ℕ
answer_line row (Pay dollars) = decimal row ++ codes " pay " ++ decimal dollars ++ codes "\n"
answer_line row (Returned percent returned owed post) =
    decimal row ++ codes " returned " ++ percent_text percent ++ codes " " ++ cents_text returned ++ codes " " ++ cents_text owed ++ codes " " ++ cents_text post ++ codes "\n"

-- the line that answers a row, by what the row means
abbrev pub clock_line : ℕ → Result ClockAnswer RowError → List ℕ
clock_line row (Ok answer) = answer_line row answer
clock_line row (Err error) = error_line error

-- the lines of rows, the first of them with this number
abbrev pub lines_from : ℕ → List (Result ClockAnswer RowError) → List ℕ
lines_from row [] = []
lines_from row (meaning ∷ rows) = clock_line row meaning ++ lines_from (suc row) rows

-- the whole answer to a text: a line for each of its rows
abbrev pub clock_text : List ℕ → List ℕ
clock_text text = lines_from 1 (meanings clock_meaning text)
