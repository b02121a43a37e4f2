-- The rows of a text, and the lines that answer them. A list is read newest first.
use Rattle.std.specs.Prelude.{ℕ, ◌+◌, List, [], ◌∷◌, ◌++◌, length, Result, Ok, Err}
use Rattle.log_machine.specs.Scheme.{Semantics}
use Rattle.log_machine.specs.Submits.{after_ask}

-- what the rows of a desk say, and the lines that answer them
pub record Texts (Operation Response Error : Type 0) : Type 1 where
  -- what a row may say
  pub Meaning : Type 0
  -- what a row says that is an ask, or why it is none
  pub said : Result Operation Error → Meaning
  -- the line that answers the row with a number, on a list of so many entries
  pub answer_line : ℕ → ℕ → Response → List ℕ
  -- the line of a row that is no ask
  pub error_line : Error → List ℕ

-- the line that answers a row, by its number and the list before it
abbrev pub row_line : {Entry Operation Response Error : Type 0} → Semantics Entry Operation Response → Texts Operation Response Error → List Entry → ℕ → Result Operation Error → List ℕ
row_line semantics texts past number (Ok operation) = texts.answer_line number (length past) (semantics.answer past operation)
row_line semantics texts past number (Err error) = texts.error_line error

-- the list after a row: what its ask adds joins it
abbrev pub after_row : {Entry Operation Response Error : Type 0} → Semantics Entry Operation Response → List Entry → Result Operation Error → List Entry
after_row semantics past (Ok operation) = after_ask semantics past operation
after_row semantics past (Err error) = past

-- the list after the rows
abbrev pub after_rows : {Entry Operation Response Error : Type 0} → Semantics Entry Operation Response → List Entry → List (Result Operation Error) → List Entry
after_rows semantics past [] = past
after_rows semantics past (row ∷ rows) = after_rows semantics (after_row semantics past row) rows

-- one line for each row, the first row having the number
abbrev pub lines_of : {Entry Operation Response Error : Type 0} → Semantics Entry Operation Response → Texts Operation Response Error → List Entry → ℕ → List (Result Operation Error) → List ℕ
lines_of semantics texts past number [] = []
lines_of semantics texts past number (row ∷ rows) = row_line semantics texts past number row ++ lines_of semantics texts (after_row semantics past row) (number + 1) rows
