-- Rows that are looked at, and filed nowhere.
use Rattle.std.specs.Prelude.{◌≡◌, ℕ, ◌+◌, List, [], ◌∷◌, ◌++◌, length, map, Result, Ok, Err, IsOk, IsTrue}
use Rattle.log_session.specs.Edges.{Input, Output, IsReadWhole, HasWritten, HasWrittenShort}
use Rattle.log_machine.specs.Texts.{Texts}
use Rattle.log_session.specs.Sessions.{IsUnread}
use Rattle.log_session.specs.declared.checking.CheckStop.{CheckStop}
use Rattle.log_session.specs.declared.checking.CheckStop.TheVariants.{Reading, Write, NoMemory}
use Rattle.log_session.specs.declared.checking.CheckTally.{CheckTally}
use Rattle.log_session.specs.declared.stop.ReadStop.{ReadStop}

-- the line of a row: that it is fine, by its number, or why it is no ask
abbrev pub check_line : {Operation Response Error : Type 0} → Texts Operation Response Error → (ℕ → List ℕ) → ℕ → Result Operation Error → List ℕ
check_line texts fine number (Ok operation) = fine number
check_line texts fine number (Err error) = texts.error_line error

-- one line for each row, the first row having the number
abbrev pub check_lines : {Operation Response Error : Type 0} → Texts Operation Response Error → (ℕ → List ℕ) → ℕ → List (Result Operation Error) → List ℕ
check_lines texts fine number [] = []
check_lines texts fine number (row ∷ rows) = check_line texts fine number row ++ check_lines texts fine (number + 1) rows

-- how many of the rows are no ask
abbrev pub errors_in : {Operation Error : Type 0} → List (Result Operation Error) → ℕ
errors_in [] = 0
errors_in (Ok operation ∷ rows) = errors_in rows
errors_in (Err error ∷ rows) = errors_in rows + 1

-- Rows that were looked at, with what was written: all of them, or up to a stop.
pub data Looks {Operation Response Error : Type 0} (texts : Texts Operation Response Error) (fine : ℕ → List ℕ) (output : Output) : List (Result Operation Error) → Result CheckTally CheckStop → Type 0 where
  all : (rows : List (Result Operation Error)) (tally : CheckTally) → HasWritten (check_lines texts fine 1 rows) output
      → tally.rows ≡ length rows → tally.errors ≡ errors_in rows → Looks texts fine output rows (Ok tally)
  -- the line of a row was cut short
  unwritten : (front : List (Result Operation Error)) (row : Result Operation Error)
      → HasWrittenShort (check_lines texts fine 1 front) (check_line texts fine (length front + 1) row) output
      → Looks texts fine output (front ++ row ∷ []) (Err Write)
  -- there was no memory for a further row, or for its line
  starved : (front : List (Result Operation Error)) → HasWritten (check_lines texts fine 1 front) output → Looks texts fine output front (Err NoMemory)

-- Of the rows that are left some in front are looked at, and all of them where nothing stops that.
pub record LooksAt {Operation Response Error : Type 0} (texts : Texts Operation Response Error) (fine : ℕ → List ℕ) (output : Output) (left : List texts.Meaning) (ended : Result CheckTally CheckStop) : Type 0 where
  pub rows : List (Result Operation Error)
  pub rest : List texts.Meaning
  pub taken : left ≡ map texts.said rows ++ rest
  pub whole : IsOk ended → rest ≡ []
  pub looks : Looks texts fine output rows ended

-- The input is read whole, and then its rows are looked at.
pub data Checks {Operation Response Error : Type 0} (texts : Texts Operation Response Error) (rows_of : List ℕ → List texts.Meaning) (fine : ℕ → List ℕ) (limit : ℕ) (input : Input) (output : Output) : Result CheckTally CheckStop → Type 0 where
  -- the input wasn't read
  unread : (stop : ReadStop) → IsUnread stop limit input → output.after ≡ output.before → Checks texts rows_of fine limit input output (Err (Reading stop))
  -- it was
  read : (left : List texts.Meaning) (ended : Result CheckTally CheckStop) → IsReadWhole limit input → (IsTrue input.honest → left ≡ rows_of input.before)
      → LooksAt texts fine output left ended → Checks texts rows_of fine limit input output ended
