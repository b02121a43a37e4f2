-- Rows of which one was read ahead.
use Rattle.std.proofs.Common.{◌≡◌, ℕ, ◌+◌, ◌<◌, List, [], ◌∷◌, Option, Some, None, Result, Ok, Err, length, ap, arith}
use Rattle.std.specs.Prelude.{IfOk, MatchOption}

-- what was read of the rows that were left leaves these behind it
abbrev pub IsReadAhead : {Row E Meaning : Type 0} → (Row → Meaning) → Result (Option Row) E → List Meaning → List Meaning → Type 0
IsReadAhead said read left behind = IfOk read (λ next. MatchOption next ((left ≡ []) × (behind ≡ [])) (λ row. left ≡ said row ∷ behind))

-- how many rows are known to be left: the one that was read ahead, and those behind it
pub rows_ahead : {Row E : Type 0} → Result (Option Row) E → ℕ → ℕ
rows_ahead (Ok (Some row)) behind = behind + 1
rows_ahead (Ok None) behind = 0
rows_ahead (Err e) behind = 0

-- a row that was read ahead is taken, and the next one is read
pub fewer_ahead : {Row E Meaning : Type 0} (said : Row → Meaning) (held read : Result (Option Row) E) (row : Row) (left behind : List Meaning) → held ≡ Ok (Some row) → IsReadAhead said read left behind → rows_ahead read (length behind) < rows_ahead held (length left)
unfolding rows_ahead
fewer_ahead said held (Ok (Some next)) row left behind is ahead = rw is (omega (arith, ap length ahead))
fewer_ahead said held (Ok None) row left behind is ahead = rw is (omega arith)
fewer_ahead said held (Err e) row left behind is ahead = rw is (omega arith)
