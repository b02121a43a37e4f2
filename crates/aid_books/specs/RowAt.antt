-- The row that a table has at an amount.
use Rattle.std.specs.Prelude.{◌≡◌, ℕ, suc, ℤ, ◌<ℤ◌, ◌≤ℤ◌, List, slice_get, Some}
use Rattle.aid_books.specs.declared.marginal.Bracket.{Bracket}

-- the row at place k begins below x, and the one after it, if there is one, doesn't
pub record IsRowAt (rows : List Bracket) (x : ℤ) (k : ℕ) (row : Bracket) : Type 0 where
  pub here : slice_get rows k ≡ Some row
  pub below : row.over <ℤ x
  pub last : (next : Bracket) → slice_get rows (suc k) ≡ Some next → x ≤ℤ next.over
