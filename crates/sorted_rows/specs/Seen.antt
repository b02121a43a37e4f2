-- A table as its callers see it.
use Rattle.std.specs.Prelude.{ℕ, List}

-- the rows, in which a key's value is found by `value_at`, and how many new keys may be written without asking for memory
pub record Seen (K V : Type 0) : Type 0 where
  pub rows : List (K × V)
  pub room : ℕ
