-- What is known of the inputs that desks read. Own.
use Rattle.std.specs.Prelude.{ℕ, Bool, List}

-- what is known of the inputs of desks
pub record Reads (I RowFormat : Type 0) : Type 0 where
  -- the input tells the truth
  pub honest : I → Bool
  -- what is left of it
  pub left : I → List ℕ
  -- how many reads of it failed
  pub faults : I → ℕ
  -- how its rows are read from a text
  pub forms : I → RowFormat
