-- What one call moves between an edge and a buffer.
use Rattle.std.specs.Prelude.{◌≡◌, ◌++◌, ℕ, List, drop, take}

-- the first n bytes of the buffer are the front of what was left, and the rest of the buffer stays
pub record IsFrontRead (n : ℕ) (left left' buffer buffer' : List ℕ) : Type 0 where
  pub front : left ≡ take n buffer' ++ left'
  pub rest : drop n buffer' ≡ drop n buffer
