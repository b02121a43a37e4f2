-- What a session makes of its source and its sink. Where one isn't honest, nothing is said.
use Rattle.std.specs.Prelude.{◌≡◌, ◌+◌, ◌++◌, ◌≤◌, ℕ, Bool, IsTrue, List, [], length}
use Rattle.io_traits.specs.Whole.{IsCutShort}

-- a source before and after: whether it is honest, and the bytes that are left of it
pub record Input : Type 0 where
  pub honest : Bool
  pub before : List ℕ
  pub after : List ℕ

-- a sink before and after: whether it is honest, and its text
pub record Output : Type 0 where
  pub honest : Bool
  pub before : List ℕ
  pub after : List ℕ

-- the input was read to its end, and it isn't longer than the limit
pub record IsReadWhole (limit : ℕ) (input : Input) : Type 0 where
  pub short : IsTrue input.honest → length input.before ≤ limit
  pub end : IsTrue input.honest → input.after ≡ []

-- at most so many bytes were read
abbrev pub IsReadWithin : ℕ → Input → Type 0
IsReadWithin limit input = IsTrue input.honest → length input.before ≤ limit + length input.after

-- one byte past the limit was read
abbrev pub IsReadPast : ℕ → Input → Type 0
IsReadPast limit input = IsTrue input.honest → length input.before ≡ limit + 1 + length input.after

-- these bytes were written
abbrev pub HasWritten : List ℕ → Output → Type 0
HasWritten text output = IsTrue output.honest → output.after ≡ output.before ++ text

-- these bytes were written, and of the bytes behind them a front that isn't all of them
abbrev pub HasWrittenShort : List ℕ → List ℕ → Output → Type 0
HasWrittenShort text cut output = IsTrue output.honest → IsCutShort cut (output.before ++ text) output.after
