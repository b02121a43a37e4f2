-- What a founding leaves.
use Rattle.std.specs.Prelude.{◌≢◌, ◌⊎◌, ◌≤◌, ℕ, List, [], length, slice_index}
use Rattle.log_journal.specs.Stands.{StandsFor, IsUnborn}
use Rattle.log_journal.specs.declared.header.Header.{Header}

-- nothing is founded, or a journal without payloads is
abbrev pub UnbornOrEmpty : Header → List ℕ → Type 0
UnbornOrEmpty header file = IsUnborn file ⊎ StandsFor header file []

-- a founding has begun: the first byte is there, and isn't 1
pub record IsStarted (file : List ℕ) : Type 0 where
  pub some : 1 ≤ length file
  pub short : length file ≤ 17
  pub first : slice_index file 0 ≢ 1
