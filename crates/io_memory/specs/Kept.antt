-- What contracts see of a source and of a sink in memory.
use Rattle.std.specs.Prelude.{ℕ, List}

-- the bytes that are left, the numbers of the calls that fail, and how many calls and faults there were
pub record Feed : Type 0 where
  pub left : List ℕ
  pub failing : List ℕ
  pub calls : ℕ
  pub faults : ℕ

-- the text that was written, the numbers of the calls that fail, and how many calls and faults there were
pub record Tape : Type 0 where
  pub text : List ℕ
  pub failing : List ℕ
  pub calls : ℕ
  pub faults : ℕ
