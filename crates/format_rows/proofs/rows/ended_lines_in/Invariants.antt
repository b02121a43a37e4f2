use Rattle.std.proofs.Common.{◌≡◌, ◌≤◌, ◌+◌, ◌∷◌, ℕ}
use Rattle.std.specs.Prelude.{List, drop}
use Rattle.format_rows.specs.Left.{ended_lines}
use Rattle.format_rows.proofs.rows.ended_lines_in.Given as goal

-- the lines so far and those that are left are those of all
pub record Counted (before lines at : ℕ) (text : List ℕ) : Type 0 where
  pub all : lines + ended_lines (before ∷ drop at text) ≡ ended_lines text
  pub few : lines ≤ at

abbrev pub invariant-loop-byte : goal.invariant-loop-byte
invariant-loop-byte l = Counted l.before l.lines l.byte-index l.text
