use Rattle.std.proofs.Common.{◌≡◌, ◌+◌, ◌≤◌, ◌++◌, length}
use Rattle.clock_hours.specs.Lines.{clock_text, lines_from}
use Rattle.clock_hours.proofs.lines.clock_lines.Given as goal

-- the lines so far and those of what is left are those of the text, and as many numbers are left as there may be rows
abbrev pub invariant-loop-number : goal.invariant-loop-number
invariant-loop-number l = record {
  told : l.out.items ++ lines_from l.number l.rows ≡ clock_text l.fn.text.items;
  room : l.number + length l.rows ≤ l.number-end + 1;
}
