use Rattle.std.proofs.Common.{◌≡◌, ◌+◌, ◌*◌, ◌≤◌, ◌++◌, length, drop}
use Rattle.format_table.specs.Spelling.{numbers_bytes}
use Rattle.format_table.proofs.writing.put_numbers.Given as goal

abbrev pub invariant-loop-number : goal.invariant-loop-number
invariant-loop-number l = record {
  fits : length l.room ≤ 1 + 8 * l.number-index;
  added : l.room ++ numbers_bytes l.layout (drop l.number-index l.numbers) ≡ l.initial.room ++ numbers_bytes l.initial.layout l.numbers;
}
