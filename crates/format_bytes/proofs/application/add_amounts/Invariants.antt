use Rattle.std.proofs.Common.{◌≡◌, ◌+◌, ◌-◌, ◌≤◌, ◌++◌, length, take}
use Rattle.format_table.specs.Forms.{most_numbers}
use Rattle.format_bytes.proofs.application.add_amounts.Given as goal

abbrev pub invariant-loop-amount : goal.invariant-loop-amount
invariant-loop-amount l = record {
  room : length l.numbers.items + (length l.amounts - l.amount-index) ≤ most_numbers;
  added : l.numbers.items ≡ l.initial.numbers.items ++ take l.amount-index l.amounts;
}
