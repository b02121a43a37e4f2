use Rattle.std.proofs.Common.{◌≡◌, ◌+◌, ◌++◌, length, take}
use Rattle.loans.specs.Numbers.{dollar_numbers}
use Rattle.loans.proofs.limits.put_dollars.Given as goal

abbrev pub invariant-loop-amount : goal.invariant-loop-amount
invariant-loop-amount l = record {
  added : l.numbers.items ≡ l.initial.numbers.items ++ dollar_numbers (take l.amount-index l.amounts);
  count : length l.numbers.items ≡ length l.initial.numbers.items + l.amount-index;
}
