use Rattle.std.proofs.Common.{◌≡◌, ◌+◌, ◌-◌, ◌*◌, ◌≤◌, ◌++◌, length, take}
use Rattle.std.specs.Prelude.{flat_map}
use Rattle.format_kinds.specs.Kinds.{first_and_last}
use Rattle.format_table.specs.Forms.{most_numbers}
use Rattle.format_table.specs.Layout.{rows_again}
use Rattle.format_bytes.specs.Numbers.{break_days}
use Rattle.format_bytes.specs.Parts.{FitAnywhere}
use Rattle.format_bytes.proofs.facts.put_breaks.Given as goal

abbrev pub invariant-loop-first : goal.invariant-loop-first
invariant-loop-first l = record {
  room : length l.numbers.items + 2 * (length l.breaks - l.first-index) ≤ most_numbers;
  added : l.numbers.items ≡ l.initial.numbers.items ++ flat_map break_days (take l.first-index l.breaks);
  in_range : FitAnywhere (rows_again l.first-index first_and_last) (flat_map break_days (take l.first-index l.breaks));
}
