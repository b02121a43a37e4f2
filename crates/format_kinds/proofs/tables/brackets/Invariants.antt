use Rattle.std.proofs.Common.{◌≡◌, ◌≤◌, ◌*◌, ◌-◌, ◌++◌, flat_map, length, take}
use Rattle.format_kinds.specs.Book.{bracket_row}
use Rattle.format_kinds.proofs.tables.brackets.Given as goal

abbrev pub invariant-loop-i : goal.invariant-loop-i
invariant-loop-i l = record {
  numbers : l.initial.section ≡ flat_map bracket_row (take l.i l.rows) ++ l.section;
  left : 3 * (l.count - l.i) ≤ length l.section;
  all : length l.rows ≡ 16;
}
