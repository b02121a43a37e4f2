use Rattle.std.proofs.Common.{◌≡◌, ◌+◌, ◌*◌, ◌++◌, flat_map, take}
use Rattle.arrayvec.specs.ArrayVec.{array_vec_len}
use Rattle.format_kinds.specs.Book.{bracket_row}
use Rattle.format_kinds.proofs.put.put_brackets.Given as goal

abbrev pub invariant-loop-row : goal.invariant-loop-row
invariant-loop-row l = record {
  added : l.numbers.items ≡ l.initial.numbers.items ++ flat_map bracket_row (take l.row-index l.rows);
  count : array_vec_len l.numbers ≡ array_vec_len l.initial.numbers + 3 * l.row-index;
}
