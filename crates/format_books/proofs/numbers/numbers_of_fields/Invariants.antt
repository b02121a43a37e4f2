use Rattle.std.proofs.Common.{◌≡◌, ◌≤◌, ◌+◌, ◌++◌, drop, length, map}
use Rattle.arrayvec.specs.ArrayVec.{array_vec_len}
use Rattle.format_table.specs.Forms.{most_numbers}
use Rattle.toml.specs.View.{table_view}
use Rattle.format_books.specs.Fields.{field_line}
use Rattle.format_books.specs.Numbers.{added_by_all, numbers_in}
use Rattle.format_books.proofs.numbers.numbers_of_fields.Given as goal

abbrev pub invariant-loop-field : goal.invariant-loop-field
invariant-loop-field l = record {
  added : numbers_in (table_view l.table) ≡ l.numbers.items ++ added_by_all (map field_line (drop l.field-index l.fields)) (table_view l.table);
  room : array_vec_len l.numbers + length (added_by_all (map field_line (drop l.field-index l.fields)) (table_view l.table)) ≤ most_numbers;
}
