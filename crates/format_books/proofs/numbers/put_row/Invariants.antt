use Rattle.std.proofs.Common.{◌≡◌, ◌≤◌, ◌+◌, ◌++◌, drop, length, map}
use Rattle.arrayvec.specs.ArrayVec.{array_vec_len}
use Rattle.format_table.specs.Forms.{most_numbers}
use Rattle.toml.specs.View.{view}
use Rattle.format_books.specs.Fields.{field_line, table_fields}
use Rattle.format_books.specs.Numbers.{fields_in, row_numbers}
use Rattle.format_books.proofs.numbers.put_row.Given as goal

abbrev pub invariant-loop-field : goal.invariant-loop-field
invariant-loop-field l = record {
  added : l.initial.numbers.items ++ row_numbers (fields_in l.name table_fields) (view l.row) ≡ l.numbers.items ++ row_numbers (fields_in l.name (map field_line (drop l.field-index l.fields))) (view l.row);
  room : array_vec_len l.numbers + length (row_numbers (fields_in l.name (map field_line (drop l.field-index l.fields))) (view l.row)) ≤ most_numbers;
}
