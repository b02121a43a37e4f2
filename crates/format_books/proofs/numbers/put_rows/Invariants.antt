use Rattle.std.proofs.Common.{◌≡◌, ◌≤◌, ◌+◌, ◌++◌, drop, length, map}
use Rattle.std.specs.Prelude.{flat_map}
use Rattle.arrayvec.specs.ArrayVec.{array_vec_len}
use Rattle.format_table.specs.Forms.{most_numbers}
use Rattle.toml.specs.View.{view}
use Rattle.format_books.specs.Fields.{table_fields}
use Rattle.format_books.specs.Numbers.{fields_in, row_numbers}
use Rattle.format_books.proofs.numbers.put_rows.Given as goal

abbrev pub invariant-loop-row : goal.invariant-loop-row
invariant-loop-row l = record {
  added : l.initial.numbers.items ++ flat_map (row_numbers (fields_in l.name table_fields)) (map view l.rows)
      ≡ l.numbers.items ++ flat_map (row_numbers (fields_in l.name table_fields)) (map view (drop l.row-index l.rows));
  room : array_vec_len l.numbers + length (flat_map (row_numbers (fields_in l.name table_fields)) (map view (drop l.row-index l.rows))) ≤ most_numbers;
}
