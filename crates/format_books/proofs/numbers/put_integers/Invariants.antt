use Rattle.std.proofs.Common.{◌≡◌, ◌≤◌, ◌+◌, ◌++◌, Some, drop, length, map}
use Rattle.arrayvec.specs.ArrayVec.{array_vec_len}
use Rattle.format_table.specs.Forms.{most_numbers}
use Rattle.toml.specs.View.{view}
use Rattle.format_books.specs.Reading.{integer_in}
use Rattle.format_books.proofs.numbers.put_integers.Given as goal

abbrev pub invariant-loop-item : goal.invariant-loop-item
invariant-loop-item l = record {
  added : l.initial.numbers.items ++ map (λ d. integer_in (Some d)) (map view l.items) ≡ l.numbers.items ++ map (λ d. integer_in (Some d)) (map view (drop l.item-index l.items));
  room : array_vec_len l.numbers + length (drop l.item-index l.items) ≤ most_numbers;
}
