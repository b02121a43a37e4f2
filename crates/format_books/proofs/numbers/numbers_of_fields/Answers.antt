use Rattle.std.proofs.Common.{◌≡◌, ◌≤◌, ℤ, List, [], length, map, ap, rules, subst, arith}
use Rattle.arrayvec.specs.ArrayVec.{array_vec_len}
use Rattle.format_table.specs.Forms.{most_numbers}
use Rattle.toml.specs.View.{table_view}
use Rattle.format_books.specs.Fields.{field_line}
use Rattle.format_books.specs.Numbers.{added_by_all}
use Rattle.format_books.proofs.BookLemmas.{numbers_by}
use Rattle.format_books.proofs.numbers.numbers_of_fields.Goals as goal

pub loop-field-init : goal.loop-field-init
loop-field-init c =
    let t = table_view c.args.table.now in
    let fields = c.fields_of-fields.result.now in
    let none : c.new-numbers.result.items ≡ [] = search rules in
    let same = numbers_by fields t c.fields_of-fields.ensures in
    let few : length (added_by_all (map field_line fields) t) ≤ most_numbers = subst (λ (zs : List ℤ). length zs ≤ 370) same c.requires in
    let empty : array_vec_len c.new-numbers.result ≡ 0 = ap length none in
    record { added = rw none same; room = omega (arith, few, empty) }
