use Rattle.std.proofs.Common.{◌≡◌, None, rules, subst, sym}
use Rattle.toml.specs.View.{table_view}
use Rattle.format_kinds.specs.Book.{AreBookNumbers}
use Rattle.format_books.specs.Numbers.{numbers_in}
use Rattle.format_books.specs.Reading.{fields_error}
use Rattle.format_books.specs.Tables.{book_break}
use Rattle.format_books.proofs.BookLemmas.{few_numbers, numbers_of_book}
use Rattle.format_books.proofs.book_of_table.Goals as goal

pub numbers_of_fields-requires : goal.numbers_of_fields-requires
numbers_of_fields-requires c =
    let t = table_view c.args.table.now in
    let none : fields_error t ≡ None = search rules in
    let rising : book_break t ≡ None = search rules in
    few_numbers t none rising

pub book_of_numbers-requires : goal.book_of_numbers-requires
book_of_numbers-requires c =
    let t = table_view c.args.table.now in
    let none : fields_error t ≡ None = search rules in
    let rising : book_break t ≡ None = search rules in
    let same : c.deref.result.now ≡ numbers_in t = search rules in
    subst AreBookNumbers (sym same) (numbers_of_book t none rising)
