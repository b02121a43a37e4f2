-- The book of a text: its numbers, or its first error.
use Rattle.std.specs.Prelude.{ℕ, ℤ, List, Option, Some, None, Result, Ok, Err, option_map}
use Rattle.toml.specs.Data.{Members}
use Rattle.format_books.specs.Numbers.{numbers_in}
use Rattle.format_books.specs.Reading.{fields_error, table_of}
use Rattle.format_books.specs.Tables.{book_break}
use Rattle.format_books.specs.Unknown.{unknown_key}
use Rattle.format_books.specs.declared.error.BookError.{BookError}
use Rattle.format_books.specs.declared.error.BookError.TheVariants.{NotToml, Unknown}

-- what stands unless there is an error
abbrev pub unless : {A : Type 0} → Option BookError → Result A BookError → Result A BookError
unless None r = r
unless (Some e) r = Err e

-- of a table: first its fields in order, then its rows that fail, then its unknown keys
abbrev pub numbers_of_table : Members → Result (List ℤ) BookError
numbers_of_table t =
    unless (fields_error t) (
    unless (book_break t) (
    unless (option_map Unknown (unknown_key t)) (
    Ok (numbers_in t))))

abbrev pub numbers_if : Option Members → Result (List ℤ) BookError
numbers_if None = Err NotToml
numbers_if (Some t) = numbers_of_table t

-- the numbers of the book of a text, or the text's first error
abbrev pub numbers_of_text : List ℕ → Result (List ℤ) BookError
numbers_of_text text = numbers_if (table_of text)
