-- The numbers of a year book, in the order in which a book is filed.
use Rattle.std.specs.Prelude.{ℕ, ℤ, pos, List, [], ◌∷◌, bytes_eq, filter, flat_map, length, map, Some}
use Rattle.toml.specs.Data.{Data, Members, get}
use Rattle.format_books.specs.Fields.{BookLine, table_fields}
use Rattle.format_books.specs.Reading.{fields_of, integer_in, items_in, member_at}
use Rattle.format_books.specs.declared.table.Holds.{Holds}
use Rattle.format_books.specs.declared.table.Holds.TheVariants.{Integer, Integers, Tables, Column}

-- the fields in a section, or the columns of an array of tables
abbrev pub fields_in : List ℕ → List BookLine → List BookLine
fields_in section fields = filter (λ f. bytes_eq f.section section) fields

-- the numbers of a row of an array of tables, by its columns in order
abbrev pub row_numbers : List BookLine → Data → List ℤ
row_numbers columns row = map (λ f. integer_in (get f.key row)) columns

-- what a field adds: its integers; an array of tables its count of rows and then the rows; a column nothing of its own
abbrev pub added_by : Holds → List ℕ → List ℕ → Members → List ℤ
added_by Integer section key t = integer_in (member_at section key t) ∷ []
added_by (Integers n) section key t = map (λ item. integer_in (Some item)) (items_in (member_at section key t))
added_by Tables section key t = pos (length (items_in (member_at section key t))) ∷ flat_map (row_numbers (fields_in key table_fields)) (items_in (member_at section key t))
added_by Column section key t = []

abbrev pub added_by_all : List BookLine → Members → List ℤ
added_by_all fields t = flat_map (λ f. added_by f.kind f.section f.key t) fields

-- the numbers of a text's fields
unfoldable pub numbers_in : Members → List ℤ
numbers_in t = added_by_all (fields_of t) t
