use Rattle.std.proofs.Common.{◌≡◌, drop, map}
use Rattle.toml.specs.View.{table_view}
use Rattle.format_books.specs.Fields.{field_line}
use Rattle.format_books.specs.Reading.{fields_error, first_error}
use Rattle.format_books.proofs.reading.error_of_fields.Given as goal

abbrev pub invariant-loop-field : goal.invariant-loop-field
invariant-loop-field l =
    fields_error (table_view l.table) ≡ first_error (map field_line (drop l.field-index l.fields)) (table_view l.table)
