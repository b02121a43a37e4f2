use Rattle.std.proofs.Common.{rules}
use Rattle.format_books.proofs.reading.error_of_field.Goals as goal

pub returns-in-Column : goal.returns-in-Column
returns-in-Column c = rw (c.in-Column.is, ← c.rows.ensures) (search rules)
