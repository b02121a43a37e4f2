use Rattle.std.proofs.Common.{rules}
use Rattle.format_books.proofs.ReadingLemmas.{column_error}
use Rattle.format_books.proofs.reading.error_of_column.Goals as goal

pub returns : goal.returns
returns c = rw (column_error c.args.field.now.number c.args.low c.args.high c.args.field.now.key.now c.args.rows.now) (search rules)
