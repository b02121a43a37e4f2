use Rattle.format_kinds.specs.Kinds.{table_row_of}
use Rattle.format_books.proofs.ranges.book_parts.Goals as goal

pub returns : goal.returns
unfolding table_row_of
returns c = c.table_row.ensures.parts
