use Rattle.std.proofs.Common.{rules}
use Rattle.format_books.proofs.numbers.put_field.Goals as goal

pub returns-in-Integers : goal.returns-in-Integers
returns-in-Integers c = rw (c.in-Integers.is, ← c.value_at-place.ensures, ← c.items_in.ensures) (search rules)
