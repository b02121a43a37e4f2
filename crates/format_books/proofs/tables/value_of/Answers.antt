use Rattle.std.proofs.Common.{arith, to_z-of_z}
use Rattle.format_books.proofs.tables.value_of.Goals as goal

pub returns : goal.returns
returns c = grind (arith, to_z-of_z)
