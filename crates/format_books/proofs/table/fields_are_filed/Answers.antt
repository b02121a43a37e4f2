use Rattle.std.proofs.Common.{refl}
use Rattle.format_books.specs.Ranges.{range_named}
use Rattle.format_books.proofs.table.fields_are_filed.Goals as goal

pub returns : goal.returns
unfolding range_named
returns c = (refl, refl)
