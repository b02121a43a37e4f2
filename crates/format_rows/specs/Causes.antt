-- The numbers of the causes in a line. Own format.
use Rattle.std.specs.Prelude.{ℕ}
use Rattle.format_rows.specs.declared.error.Cause.{Cause}
use Rattle.format_rows.specs.declared.error.Cause.TheVariants.{UnknownKind, WrongCount, Spelling, Range}

abbrev pub number_of : Cause → ℕ
number_of UnknownKind = 1
number_of WrongCount = 2
number_of Spelling = 3
number_of Range = 4
