-- The numbers of a book's errors.
use Rattle.std.specs.Prelude.{ℕ, Option, Some, None}
use Rattle.format_books.specs.declared.error.BookError.{BookError}
use Rattle.format_books.specs.declared.error.BookError.TheVariants.{NotToml, Missing, WrongKind, OutOfRange, NotRising, Unknown, NoMemory}

-- 1 to 6, and none for want of memory
abbrev pub error_number : BookError → Option ℕ
error_number NotToml = Some 1
error_number (Missing field) = Some 2
error_number (WrongKind field) = Some 3
error_number (OutOfRange field) = Some 4
error_number (NotRising table row) = Some 5
error_number (Unknown name) = Some 6
error_number NoMemory = None
