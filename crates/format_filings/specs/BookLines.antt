-- The line of an error of a book's text. Own format.
use Rattle.std.specs.Char.{is_ascii_control}
use Rattle.std.specs.Prelude.{◌≡◌, ◌≢◌, ◌⊎◌, ℕ, List, [], ◌∷◌, ◌++◌, Option, Some, None, codes, decimal, if◌then◌else◌, map}
use Rattle.format_books.specs.Errors.{error_number}
use Rattle.format_books.specs.declared.error.BookError.{BookError}
use Rattle.format_books.specs.declared.error.BookError.TheVariants.{NotToml, Missing, WrongKind, OutOfRange, NotRising, Unknown, NoMemory}

-- a byte of a key as a line shows it: a control, which is a byte below 32 or 127, as ?, so that no key ends a line
abbrev pub shown : ℕ → ℕ
shown byte = if is_ascii_control byte then 63 else byte

-- a key as a line shows it
abbrev pub shown_key : List ℕ → List ℕ
shown_key = map shown

-- what an error names, each behind a space: a field, a table and a row of it, or a key
abbrev pub details : BookError → List ℕ
details NotToml = []
details (Missing field) = codes " " ++ decimal field
details (WrongKind field) = codes " " ++ decimal field
details (OutOfRange field) = codes " " ++ decimal field
details (NotRising table row) = codes " " ++ decimal table ++ codes " " ++ decimal row
details (Unknown key) = codes " " ++ shown_key key
details NoMemory = []

-- 1 book ERROR DETAILS; what has no number has no line
abbrev pub numbered_line : Option ℕ → List ℕ → List ℕ
numbered_line None behind = []
numbered_line (Some number) behind = codes "1 book " ++ decimal number ++ behind ++ codes "\n"

-- the line of an error; want of memory has none
abbrev pub book_error_line : BookError → List ℕ
book_error_line error = numbered_line (error_number error) (details error)

-- a text of one line: its last byte is a line feed, and no other byte is
unfoldable pub IsOneLine : List ℕ → Type 0
IsOneLine [] = ⊥
IsOneLine (byte ∷ bytes) = ((byte ≡ 10) × (bytes ≡ [])) ⊎ ((byte ≢ 10) × IsOneLine bytes)

-- ---- what the code writes last
abbrev pub key_in : BookError → List ℕ
key_in (Unknown key) = key
key_in _ = []
