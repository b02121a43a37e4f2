-- The bytes of a journal's header.
use Rattle.std.specs.Prelude.{ℕ, List, [], ◌∷◌, ◌++◌}
use Rattle.std.specs.Int.{to_le_bytes, w32}
use Rattle.log_journal.specs.declared.header.Header.{Header}

-- the first byte of a founded journal, its name, its version in four bytes, the least first, and three zeros
abbrev pub header_bytes : Header → List ℕ
header_bytes header = 1 ∷ (header.name ++ to_le_bytes w32 header.version ++ 0 ∷ 0 ∷ 0 ∷ [])

-- the same header with another version
abbrev pub with_version : Header → ℕ → Header
with_version header version = record header { version = version }
