use Rattle.std.proofs.Common.{refl, inr, rules}
use Rattle.std.proofs.lemmas.Str.{is_utf8-from_IsUtf8}
use Rattle.toml.specs.Errors.{IsMemory}
use Rattle.format_books.proofs.ReadingLemmas.{no_table}
use Rattle.format_books.proofs.reading.table_in.Goals as goal

pub returns-in-Ok-clause-table : goal.returns-in-Ok-clause-table
returns-in-Ok-clause-table c = let both = c.in-Ok.ensures.ok in rw (is_utf8-from_IsUtf8 _ both.0) both.1

pub returns-else-is_memory-clause-none : goal.returns-else-is_memory-clause-none
returns-else-is_memory-clause-none c =
    let other : IsMemory c.in-Err.error → ⊥ = search rules in
    inr (refl, no_table _ (c.in-Err.ensures.refused other))
