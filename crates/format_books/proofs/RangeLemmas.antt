-- The range of a name.
use Rattle.std.proofs.Common.{◌≡◌, ℕ, pos, List, Option, ap}
use Rattle.std.specs.Prelude.{unwrap_or}
use Rattle.format_kinds.specs.Kinds.{book_slots}
use Rattle.format_table.specs.declared.field.Limit.{Limit}
use Rattle.format_table.specs.declared.field.Limit.TheVariants.{Between}
use Rattle.format_books.specs.Ranges.{limit_named, range_named, range_of}

pub range_by : (name : List ℕ) (found : Option Limit) → limit_named name book_slots ≡ found → range_named name ≡ range_of (unwrap_or found (Between (pos 0) (pos 0)))
unfolding range_named
range_by name found h = ap (λ limit. range_of (unwrap_or limit (Between (pos 0) (pos 0)))) h
