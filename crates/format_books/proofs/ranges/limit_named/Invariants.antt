use Rattle.std.proofs.Common.{◌≡◌, drop}
use Rattle.format_table.specs.Parts.{slots_of}
use Rattle.format_books.specs.Ranges.{limit_named}
use Rattle.format_books.proofs.ranges.limit_named.Given as goal

abbrev pub invariant-loop-part : goal.invariant-loop-part
invariant-loop-part l = limit_named l.name (slots_of l.parts) ≡ limit_named l.name (slots_of (drop l.part-index l.parts))
