use Rattle.std.proofs.Common.{◌≡◌, drop}
use Rattle.format_table.specs.Parts.{lines_of}
use Rattle.format_books.specs.Ranges.{limit_in}
use Rattle.format_books.proofs.ranges.limit_in.Given as goal

abbrev pub invariant-loop-field : goal.invariant-loop-field
invariant-loop-field l = limit_in l.name (lines_of l.fields) ≡ limit_in l.name (lines_of (drop l.field-index l.fields))
