use Rattle.std.proofs.Common.{◌≡◌, ◌+◌, ◌++◌, length}
use Rattle.format_table.specs.Taking.{byte_source, placed}
use Rattle.format_table.specs.Parts.{slots_of}
use Rattle.format_table.specs.Walk.{numbers_of_slots}
use Rattle.format_table.proofs.WalkLaws.{numbers_with}
use Rattle.format_table.proofs.reading.numbers_at.Given as goal

abbrev pub invariant-loop-field : goal.invariant-loop-field
invariant-loop-field g l = record {
  at : l.place + length l.rest ≡ 1 + length l.bytes;
  so_far : numbers_with byte_source l.draft (placed l.place l.rest) ≡ numbers_of_slots byte_source (slots_of l.fn.key ++ slots_of l.fn.parts) (placed 1 l.bytes);
}

abbrev pub decreases-loop-field : goal.decreases-loop-field
decreases-loop-field g l = length l.rest
