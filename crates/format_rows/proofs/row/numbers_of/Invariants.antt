use Rattle.std.proofs.Common.{◌≡◌, ◌-◌, length, drop, ◌++◌}
use Rattle.csv.specs.Records.{fields_of as texts_of}
use Rattle.format_table.specs.Forms.{most_numbers}
use Rattle.std.specs.Prelude.{map}
use Rattle.format_table.specs.Parts.{slots_of}
use Rattle.format_table.specs.Walk.{numbers_of_slots}
use Rattle.format_table.proofs.WalkLaws.{numbers_with}
use Rattle.format_rows.specs.Numbers.{row_source}
use Rattle.format_rows.proofs.NumbersLemmas.{texts_left}
use Rattle.format_rows.proofs.row.numbers_of.Given as goal

abbrev pub invariant-loop-field : goal.invariant-loop-field
invariant-loop-field l = numbers_with (row_source (map (λ word. word.now) l.words) l.row) l.draft (texts_left (texts_of l.texts) l.draft) ≡ numbers_of_slots (row_source (map (λ word. word.now) l.words) l.row) (slots_of l.fn.key ++ slots_of l.fn.parts) (drop 1 (texts_of l.texts))

abbrev pub decreases-loop-field : goal.decreases-loop-field
decreases-loop-field l = most_numbers - length l.draft.earlier
