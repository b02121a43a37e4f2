use Rattle.std.proofs.Common.{◌≡◌, ◌++◌, take}
use Rattle.std.specs.List.{flat_map}
use Rattle.sheet_review.specs.BookText.{bracket_text}
use Rattle.sheet_review.proofs.book_text.put_brackets.Given as goal

abbrev pub invariant-loop-row : goal.invariant-loop-row
invariant-loop-row l = l.out.items ≡ l.initial.out.items ++ flat_map (bracket_text l.name) (take l.row-index l.rows)
