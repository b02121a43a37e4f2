use Rattle.std.proofs.Common.{◌≡◌, ◌++◌, reverse, take}
use Rattle.std.specs.List.{concat}
use Rattle.sheet_review.specs.ReviewSheet.{application_lines}
use Rattle.sheet_review.proofs.reviewed.put_application_lines.Given as goal

abbrev pub invariant-loop-index : goal.invariant-loop-index
invariant-loop-index l = l.out.items ≡ l.initial.out.items ++ concat (application_lines l.student l.year (reverse (take l.index l.filings)) (reverse (take l.index l.stamps)))
