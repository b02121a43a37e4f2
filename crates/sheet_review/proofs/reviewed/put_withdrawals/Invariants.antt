use Rattle.std.proofs.Common.{◌≡◌, ◌++◌, map, reverse, take}
use Rattle.std.specs.List.{concat}
use Rattle.sheet_review.specs.ReviewSheet.{withdrawal_part, withdrawal_places}
use Rattle.sheet_review.proofs.reviewed.put_withdrawals.Given as goal

abbrev pub invariant-loop-filing : goal.invariant-loop-filing
invariant-loop-filing l =
    l.out.items ≡ l.initial.out.items ++ concat (map (withdrawal_part l.office.history) (withdrawal_places l.student l.year (reverse (take l.filing-index l.filings))))
