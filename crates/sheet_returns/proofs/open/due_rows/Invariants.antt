use Rattle.std.proofs.Common.{◌≡◌, take}
use Rattle.std.specs.List.{flat_map}
use Rattle.sheet_returns.specs.Due.{open_rows_at}
use Rattle.sheet_returns.proofs.open.due_rows.Given as goal

abbrev pub invariant-loop-at : goal.invariant-loop-at
invariant-loop-at l = l.rows.items ≡ flat_map (open_rows_at l.day l.office.history) (take l.at-index l.at-items)
