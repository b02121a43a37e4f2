use Rattle.std.proofs.Common.{◌≡◌, reverse, take}
use Rattle.std.specs.List.{flat_map}
use Rattle.sheet_returns.specs.Returns.{return_rows_at}
use Rattle.sheet_returns.proofs.years.return_rows.Given as goal

abbrev pub invariant-loop-at : goal.invariant-loop-at
invariant-loop-at l = l.rows.items ≡ flat_map (return_rows_at l.year (reverse l.sent.items) l.office.history) (take l.at-index l.at-items)
