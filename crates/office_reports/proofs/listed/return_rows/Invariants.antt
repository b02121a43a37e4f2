use Rattle.std.proofs.Common.{◌≡◌, reverse, take}
use Rattle.office_reports.specs.Rows.{return_rows}
use Rattle.office_reports.proofs.listed.return_rows.Given as goal

abbrev pub invariant-loop-index : goal.invariant-loop-index
invariant-loop-index l = l.rows.items ≡ return_rows (reverse (take l.index l.filings)) l.year
