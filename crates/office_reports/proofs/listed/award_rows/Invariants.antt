use Rattle.std.proofs.Common.{◌≡◌, take}
use Rattle.std.specs.List.{flat_map}
use Rattle.office_reports.specs.Rows.{nets_at}
use Rattle.office_reports.proofs.listed.award_rows.Given as goal

abbrev pub invariant-loop-place : goal.invariant-loop-place
invariant-loop-place l = l.rows.items ≡ flat_map (nets_at l.office.history l.year) (take l.place-index l.place-items)
