use Rattle.std.proofs.Common.{◌≡◌, take}
use Rattle.std.specs.List.{concat}
use Rattle.office_reports.specs.Reports.{lines_from}
use Rattle.office_reports.proofs.reports.stamp_lines.Given as goal

abbrev pub invariant-loop-index : goal.invariant-loop-index
invariant-loop-index l = l.out.items ≡ concat (lines_from 1 (take l.index l.stamps))
