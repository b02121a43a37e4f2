use Rattle.std.proofs.Common.{◌≡◌, ◌++◌, map, take}
use Rattle.std.specs.List.{concat}
use Rattle.office_reports.proofs.WholeExport.{line_on}
use Rattle.office_reports.proofs.exported.put_standings.Given as goal

abbrev pub invariant-loop-student : goal.invariant-loop-student
invariant-loop-student l = l.out.items ≡ l.initial.out.items ++ concat (map (line_on l.office.history l.year) (take l.student-index l.students))
