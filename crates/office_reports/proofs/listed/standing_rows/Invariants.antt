use Rattle.std.proofs.Common.{◌≡◌, map, take}
use Rattle.office_history.specs.Answer.{standing_of}
use Rattle.office_reports.proofs.listed.standing_rows.Given as goal

abbrev pub invariant-loop-student : goal.invariant-loop-student
invariant-loop-student l = l.rows.items ≡ map (λ student. record { student = student; row = standing_of l.office.history student l.year }) (take l.student-index l.student-items)
