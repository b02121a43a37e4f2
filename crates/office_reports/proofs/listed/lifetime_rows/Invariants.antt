use Rattle.std.proofs.Common.{◌≡◌, map, take}
use Rattle.office_history.specs.Net.{used}
use Rattle.office_history.specs.Past.{prior_units}
use Rattle.office_reports.proofs.listed.lifetime_rows.Given as goal

abbrev pub invariant-loop-student : goal.invariant-loop-student
invariant-loop-student l = l.rows.items ≡ map (λ student. record { student = student; prior = prior_units l.office.history student; used = used l.office.history student }) (take l.student-index l.student-items)
