use Rattle.std.proofs.Common.{ap}
use Rattle.aid_filings.specs.declared.filing.EnrollFacts.{EnrollFacts}
use Rattle.office_index.proofs.EnrolledFirst.{first_written, later_kept}
use Rattle.office_index.proofs.filed.write_student.Goals as goal

-- a first enrollment, and a later one
pub returns-then-place-eq0-clause-rows : goal.returns-then-place-eq0-clause-rows
returns-then-place-eq0-clause-rows c = λ past legal here before after.
    first_written past c.args.filing.now c.args.place.now c.in-Enroll-default.enrollment c.in-Enroll-default.is-0 before legal _ c.args.position c.args.students.now.rows
    c.write_newest_enrollment.new.students.rows c.if-place-eq0.true (ap (λ (x : EnrollFacts). x.student) c.enrollment.view_is) here c.write_newest_enrollment.ensures.values

pub returns-else-place-eq0-clause-rows : goal.returns-else-place-eq0-clause-rows
returns-else-place-eq0-clause-rows c = λ past legal here before after.
    later_kept past c.args.filing.now c.args.place.now c.in-Enroll-default.enrollment c.in-Enroll-default.is-0 before legal c.args.students.now.rows c.if-place-eq0.false
