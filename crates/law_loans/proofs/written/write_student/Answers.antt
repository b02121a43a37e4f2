use Rattle.std.proofs.Common.{ap, ◌∙◌}
use Rattle.law_loans.specs.Changes.{student_after}
use Rattle.law_loans.specs.Rows.{student_or}
use Rattle.law_loans.proofs.Tables.{student_written}
use Rattle.law_loans.proofs.written.write_student.Goals as goal

pub returns-clause-rows : goal.returns-clause-rows
returns-clause-rows c = λ past here covered told.
    student_written past c.args.filing.now c.student_named-student.result c.student_after.result c.args.position c.args.students.now.rows c.set.new.self.rows
    c.student_named-student.ensures c.set.ensures.values
    (c.student_after.ensures ∙ ap (student_after c.args.position c.args.filing.now.what) (c.student_told-row.ensures ∙ ap student_or c.at.ensures))
    here covered told
