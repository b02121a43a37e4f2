use Rattle.std.proofs.Common.{◌++◌, ap, ◌∙◌}
use Rattle.aid_filings.specs.declared.reply.StandingRow.{StandingRow}
use Rattle.office_export.specs.Lines.{standing_line}
use Rattle.office_reports.proofs.WholeExport.{line_on, lines-behind}
use Rattle.office_reports.proofs.exported.put_standings.Goals as goal

pub loop-student-preserved : goal.loop-student-preserved
loop-student-preserved c =
    let told = c.in_ok-put_standing_line.ensures
    ∙ ap (λ (row : StandingRow). c.loop-student.out.items ++ standing_line c.student-item.result c.args.year row) c.standing.ensures.value in
    lines-behind (line_on c.args.office.now.history c.args.year) c.args.students.now c.loop-student.student-index c.student-item.result c.loop-student-test.true c.student-item.is
    c.args.out.now.items _ _ c.loop-student.invariant told
