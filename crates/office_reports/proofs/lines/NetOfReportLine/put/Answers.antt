use Rattle.std.proofs.Common.{[], ◌∷◌, decimal}
use Rattle.std.proofs.lemmas.Result.{on_ok_weaker}
use Rattle.aid_types.specs.Cents.{cents_text}
use Rattle.office_reports.specs.Columns.{left, right}
use Rattle.aid_types.specs.Words.{program_text}
use Rattle.office_export.proofs.Written.{written}
use Rattle.office_reports.proofs.lines.NetOfReportLine.put.Goals as goal

pub returns : goal.returns
returns c =
    let n = c.args.self.now in
    let program = rw (c.as_bytes.ensures.value, c.program_name.ensures) at c.in_ok-put_left.ensures in
    on_ok_weaker c.put_amount.result
    (λ last. written c.args.out.now.items (right 6 (decimal n.school)) (right 12 (decimal n.student) ∷ decimal n.term ∷ left 5 (program_text n.program) ∷ right 12 (cents_text n.cents) ∷ []) _
    (_, c.in_ok-put_school.ensures, (_, c.in_ok-put_student.ensures, (_, c.in_ok-put_term.ensures, (_, program, last)))))
    c.put_amount.ensures
