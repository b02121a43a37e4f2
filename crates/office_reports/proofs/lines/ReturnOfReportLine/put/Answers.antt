use Rattle.std.proofs.Common.{[], ◌∷◌, decimal}
use Rattle.std.proofs.lemmas.Result.{on_ok_weaker}
use Rattle.aid_types.specs.Cents.{cents_text}
use Rattle.aid_types.specs.Percents.{percent_text}
use Rattle.office_reports.specs.Columns.{right}
use Rattle.office_reports.specs.Lines.{due_text}
use Rattle.office_export.proofs.Written.{written}
use Rattle.office_reports.proofs.lines.ReturnOfReportLine.put.Goals as goal

pub returns : goal.returns
returns c =
    let r = c.args.self.now in
    on_ok_weaker c.put_due.result
    (λ last. written c.args.out.now.items (right 6 (decimal r.school)) (right 12 (decimal r.student) ∷ decimal r.term ∷ right 5 (percent_text r.percent) ∷ right 12 (cents_text r.returned) ∷ right 12 (cents_text r.owed) ∷ right 12 (cents_text r.post) ∷ due_text r.due ∷ []) _
    (_, c.in_ok-put_school.ensures, (_, c.in_ok-put_student.ensures, (_, c.in_ok-put_term.ensures, (_, c.in_ok-put_percent.ensures, (_, c.in_ok-put_amount.ensures, (_, c.in_ok-put_amount-2.ensures, (_, c.in_ok-put_amount-3.ensures, last))))))))
    c.put_due.ensures
