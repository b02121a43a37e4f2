use Rattle.std.proofs.Common.{ap, subst, sym, ◌∙◌}
use Rattle.std.specs.List.{sum_by}
use Rattle.std.proofs.lemmas.List.{take_all}
use Rattle.office_history.specs.Net.{net_at}
use Rattle.office_rounds.specs.Candidates.{fund_cell}
use Rattle.office_rounds.proofs.Grants.{HasPaid, granted_sum}
use Rattle.office_rounds.proofs.fund.granted.Goals as goal

pub returns-clause-value : goal.returns-clause-value
returns-clause-value c =
    let past = c.args.office.now.history in
    let r = c.args.request.now in
    let students = c.in_ok-students.students.items in
    let has = subst (λ past. HasPaid past r students) c.filings.ensures c.in_ok-students.ensures.each in
    c.loop-student.invariant.0
    ∙ ap (sum_by (λ student. net_at past (fund_cell r student))) (take_all c.loop-student.student-index c.as_slice-student-items.result.now c.loop-student-test.false ∙ c.as_slice-student-items.ensures.value)
    ∙ sym (granted_sum past c.front-filings.ensures.legal r students c.in_ok-students.ensures.order has)
