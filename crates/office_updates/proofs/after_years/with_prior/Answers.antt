use Rattle.std.proofs.Common.{arith, ap}
use Rattle.office_history.specs.declared.rows.StudentRow.{StudentRow}
use Rattle.office_history.proofs.Legal.{legal_is_short}
use Rattle.office_updates.proofs.StudentUse.{used_most}
use Rattle.office_updates.proofs.after_years.with_prior.Goals as goal

pub overflow_add-position : goal.overflow_add-position
overflow_add-position g c =
    let short = legal_is_short (g.P.HistoryView.history c.args.past.now) c.front-position.ensures.legal in
    let value = c.front-position.ensures.value in
    omega arith

pub overflow_add-result : goal.overflow_add-result
overflow_add-result g c =
    let most = used_most (g.P.HistoryView.history c.args.past.now) c.args.prior.now.student c.front-position.ensures.legal in
    let same = ap (λ (r : StudentRow). r.used) c.requires.before in
    let units = c.requires.units in
    omega arith
