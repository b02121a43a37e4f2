use Rattle.std.proofs.Common.{arith}
use Rattle.office_history.proofs.Legal.{legal_is_short}
use Rattle.office_updates.proofs.after_years.with_payment.Goals as goal

pub overflow_add-position : goal.overflow_add-position
overflow_add-position g c =
    let short = legal_is_short (g.P.HistoryView.history c.args.past.now) c.front-position.ensures.legal in
    let value = c.front-position.ensures.value in
    omega arith
