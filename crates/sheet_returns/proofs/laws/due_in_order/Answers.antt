use Rattle.std.proofs.Common.{reverse}
use Rattle.office_export.proofs.Exactly.{rising}
use Rattle.office_export.proofs.InOrder.{rises}
use Rattle.sheet_returns.specs.Before.{IsDueBefore}
use Rattle.sheet_returns.specs.Withdrawals.{by_due, due_order, withdrawals}
use Rattle.sheet_returns.proofs.DueOrder.{due_before, due_order_total, same_ones}
use Rattle.sheet_returns.proofs.laws.due_in_order.Goals as goal

pub returns-clause-rise : goal.returns-clause-rise
returns-clause-rise c school =
    let now = reverse c.args.history.now in
    rising due_order IsDueBefore due_before (by_due school now) (rises due_order_total (withdrawals school now))

pub returns-clause-told : goal.returns-clause-told
returns-clause-told c school at = same_ones at (withdrawals school (reverse c.args.history.now))
