use Rattle.std.proofs.Common.{arith}
use Rattle.office_updates.proofs.SchoolsAfter.{next_fits}
use Rattle.office_updates.proofs.after_schools.next_position.Goals as goal

pub overflow_add-result : goal.overflow_add-result
overflow_add-result g c = omega (arith, next_fits (g.P.HistoryView.history c.args.past.now) c.front.ensures.legal, c.front.ensures.value)
