use Rattle.std.proofs.Common.{arith}
use Rattle.office_history.proofs.Bounds.{short}
use Rattle.office_index.proofs.indexed.IndexedHistoryView.front.Goals as goal

pub overflow_cast-result : goal.overflow_cast-result
overflow_cast-result c = search (arith, short c.self.inside.filings.items c.self.invariant.0.legal)
