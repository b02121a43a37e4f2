use Rattle.std.proofs.Common.{reverse}
use Rattle.office_history.proofs.CellSums.{coarse_net, paid_cells}
use Rattle.office_history.proofs.sums.net_is_sum.Goals as goal

pub returns-clause-sum : goal.returns-clause-sum
returns-clause-sum c = coarse_net (reverse c.args.history.now) c.requires

pub returns-clause-some : goal.returns-clause-some
returns-clause-some c = paid_cells (reverse c.args.history.now)
