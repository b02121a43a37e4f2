use Rattle.std.proofs.Common.{reverse}
use Rattle.office_history.proofs.Ranges.{net_is_small}
use Rattle.office_history.proofs.sums.net_is_small.Goals as goal

pub returns : goal.returns
returns c = net_is_small (reverse c.args.history.now) c.requires
