use Rattle.std.proofs.Common.{reverse}
use Rattle.office_amends.proofs.Whole.{stands_whole, whole_legal}
use Rattle.office_amends.proofs.laws.whole_where_legal.Goals as goal

pub returns : goal.returns
returns c = (stands_whole (reverse c.args.list.now), whole_legal (reverse c.args.list.now))
