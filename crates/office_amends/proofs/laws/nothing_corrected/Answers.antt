use Rattle.std.proofs.Common.{reverse}
use Rattle.office_amends.proofs.Whole.{as_it_was}
use Rattle.office_amends.proofs.laws.nothing_corrected.Goals as goal

pub returns : goal.returns
returns c stamp = as_it_was stamp (reverse c.args.list.now)
