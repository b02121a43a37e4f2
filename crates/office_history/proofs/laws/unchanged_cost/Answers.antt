use Rattle.std.proofs.Common.{ap, reverse}
use Rattle.office_history.specs.Past.{amount_or}
use Rattle.office_history.proofs.Cost.{unchanged}
use Rattle.office_history.proofs.laws.unchanged_cost.Goals as goal

pub returns : goal.returns
returns c school student year = ap amount_or (unchanged (reverse c.args.history.now) c.requires.legal c.requires.unchanged school student year)
