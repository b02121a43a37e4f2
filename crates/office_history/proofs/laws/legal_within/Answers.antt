use Rattle.std.proofs.Common.{reverse}
use Rattle.office_history.proofs.LegalWithin.{legal_within}
use Rattle.office_history.proofs.laws.legal_within.Goals as goal

pub returns : goal.returns
returns c = legal_within (reverse c.args.history.now) c.requires
