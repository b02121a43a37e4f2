use Rattle.std.proofs.Common.{reverse}
use Rattle.office_history.proofs.Legal.{legal_keys_apart}
use Rattle.office_history.proofs.laws.legal_keys.Goals as goal

pub returns : goal.returns
returns c = legal_keys_apart (reverse c.args.history.now) c.requires
