use Rattle.run_claims.proofs.KeptFilings.{kept_is_spelling}
use Rattle.run_claims.proofs.bytes.kept_as_spelled.Goals as goal

pub returns : goal.returns
returns c f can = kept_is_spelling f can
