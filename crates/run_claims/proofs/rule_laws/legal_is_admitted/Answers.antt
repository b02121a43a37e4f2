use Rattle.run_claims.proofs.Admitted.{legal_admitted}
use Rattle.run_claims.proofs.rule_laws.legal_is_admitted.Goals as goal

pub returns : goal.returns
returns c = legal_admitted
