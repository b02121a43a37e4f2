use Rattle.run_claims.proofs.Admitted.{keys_differ}
use Rattle.run_claims.proofs.rule_laws.keys_differ.Goals as goal

pub returns : goal.returns
returns c = keys_differ
