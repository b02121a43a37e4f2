use Rattle.run_claims.proofs.Admitted.{admitted_legal}
use Rattle.run_claims.proofs.rule_laws.admitted_is_legal.Goals as goal

pub returns : goal.returns
returns c = admitted_legal
