use Rattle.run_claims.proofs.Admitted.{may_follow_is}
use Rattle.run_claims.proofs.rule_laws.may_follow_is_rules.Goals as goal

pub returns : goal.returns
returns c = may_follow_is
