use Rattle.run_claims.proofs.Office.{one_history}
use Rattle.run_claims.proofs.laws.recovers_once.Goals as goal

pub returns : goal.returns
returns c file one other first second = one_history file one other first second
