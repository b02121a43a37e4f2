use Rattle.run_claims.proofs.Texts.{one_spelling}
use Rattle.run_claims.proofs.rows.spelled_once.Goals as goal

pub returns : goal.returns
returns c n one other fits first second = one_spelling n one other fits first second
