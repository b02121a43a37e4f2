use Rattle.run_claims.proofs.Office.{answered_under}
use Rattle.run_claims.proofs.laws.row_is_answered.Goals as goal

pub returns : goal.returns
returns c stamp past number row said legal is = answered_under stamp past number row said legal is
