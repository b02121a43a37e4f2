use Rattle.run_claims.proofs.RowLaws.{one_filing}
use Rattle.run_claims.proofs.rows.row_files_once.Goals as goal

pub returns : goal.returns
returns c row f g one other = one_filing row f g one other
