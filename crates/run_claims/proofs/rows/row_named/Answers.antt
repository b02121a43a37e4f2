use Rattle.run_claims.proofs.RowLaws.{error_named}
use Rattle.run_claims.proofs.rows.row_named.Goals as goal

pub returns : goal.returns
returns c number row e h = error_named number row e h
