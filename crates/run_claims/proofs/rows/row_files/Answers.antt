use Rattle.run_claims.proofs.RowLaws.{row_means}
use Rattle.run_claims.proofs.rows.row_files.Goals as goal

pub returns : goal.returns
returns c number row f = row_means number row f
