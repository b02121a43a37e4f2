use Rattle.run_claims.proofs.RowLaws.{meaning_in_range}
use Rattle.run_claims.proofs.rows.meant_in_range.Goals as goal

pub returns : goal.returns
returns c number row f h = meaning_in_range number row f h
