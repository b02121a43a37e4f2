use Rattle.law_work.proofs.Small.{is_short}
use Rattle.law_work.proofs.laws.allowed_length.Goals as goal

pub returns : goal.returns
returns c = is_short
