use Rattle.law_work.proofs.Small.{facts_small}
use Rattle.law_work.proofs.laws.allowed_small.Goals as goal

pub returns : goal.returns
returns c = facts_small
