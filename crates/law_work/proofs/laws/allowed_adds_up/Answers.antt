use Rattle.law_work.proofs.AllowedAddsUp.{allowed_adds_up}
use Rattle.law_work.proofs.laws.allowed_adds_up.Goals as goal

pub returns : goal.returns
returns c = allowed_adds_up
