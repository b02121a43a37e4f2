use Rattle.web_workers.proofs.Rejections.{available}
use Rattle.web_workers.proofs.laws.available.Goals as goal

pub returns : goal.returns
returns c = available
