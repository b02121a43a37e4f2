use Rattle.web_workers.proofs.Parts.{part_begins}
use Rattle.web_workers.proofs.laws.part_begins.Goals as goal

pub returns : goal.returns
returns c = part_begins
