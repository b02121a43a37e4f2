use Rattle.std.proofs.Common.{refl}
use Rattle.run_plan.specs.Plans.{works}
use Rattle.run_plan.proofs.plan.journal_plan.Goals as goal

pub returns : goal.returns
returns c = works _ refl refl c.requires
