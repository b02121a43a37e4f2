use Rattle.std.proofs.Common.{refl, reverse}
use Rattle.office_history.specs.Past.{application}
use Rattle.office_history.proofs.Applications.{in_force_is, some_in_force}
use Rattle.office_history.proofs.laws.application_in_force.Goals as goal

pub returns-clause-filed : goal.returns-clause-filed
returns-clause-filed c student year = in_force_is student year (reverse c.args.history.now) (application (reverse c.args.history.now) student year) refl

pub returns-clause-some : goal.returns-clause-some
returns-clause-some c student year a h = some_in_force student year (reverse c.args.history.now) a h
