use Rattle.std.proofs.Common.{reverse}
use Rattle.office_history.specs.Past.{application}
use Rattle.office_history.proofs.Applications.{cost_has_one, cost_is_filed, cost_stands, is_in_force}
use Rattle.office_history.proofs.laws.cost_has_application.Goals as goal

pub returns-clause-originated : goal.returns-clause-originated
returns-clause-originated c school student year h =
    let past = reverse c.args.history.now in
    is_in_force (application past student year) (cost_has_one past c.requires school student year h)

pub returns-clause-cost : goal.returns-clause-cost
returns-clause-cost c school student year h =
    let past = reverse c.args.history.now in
    is_in_force (application past student year) (cost_has_one past c.requires school student year (cost_is_filed past c.requires school student year h))

pub returns-clause-standing : goal.returns-clause-standing
returns-clause-standing c school student year h = cost_stands (reverse c.args.history.now) c.requires school student year h
