use Rattle.std.proofs.Common.{ap, arith}
use Rattle.office_history.proofs.Ranges.{cost_is_small}
use Rattle.office_rounds.proofs.candidates.need.Goals as goal

pub returns-clause-at_most : goal.returns-clause-at_most
returns-clause-at_most c =
    let cost = ap (λ row. row.cost) c.school_year-row.ensures in
    let few = cost_is_small c.args.office.now.history c.args.request.now.school c.args.student c.args.request.now.year in
    omega (arith, cost, few, c.from.ensures, c.saturating_sub.ensures)
