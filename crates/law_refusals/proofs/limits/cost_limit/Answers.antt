use Rattle.std.proofs.Common.{◌≡◌, refl, arith, true, eq-eqb}
use Rattle.office_history.specs.Net.{at_school_in_year, cell_of}
use Rattle.law_refusals.proofs.AtEveryLimit.{all_within, at_limits, first_cost, first_school, year_sum}
use Rattle.law_refusals.proofs.Beyond.{two_paid}
use Rattle.law_refusals.proofs.limits.cost_limit.Goals as goal

pub returns-clause-at : goal.returns-clause-at
returns-clause-at c b a has = (at_limits b a, all_within b a has, (first_cost b a, year_sum b a, first_school b a))

pub returns-clause-beyond : goal.returns-clause-beyond
returns-clause-beyond c past k l p q before school student year costs sum after =
    let cells = at_school_in_year k.school p.student p.year in
    let here : cells (cell_of k p) ≡ true = rw (eq-eqb k.school k.school refl, eq-eqb p.student p.student refl, eq-eqb p.year p.year refl) refl in
    let there : cells (cell_of l q) ≡ true = rw (eq-eqb l.school k.school school, eq-eqb q.student p.student student, eq-eqb q.year p.year year) refl in
    let most = two_paid past k l p q cells (before.nets cells) here there in
    let within = after.cost k.school p.student p.year in
    omega (arith, most, within, costs, sum)
