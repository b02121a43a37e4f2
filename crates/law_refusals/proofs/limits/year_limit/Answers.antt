use Rattle.std.proofs.Common.{◌≡◌, refl, ap, arith, true, eq-eqb}
use Rattle.aid_types.specs.Programs.{rank}
use Rattle.office_history.specs.Net.{cell_of, in_year}
use Rattle.law_refusals.proofs.AtEveryLimit.{at_limits, award_is, all_within, loan_stands, year_sum}
use Rattle.law_refusals.proofs.Beyond.{two_paid}
use Rattle.law_refusals.proofs.limits.year_limit.Goals as goal

pub returns-clause-at : goal.returns-clause-at
returns-clause-at c b a has = (at_limits b a, all_within b a has, (award_is b a has, loan_stands b a, year_sum b a))

pub returns-clause-beyond : goal.returns-clause-beyond
returns-clause-beyond c past k l p q before pell award sum after =
    let cells = in_year p.student p.year 3 in
    let here : cells (cell_of k p) ≡ true = rw (eq-eqb p.student p.student refl, eq-eqb p.year p.year refl, ap rank pell.first) refl in
    let there : cells (cell_of l q) ≡ true = rw (eq-eqb q.student p.student pell.student, eq-eqb q.year p.year pell.year, ap rank pell.second) refl in
    let most = two_paid past k l p q cells (before.nets cells) here there in
    let within = after.year p.student p.year in
    omega (arith, most, within, award, sum)
