use Rattle.std.proofs.Common.{◌≡◌, refl, ap, arith, true, eq-eqb}
use Rattle.aid_types.specs.Programs.{rank}
use Rattle.office_history.specs.Net.{cell_of, in_main_terms}
use Rattle.law_refusals.proofs.AtEveryLimit.{at_limits, award_is, all_within, loan_stands, main_sum, year_sum}
use Rattle.law_refusals.proofs.Beyond.{two_paid}
use Rattle.law_refusals.proofs.limits.main_terms_limit.Goals as goal

pub returns-clause-at : goal.returns-clause-at
returns-clause-at c b a has = (at_limits b a, all_within b a has, (award_is b a has, year_sum b a, loan_stands b a, main_sum b a))

pub returns-clause-beyond : goal.returns-clause-beyond
returns-clause-beyond c past k l p q before pell award main main' sum after =
    let cells = in_main_terms past p.student p.year 3 in
    let here : cells (cell_of k p) ≡ true = rw (eq-eqb p.student p.student refl, eq-eqb p.year p.year refl, ap rank pell.first, main) refl in
    let there : cells (cell_of l q) ≡ true = rw (eq-eqb q.student p.student pell.student, eq-eqb q.year p.year pell.year, ap rank pell.second, main') refl in
    let most = two_paid past k l p q cells (before.nets cells) here there in
    let within = after.main p.student p.year in
    omega (arith, most, within, award, sum)
