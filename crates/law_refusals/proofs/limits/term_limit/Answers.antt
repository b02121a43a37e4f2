use Rattle.std.proofs.Common.{◌≡◌, ℕ, List, refl, ap, arith, true, eq-eqb}
use Rattle.aid_types.specs.Programs.{rank}
use Rattle.aid_filings.specs.declared.filing.Filing.{Filing}
use Rattle.aid_types.specs.Nearest.{half_up}
use Rattle.law_terms.specs.Terms.{intensity_of, payment_of}
use Rattle.office_history.specs.Award.{scheduled}
use Rattle.office_history.specs.Net.{cell_at, cell_of, is_cell}
use Rattle.office_history.specs.Past.{credits, the_school}
use Rattle.office_history.specs.Positions.{full_of, payment_at, terms_of}
use Rattle.law_refusals.proofs.AtEveryLimit.{all_within, at_limits, award_is, first_credits, first_pell, loan_stands, year_sum}
use Rattle.law_refusals.proofs.Beyond.{two_paid}
use Rattle.law_refusals.proofs.limits.term_limit.Goals as goal

-- half of the award, to the nearest dollar
most_is : (past : List Filing) (school student year number : ℕ) → scheduled past student year ≡ 7395 → terms_of (the_school past school) ≡ 2
    → full_of (the_school past school) ≡ 12 → credits past school student year number ≡ 12 → payment_at past (scheduled past student year) school student year number ≡ 369800
unfolding payment_of intensity_of half_up
most_is past school student year number award terms full here = rw (award, terms, full, here) refl

pub returns-clause-at : goal.returns-clause-at
returns-clause-at c b a has = (at_limits b a, all_within b a has, (award_is b a has, refl, refl, first_credits b a, year_sum b a, loan_stands b a, first_pell b a))

pub returns-clause-beyond : goal.returns-clause-beyond
returns-clause-beyond c past k l p q before pell school term award terms full here sum after =
    let cells = is_cell (cell_at k.school p.student p.year p.term 3) in
    let first : cells (cell_of k p) ≡ true =
    rw (eq-eqb p.student p.student refl, eq-eqb k.school k.school refl, eq-eqb p.year p.year refl, eq-eqb p.term p.term refl, ap rank pell.first) refl in
    let second : cells (cell_of l q) ≡ true =
    rw (eq-eqb q.student p.student pell.student, eq-eqb l.school k.school school, eq-eqb q.year p.year pell.year, eq-eqb q.term p.term term, ap rank pell.second) refl in
    let least = two_paid past k l p q cells (before.nets cells) first second in
    let within = after.term k.school p.student p.year p.term in
    let most = most_is past k.school p.student p.year p.term award terms full here in
    omega (arith, least, within, most, sum)
