use Rattle.std.proofs.Common.{◌≡◌, refl, ap, arith, true, eq-eqb, IsTrue}
use Rattle.aid_types.specs.Programs.{rank}
use Rattle.aid_filings.specs.Calendars.{term_of}
use Rattle.law_terms.specs.Terms.{shares_day}
use Rattle.office_history.specs.Net.{cell_at, cell_of, is_cell}
use Rattle.law_refusals.proofs.AtEveryLimit.{all_within, at_limits, first_filed, first_pell, first_term, second_filed, second_pell, second_term}
use Rattle.law_refusals.proofs.Beyond.{first_paid, second_paid}
use Rattle.law_refusals.proofs.limits.two_schools_limit.Goals as goal

pub returns-clause-at : goal.returns-clause-at
returns-clause-at c b a has = (
  at_limits b a,
  all_within b a has,
  (term_of (first_term b a), term_of (second_term b a), first_filed b a, second_filed b a, omega arith, refl, first_pell b a, second_pell b a),
)

pub returns-clause-beyond : goal.returns-clause-beyond
returns-clause-beyond c past k l p q t u before pell differ is is' first last first' last' some some' after =
    let shared : IsTrue (shares_day t u) = rw (first, last, first', last') refl in
    let cells = is_cell (cell_at k.school p.student p.year p.term 3) in
    let others = is_cell (cell_at l.school p.student q.year q.term 3) in
    let here : cells (cell_of k p) ≡ true =
    rw (eq-eqb p.student p.student refl, eq-eqb k.school k.school refl, eq-eqb p.year p.year refl, eq-eqb p.term p.term refl, ap rank pell.first) refl in
    let there : others (cell_of l q) ≡ true =
    rw (eq-eqb q.student p.student pell.student, eq-eqb l.school l.school refl, eq-eqb q.year q.year refl, eq-eqb q.term q.term refl, ap rank pell.second) refl in
    let one = first_paid past k l p q cells (before.nets cells) here in
    let other = second_paid past k l p q others (before.nets others) there in
    let none = after.apart p.student k.school p.year p.term l.school q.year q.term t u is is' differ shared (omega (arith, one, some)) in
    omega (arith, none, other, some')
