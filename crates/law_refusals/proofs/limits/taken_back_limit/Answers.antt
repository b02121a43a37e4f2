use Rattle.std.proofs.Common.{◌≡◌, ℕ, ◌+◌, ◌-◌, ◌≤◌, refl, arith, cond, Bool, true, false, eq-eqb}
use Rattle.aid_types.specs.Programs.{rank}
use Rattle.office_history.specs.Net.{cell_of, is_cell, paid, taken}
use Rattle.law_refusals.proofs.AtEveryLimit.{all_within, at_limits, loan_paid, loan_taken}
use Rattle.law_refusals.proofs.limits.taken_back_limit.Goals as goal

pub returns-clause-at : goal.returns-clause-at
returns-clause-at c b a has = (at_limits b a, all_within b a has, (loan_paid b a, loan_taken b a))

too_much : (b : Bool) (cents less before : ℕ) → b ≡ true → before - less ≡ 500 → cents ≡ 501 → cond b cents 0 + less ≤ before → ⊥
too_much true cents less before e net is h = omega (arith, net, is, h)
too_much false cents less before e net is h = cc

pub returns-clause-beyond : goal.returns-clause-beyond
returns-clause-beyond c past k p net cents after =
    let cells = is_cell (cell_of k p) in
    let own : is_cell (cell_of k p) (cell_of k p) ≡ true =
    rw (eq-eqb p.student p.student refl, eq-eqb k.school k.school refl, eq-eqb p.year p.year refl, eq-eqb p.term p.term refl, eq-eqb (rank p.program) (rank p.program) refl) refl in
    too_much (cells (cell_of k p)) p.cents (taken past cells) (paid past cells) own net cents (after.nets cells)
