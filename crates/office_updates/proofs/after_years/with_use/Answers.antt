use Rattle.std.proofs.Common.{arith, ap}
use Rattle.office_history.specs.declared.rows.StudentRow.{StudentRow}
use Rattle.office_updates.proofs.StudentUse.{use_within, used_most, year_within}
use Rattle.office_updates.proofs.after_years.with_use.Goals as goal

pub use_in-requires : goal.use_in-requires
use_in-requires g c =
    year_within (g.P.HistoryView.history c.args.past.now) c.args.student c.args.year c.args.of_year.now c.requires.of_year c.front-front.ensures.legal

pub overflow_sub-result : goal.overflow_sub-result
overflow_sub-result g c =
    let used = ap (λ (r : StudentRow). r.used) c.requires.before in
    let within =
    use_within (g.P.HistoryView.history c.args.past.now) c.args.student c.args.year c.args.of_year.now c.use_in.result c.number-number.ensures.in_range
    c.requires.of_year c.use_in.ensures.value in
    omega arith

pub overflow_add-result : goal.overflow_add-result
overflow_add-result g c =
    let used = ap (λ (r : StudentRow). r.used) c.requires.before in
    let most = used_most (g.P.HistoryView.history c.args.past.now) c.args.student c.front-front.ensures.legal in
    let new = c.use_in-2.ensures.at_most in
    omega arith
