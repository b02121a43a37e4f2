use Rattle.std.proofs.Common.{arith}
use Rattle.std.proofs.lemmas.Grind.{common_steps}
use Rattle.office_history.proofs.Ranges.{used_else_within}
use Rattle.office_answers.proofs.Brought.{used_apart}
use Rattle.office_answers.proofs.gathered.used_else.Goals as goal

pub overflow_sub-result : goal.overflow_sub-result
overflow_sub-result g c =
    let apart = used_apart (g.P.HistoryView.history c.args.past.now) c.args.student c.args.year c.number-year.ensures.in_range in
    grind (arith, common_steps, apart)

pub returns-clause-at_most : goal.returns-clause-at_most
returns-clause-at_most g c =
    let past = g.P.HistoryView.history c.args.past.now in
    let apart = used_apart past c.args.student c.args.year c.number-year.ensures.in_range in
    let within = used_else_within past c.front-filings.ensures.legal c.args.student c.args.year in
    grind (arith, common_steps, apart, within)
