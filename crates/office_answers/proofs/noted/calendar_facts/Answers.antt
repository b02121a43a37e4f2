use Rattle.std.proofs.Common.{◌≡◌, arith, length}
use Rattle.office_history.proofs.Ranges.{main_terms, main_terms_are_few}
use Rattle.office_answers.proofs.noted.calendar_facts.Goals as goal

pub overflow_cast-result : goal.overflow_cast-result
overflow_cast-result g c =
    let past = g.P.HistoryView.history c.args.past.now in
    let few = main_terms_are_few past c.front-filings.ensures.legal c.args.key.now.school c.args.calendar.now.year in
    let told : c.calendar.result.1.main_terms ≡ length (main_terms past c.args.key.now.school c.args.calendar.now.year) =
    λ i. (c.calendar.ensures.terms i).main_terms in
    search (arith, few, told)
