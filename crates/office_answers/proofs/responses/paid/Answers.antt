use Rattle.std.proofs.Common.{◌≡◌, ◌∙◌, arith, slice_index}
use Rattle.aid_types.specs.Programs.{rank}
use Rattle.office_history.specs.Net.{in_year, net}
use Rattle.office_history.proofs.FactsInRange.{net_in_range}
use Rattle.office_history.proofs.Sixes.{six-rank}
use Rattle.office_answers.proofs.responses.paid.Goals as goal

pub overflow_add-paid : goal.overflow_add-paid
overflow_add-paid g c =
    let past = g.P.HistoryView.history c.args.past.now in
    let a = c.args.amount.now in
    let small = net_in_range past c.front-filings.ensures.legal (in_year a.student a.year (rank a.program)) in
    let here : c.at.result ≡ net past (in_year a.student a.year (rank a.program)) =
    c.at.ensures
    ∙ (λ i. slice_index (c.requires.year i).nets (rank a.program))
    ∙ six-rank (λ p. net past (in_year a.student a.year p)) a.program in
    omega (arith, small, here, a.in_range.1)
