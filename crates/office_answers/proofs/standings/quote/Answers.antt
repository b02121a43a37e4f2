use Rattle.std.proofs.Common.{ap, ◌∙◌}
use Rattle.law_rules.specs.declared.facts.Facts.{Facts}
use Rattle.law_rules.specs.Lines.{payment_lines}
use Rattle.law_rules.specs.Quote.{greatest_payment}
use Rattle.office_history.proofs.LinesOf.{payment_lines_are}
use Rattle.office_answers.proofs.standings.quote.Goals as goal

pub returns-clause-value : goal.returns-clause-value
returns-clause-value g c =
    let past = g.P.HistoryView.history c.args.past.now in
    let a = c.args in
    c.quote.ensures.value
    ∙ ap (λ (f : Facts). greatest_payment (payment_lines f a.school a.student a.year a.term 3)) c.payment_facts-read.ensures.facts
    ∙ ap greatest_payment (payment_lines_are past a.school a.student a.year a.term 3)
