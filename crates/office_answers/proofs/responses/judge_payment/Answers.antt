use Rattle.std.proofs.Common.{◌∙◌, sym}
use Rattle.aid_filings.specs.declared.filing.What.TheVariants.{Pay}
use Rattle.office_answers.proofs.Brought.{pay_is_within}
use Rattle.office_answers.proofs.Decided.{read_in_range, unbroken}
use Rattle.office_answers.proofs.responses.judge_payment.Goals as goal

pub broken-requires : goal.broken-requires
broken-requires g c =
    read_in_range (g.P.HistoryView.history c.args.past.now) c.args.filing.now.key (Pay c.args.payment.now) c.payment_facts-read.result.facts c.requires.legal c.payment_facts-read.ensures.facts

pub paid-requires-clause-within : goal.paid-requires-clause-within
paid-requires-clause-within g c =
    let past = g.P.HistoryView.history c.args.past.now in
    let payment = c.args.payment.now in
    pay_is_within past c.args.filing.now payment c.requires.what
    (unbroken past c.args.filing.now (Pay payment) c.payment_facts-read.result.facts c.requires.what c.payment_facts-read.ensures.facts (sym c.broken.ensures ∙ c.in-None.is))
