use Rattle.office_answers.proofs.Ranges.{nets-cents}
use Rattle.office_plain.proofs.plain.PlainHistory.sheet.Goals as goal

pub sheet-requires-clause-nets : goal.sheet-requires-clause-nets
sheet-requires-clause-nets c =
    let w = c.args.facts.now in
    nets-cents c.args.self.now c.args.key.now.school w.student w.year w.term c.args.so_far.now c.front-filings.ensures.legal c.requires.account
