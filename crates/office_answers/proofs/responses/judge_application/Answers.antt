use Rattle.aid_filings.specs.declared.filing.What.TheVariants.{Apply}
use Rattle.office_answers.proofs.Decided.{read_in_range}
use Rattle.office_answers.proofs.responses.judge_application.Goals as goal

pub broken-requires : goal.broken-requires
broken-requires g c =
    read_in_range (g.P.HistoryView.history c.args.past.now) c.args.filing.now.key (Apply c.args.application.now) c.application_facts-read.result.facts c.requires.legal c.application_facts-read.ensures.facts
