use Rattle.std.proofs.Common.{◌∙◌, sym}
use Rattle.aid_filings.specs.declared.filing.What.TheVariants.{Withdraw}
use Rattle.office_history.proofs.Lawful.{can_be_worked_out}
use Rattle.office_answers.proofs.Decided.{read_in_range, unbroken}
use Rattle.office_answers.proofs.Ranges.{row-account}
use Rattle.office_answers.proofs.responses.judge_withdrawal.Goals as goal

pub broken-requires : goal.broken-requires
broken-requires g c =
    read_in_range (g.P.HistoryView.history c.args.past.now) c.args.filing.now.key (Withdraw c.args.withdrawal.now) c.withdrawal_facts-read.result.facts c.requires.legal c.withdrawal_facts-read.ensures.facts

pub sheet_on_file-requires-clause-worked_out : goal.sheet_on_file-requires-clause-worked_out
sheet_on_file-requires-clause-worked_out g c =
    let past = g.P.HistoryView.history c.args.past.now in
    let withdrawal = c.args.withdrawal.now in
    can_be_worked_out past c.args.filing.now withdrawal c.requires.legal c.requires.what
    (unbroken past c.args.filing.now (Withdraw withdrawal) c.withdrawal_facts-read.result.facts c.requires.what c.withdrawal_facts-read.ensures.facts (sym c.broken.ensures ∙ c.in-None.is))

pub sheet_on_file-requires-clause-account : goal.sheet_on_file-requires-clause-account
sheet_on_file-requires-clause-account g c =
    let w = c.args.withdrawal.now in
    row-account (g.P.HistoryView.history c.args.past.now) c.args.filing.now.key.school w.student w.year w.term c.withdrawal_facts-read.result.place c.withdrawal_facts-read.ensures.place
