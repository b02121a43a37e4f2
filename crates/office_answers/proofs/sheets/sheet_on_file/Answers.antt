use Rattle.std.proofs.Common.{sym, subst, ◌∙◌}
use Rattle.aid_types.specs.Ranges.{EachIsCents}
use Rattle.law_r2t4.specs.declared.Lines.{Lines}
use Rattle.office_answers.proofs.Owed.{owed_is_small}
use Rattle.office_answers.proofs.Ranges.{nets-cents, sheet-is}
use Rattle.office_answers.proofs.sheets.sheet_on_file.Goals as goal

pub sheet-requires-clause-nets : goal.sheet-requires-clause-nets
sheet-requires-clause-nets g c =
    let w = c.args.withdrawal.now in
    nets-cents (g.P.HistoryView.history c.args.past.now) c.args.key.now.school w.student w.year w.term c.args.so_far.now c.front-filings.ensures.legal c.requires.account

pub returns-clause-value : goal.returns-clause-value
returns-clause-value g c =
    sheet-is (g.P.HistoryView.history c.args.past.now) c.args.key.now c.args.withdrawal.now c.in-Some.term c.args.so_far.now c.sheet.result c.sheet.ensures
    (sym c.in-Some.is ∙ c.requires.term) c.requires.account

pub returns-clause-owed : goal.returns-clause-owed
returns-clause-owed g c =
    subst (λ (s : Lines). EachIsCents s.owed) (sym (returns-clause-value g c))
    (owed_is_small (g.P.HistoryView.history c.args.past.now) c.front-filings.ensures.legal c.args.key.now c.args.withdrawal.now)
