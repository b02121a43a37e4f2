use Rattle.std.proofs.Common.{sym, subst, List, ℕ, ◌∙◌}
use Rattle.aid_types.specs.Ranges.{EachIsCents}
use Rattle.office_history.proofs.AccountSteps.{account-nets}
use Rattle.office_answers.proofs.Ranges.{nets-cents, sheet-is}
use Rattle.sheet_r2t4.proofs.worked.worked_out.Goals as goal

pub sheet-requires-clause-nets : goal.sheet-requires-clause-nets
sheet-requires-clause-nets c =
    let w = c.args.withdrawal.now in
    nets-cents c.args.past.now c.args.key.now.school w.student w.year w.term c.on_file.result.1 c.front-front.ensures.legal c.on_file.ensures.account

pub returns-clause-net : goal.returns-clause-net
returns-clause-net c =
    let w = c.args.withdrawal.now in
    c.minus.ensures ∙ account-nets c.args.past.now c.args.key.now.school w.student w.year w.term c.on_file.result.1 c.on_file.ensures.account

pub returns-clause-cents : goal.returns-clause-cents
returns-clause-cents c =
    let w = c.args.withdrawal.now in
    subst (λ (ns : List ℕ). EachIsCents ns) (sym c.minus.ensures)
    (nets-cents c.args.past.now c.args.key.now.school w.student w.year w.term c.on_file.result.1 c.front-front.ensures.legal c.on_file.ensures.account)

pub returns-clause-lines : goal.returns-clause-lines
returns-clause-lines c =
    sheet-is c.args.past.now c.args.key.now c.args.withdrawal.now c.in-Some.term c.on_file.result.1 c.sheet.result c.sheet.ensures
    (sym c.in-Some.is ∙ c.on_file.ensures.term) c.on_file.ensures.account
