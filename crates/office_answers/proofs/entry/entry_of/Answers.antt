use Rattle.std.proofs.Common.{◌∙◌, ap, sym, subst, Option}
use Rattle.aid_filings.specs.declared.filing.What.{What}
use Rattle.aid_filings.specs.declared.filing.What.TheVariants.{Withdraw}
use Rattle.office_history.proofs.Lawful.{can_be_worked_out}
use Rattle.office_history.specs.Own.{IsOwnAccount, IsOwnEntry, of_lines, own_place}
use Rattle.office_history.specs.declared.place.Place.{Place}
use Rattle.office_answers.proofs.Entries.{own-entry}
use Rattle.office_answers.proofs.Ranges.{withdrawn-told}
use Rattle.office_answers.proofs.entry.entry_of.Goals as goal

pub sheet_on_file-requires-clause-worked_out : goal.sheet_on_file-requires-clause-worked_out
sheet_on_file-requires-clause-worked_out g c =
    can_be_worked_out (g.P.HistoryView.history c.args.past.now) c.args.filing.now c.in-Withdraw.facts c.requires.legal.0 c.in-Withdraw.is c.requires.legal.2

pub sheet_on_file-requires-clause-account : goal.sheet_on_file-requires-clause-account
sheet_on_file-requires-clause-account g c =
    subst (λ (o : Option Place). IsOwnAccount (g.P.HistoryView.history c.args.past.now) o c.args.so_far.now) (ap (own_place c.args.filing.now.key) c.in-Withdraw.is) c.requires.account

pub returns-in-Withdraw : goal.returns-in-Withdraw
returns-in-Withdraw g c =
    let past = g.P.HistoryView.history c.args.past.now in
    let key = c.args.filing.now.key in
    let moved = c.returned.ensures ∙ ap of_lines c.sheet_on_file.ensures.value in
    subst (λ (what : What). IsOwnEntry past key what c.returned.result) (sym c.in-Withdraw.is)
    (subst (IsOwnEntry past key (Withdraw c.in-Withdraw.facts)) (sym moved) (own-entry past key c.in-Withdraw.facts))

pub returns-in-Pay : goal.returns-in-Pay
returns-in-Pay g c =
    let past = g.P.HistoryView.history c.args.past.now in
    let key = c.args.filing.now.key in
    let a = c.in-Pay.amount in
    subst (λ (what : What). IsOwnEntry past key what c.paid.result) (sym c.in-Pay.is)
    (c.paid.ensures past key
    (withdrawn-told past key.school a.student a.year a.term c.args.withdrawn_at (c.requires.withdrawn _ (ap (own_place key) c.in-Pay.is))))

pub returns-in-Repay : goal.returns-in-Repay
returns-in-Repay g c =
    let past = g.P.HistoryView.history c.args.past.now in
    subst (λ (what : What). IsOwnEntry past c.args.filing.now.key what c.repaid.result) (sym c.in-Repay.is) (c.repaid.ensures past c.args.filing.now.key)

pub returns-in-Adjust : goal.returns-in-Adjust
returns-in-Adjust g c =
    let past = g.P.HistoryView.history c.args.past.now in
    subst (λ (what : What). IsOwnEntry past c.args.filing.now.key what c.adjusted.result) (sym c.in-Adjust.is) (c.adjusted.ensures past c.args.filing.now.key)

pub returns-in-Sent : goal.returns-in-Sent
returns-in-Sent g c =
    let past = g.P.HistoryView.history c.args.past.now in
    subst (λ (what : What). IsOwnEntry past c.args.filing.now.key what c.sent.result) (sym c.in-Sent.is) (c.sent.ensures past c.args.filing.now.key)
