use Rattle.std.proofs.Common.{◌≡◌, sym, subst, ap, ◌∙◌, is_some, Option, Some}
use Rattle.aid_filings.specs.declared.filing.What.{What}
use Rattle.aid_filings.specs.declared.filing.What.TheVariants.{Withdraw}
use Rattle.office_answers.proofs.Entries.{own-entry}
use Rattle.office_history.proofs.Lawful.{can_be_worked_out}
use Rattle.office_history.specs.Own.{IsOwnAccount, IsOwnEntry, of_lines, own_place}
use Rattle.office_history.specs.Past.{the_withdrawal}
use Rattle.office_history.specs.declared.account.Account.{Account}
use Rattle.office_history.specs.declared.place.Place.{Place}
use Rattle.office_plain.proofs.plain.PlainHistory.entry.Goals as goal

pub returns-in-Pay : goal.returns-in-Pay
returns-in-Pay c =
    let past = c.args.self.now in
    let key = c.args.filing.now.key in
    let a = c.in-Pay.amount in
    let own : Some c.args.own.now ≡ Some (record { school = key.school; student = a.student; year = a.year; term = a.term }) = sym c.requires.own ∙ ap (own_place key) c.in-Pay.is in
    let same : c.args.own.now ≡ record { school = key.school; student = a.student; year = a.year; term = a.term } = cc in
    subst (λ (what : What). IsOwnEntry past key what c.paid.result) (sym c.in-Pay.is)
    (c.paid.ensures past key (c.requires.withdrawn ∙ ap (λ (p : Place). is_some (the_withdrawal past p.school p.student p.year p.term)) same))

pub returns-in-Repay : goal.returns-in-Repay
returns-in-Repay c =
    subst (λ (what : What). IsOwnEntry c.args.self.now c.args.filing.now.key what c.repaid.result) (sym c.in-Repay.is) (c.repaid.ensures c.args.self.now c.args.filing.now.key)

pub returns-in-Adjust : goal.returns-in-Adjust
returns-in-Adjust c =
    subst (λ (what : What). IsOwnEntry c.args.self.now c.args.filing.now.key what c.adjusted.result) (sym c.in-Adjust.is) (c.adjusted.ensures c.args.self.now c.args.filing.now.key)

pub sheet-requires-clause-worked_out : goal.sheet-requires-clause-worked_out
sheet-requires-clause-worked_out c = can_be_worked_out c.args.self.now c.args.filing.now c.in-Withdraw.facts c.requires.legal.0 c.in-Withdraw.is c.requires.legal.2

pub sheet-requires-clause-account : goal.sheet-requires-clause-account
sheet-requires-clause-account c =
    subst (λ (o : Option Place). IsOwnAccount c.args.self.now o c.args.so_far.now) (sym c.requires.own ∙ ap (own_place c.args.filing.now.key) c.in-Withdraw.is) c.requires.account

pub returns-in-Withdraw : goal.returns-in-Withdraw
returns-in-Withdraw c =
    let past = c.args.self.now in
    let key = c.args.filing.now.key in
    let w = c.in-Withdraw.facts in
    subst (λ (what : What). IsOwnEntry past key what c.returned.result) (sym c.in-Withdraw.is)
    (subst (λ (a : Account). IsOwnEntry past key (Withdraw w) a) (sym (c.returned.ensures ∙ ap of_lines c.sheet.ensures)) (own-entry past key w))

pub returns-in-Sent : goal.returns-in-Sent
returns-in-Sent c =
    subst (λ (what : What). IsOwnEntry c.args.self.now c.args.filing.now.key what c.sent.result) (sym c.in-Sent.is) (c.sent.ensures c.args.self.now c.args.filing.now.key)
