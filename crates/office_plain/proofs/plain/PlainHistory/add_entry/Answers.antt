use Rattle.std.proofs.Common.{◌≡◌, ◌∷◌, is_some, sym, subst, ◌∙◌}
use Rattle.office_history.specs.Accounts.{IsAccount}
use Rattle.office_history.specs.Past.{the_withdrawal}
use Rattle.office_history.specs.declared.account.Account.{Account}
use Rattle.office_history.specs.declared.place.Place.{Place}
use Rattle.office_history.proofs.AccountSteps.{account-joined, account-kept, account-sums, entry-sums}
use Rattle.office_history.proofs.Own.{entry-elsewhere, entry-there, moves-in, same-place}
use Rattle.office_plain.proofs.plain.PlainHistory.add_entry.Goals as goal

pub entry-requires-clause-withdrawn : goal.entry-requires-clause-withdrawn
entry-requires-clause-withdrawn c =
    let past = c.args.self.now in
    subst (λ (p : Place). c.args.withdrawn ≡ is_some (the_withdrawal past p.school p.student p.year p.term))
    (sym (same-place c.in-Some.own c.args.place.now (sym c.is.ensures ∙ c.if-is.true))) c.requires.withdrawn

pub joined-requires-clause-ours : goal.joined-requires-clause-ours
joined-requires-clause-ours c =
    let p = c.args.place.now in
    account-sums c.args.self.now p.school p.student p.year p.term c.args.so_far.now c.requires.legal.0 c.requires.account

pub joined-requires-clause-theirs : goal.joined-requires-clause-theirs
joined-requires-clause-theirs c =
    let p = c.args.place.now in
    let f = c.args.filing.now in
    let past = c.args.self.now in
    entry-sums past f p.school p.student p.year p.term c.entry.result c.requires.legal
    (entry-there past f.key f.what c.in-Some.own p c.entry.result (sym c.of.ensures ∙ c.in-Some.is) (sym c.is.ensures ∙ c.if-is.true) c.entry.ensures)

pub returns-in-Some : goal.returns-in-Some
returns-in-Some c =
    let p = c.args.place.now in
    let f = c.args.filing.now in
    let past = c.args.self.now in
    subst (λ (a : Account). IsAccount (f ∷ past) p.school p.student p.year p.term a) (sym c.joined.ensures)
    (account-joined past f p.school p.student p.year p.term c.args.so_far.now c.entry.result c.requires.account
    (entry-there past f.key f.what c.in-Some.own p c.entry.result (sym c.of.ensures ∙ c.in-Some.is) (sym c.is.ensures ∙ c.if-is.true) c.entry.ensures))

pub returns-else-is : goal.returns-else-is
returns-else-is c =
    let p = c.args.place.now in
    let f = c.args.filing.now in
    let past = c.args.self.now in
    account-kept past f p.school p.student p.year p.term c.args.so_far.now c.requires.account
    (entry-elsewhere past f.key f.what p c.in-Some.own (moves-in past f.key f.what c.in-Some.own (sym c.of.ensures ∙ c.in-Some.is)) (sym c.is.ensures ∙ c.if-is.false))
