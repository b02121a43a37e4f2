use Rattle.std.proofs.Common.{◌≡◌, ap, sym, subst, ◌∙◌, List}
use Rattle.aid_filings.specs.declared.filing.Filing.{Filing}
use Rattle.office_history.specs.Accounts.{HasSums}
use Rattle.office_history.specs.Answer.{IsLegal}
use Rattle.office_history.specs.Rows.{place_row}
use Rattle.office_history.specs.declared.rows.PlaceRow.{PlaceRow}
use Rattle.office_history.specs.declared.names.StudentPlace.{StudentPlace}
use Rattle.office_updates.specs.Changed.{place_changed}
use Rattle.office_updates.proofs.NamesChanged.{amount_place, named_as}
use Rattle.office_updates.proofs.PlacesAfter.{amount-place, enroll-place, enrolled, own-sums, placed, place_left, place_sent, row-sums, sent-place, withdraw-place, with_moved, with_withdrawal}
use Rattle.office_updates.proofs.after_places.place_after.Goals as goal

-- the sums of the row before are small
before-sums : (past : List Filing) (name : StudentPlace) (before : PlaceRow) → IsLegal past →
    before ≡ place_row past name.school name.student name.year name.term → HasSums before.account
before-sums past name before legal is =
    subst (λ (row : PlaceRow). HasSums row.account) (sym is) (row-sums past name.school name.student name.year name.term legal)

pub with_moved-requires-in-Pay-clause-before : goal.with_moved-requires-in-Pay-clause-before
with_moved-requires-in-Pay-clause-before g c =
    let f = c.args.filing.now in
    let at = amount_place f.key.school f.what c.in-Pay.amount c.in-Pay.is in
    before-sums (g.P.HistoryView.history c.args.past.now) _ c.args.before.now c.requires.legal.0 (c.requires.before _ at)

pub with_moved-requires-clause-before : goal.with_moved-requires-clause-before
with_moved-requires-clause-before g c =
    let f = c.args.filing.now in
    before-sums (g.P.HistoryView.history c.args.past.now) _ c.args.before.now c.requires.legal.0
    (c.requires.before (place_sent f.key c.in-Sent.sent) (ap (place_changed f.key.school) c.in-Sent.is))

pub with_withdrawal-requires-clause-before : goal.with_withdrawal-requires-clause-before
with_withdrawal-requires-clause-before g c =
    let f = c.args.filing.now in
    before-sums (g.P.HistoryView.history c.args.past.now) _ c.args.before.now c.requires.legal.0
    (c.requires.before (place_left f.key c.in-Withdraw.withdrawal) (ap (place_changed f.key.school) c.in-Withdraw.is))

pub with_moved-requires-in-Pay-clause-moved : goal.with_moved-requires-in-Pay-clause-moved
with_moved-requires-in-Pay-clause-moved g c =
    own-sums (g.P.HistoryView.history c.args.past.now) c.args.filing.now.key c.args.filing.now.what c.args.moved.now c.requires.legal c.requires.moved

pub with_moved-requires-clause-moved : goal.with_moved-requires-clause-moved
with_moved-requires-clause-moved g c =
    own-sums (g.P.HistoryView.history c.args.past.now) c.args.filing.now.key c.args.filing.now.what c.args.moved.now c.requires.legal c.requires.moved

pub with_withdrawal-requires-clause-moved : goal.with_withdrawal-requires-clause-moved
with_withdrawal-requires-clause-moved g c =
    own-sums (g.P.HistoryView.history c.args.past.now) c.args.filing.now.key c.args.filing.now.what c.args.moved.now c.requires.legal c.requires.moved

pub returns-in-Enroll-clause-written : goal.returns-in-Enroll-clause-written
returns-in-Enroll-clause-written g c =
    let past = g.P.HistoryView.history c.args.past.now in
    let f = c.args.filing.now in
    let e = c.in-Enroll.enrollment in
    let before = c.requires.before _ (ap (place_changed f.key.school) c.in-Enroll.is) in
    placed past f _ _ c.with_credits.result (enroll-place past f e c.in-Enroll.is)
    c.with_credits.ensures.name (c.with_credits.ensures.row ∙ ap (λ (row : PlaceRow). record row { credits = e.credits }) before)

pub returns-in-Enroll-clause-named : goal.returns-in-Enroll-clause-named
returns-in-Enroll-clause-named g c =
    named_as _ _ c.with_credits.result (ap (place_changed c.args.filing.now.key.school) c.in-Enroll.is) c.with_credits.ensures.name

pub returns-in-Enroll-clause-enrolled : goal.returns-in-Enroll-clause-enrolled
returns-in-Enroll-clause-enrolled g c = enrolled c.args.filing.now c.in-Enroll.enrollment c.with_credits.result c.in-Enroll.is c.with_credits.ensures.name

pub returns-in-Pay-clause-written : goal.returns-in-Pay-clause-written
returns-in-Pay-clause-written g c =
    let past = g.P.HistoryView.history c.args.past.now in
    let f = c.args.filing.now in
    let a = c.in-Pay.amount in
    let before = c.requires.before _ (amount_place f.key.school f.what a c.in-Pay.is) in
    placed past f _ _ c.with_moved-in-Pay.result (amount-place past f a c.args.moved.now c.in-Pay.is c.requires.moved)
    c.with_moved-in-Pay.ensures.name (c.with_moved-in-Pay.ensures.row ∙ ap (λ (row : PlaceRow). with_moved row c.args.moved.now) before)

pub returns-in-Pay-clause-named : goal.returns-in-Pay-clause-named
returns-in-Pay-clause-named g c =
    let f = c.args.filing.now in
    named_as _ _ c.with_moved-in-Pay.result (amount_place f.key.school f.what c.in-Pay.amount c.in-Pay.is) c.with_moved-in-Pay.ensures.name

pub returns-in-Withdraw-clause-written : goal.returns-in-Withdraw-clause-written
returns-in-Withdraw-clause-written g c =
    let past = g.P.HistoryView.history c.args.past.now in
    let f = c.args.filing.now in
    let w = c.in-Withdraw.withdrawal in
    let before = c.requires.before (place_left f.key w) (ap (place_changed f.key.school) c.in-Withdraw.is) in
    placed past f _ _ c.with_withdrawal.result
    (withdraw-place past f w c.args.moved.now c.in-Withdraw.is c.requires.legal.2 c.requires.moved)
    c.with_withdrawal.ensures.name
    (c.with_withdrawal.ensures.row
    ∙ (λ i. with_withdrawal (with_moved (before i) c.args.moved.now) (c.next_position.ensures i) w))

pub returns-in-Withdraw-clause-named : goal.returns-in-Withdraw-clause-named
returns-in-Withdraw-clause-named g c =
    let f = c.args.filing.now in
    named_as _ _ c.with_withdrawal.result (ap (place_changed f.key.school) c.in-Withdraw.is) c.with_withdrawal.ensures.name

pub returns-in-Sent-clause-written : goal.returns-in-Sent-clause-written
returns-in-Sent-clause-written g c =
    let past = g.P.HistoryView.history c.args.past.now in
    let f = c.args.filing.now in
    let s = c.in-Sent.sent in
    let before = c.requires.before (place_sent f.key s) (ap (place_changed f.key.school) c.in-Sent.is) in
    placed past f _ _ c.with_moved.result (sent-place past f s c.args.moved.now c.in-Sent.is c.requires.moved)
    c.with_moved.ensures.name (c.with_moved.ensures.row ∙ ap (λ (row : PlaceRow). with_moved row c.args.moved.now) before)

pub returns-in-Sent-clause-named : goal.returns-in-Sent-clause-named
returns-in-Sent-clause-named g c =
    let f = c.args.filing.now in
    named_as _ _ c.with_moved.result (ap (place_changed f.key.school) c.in-Sent.is) c.with_moved.ensures.name
