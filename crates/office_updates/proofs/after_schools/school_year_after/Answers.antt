use Rattle.std.proofs.Common.{◌≡◌, ◌≤◌, ap, arith, ◌∙◌, List}
use Rattle.aid_filings.specs.declared.filing.Filing.{Filing}
use Rattle.office_history.specs.Answer.{IsLegal}
use Rattle.office_history.specs.Net.{at_school_in_year}
use Rattle.office_history.specs.Rows.{school_year_row}
use Rattle.office_history.specs.declared.names.StudentSchoolYear.{StudentSchoolYear}
use Rattle.office_history.specs.declared.rows.SchoolYearRow.{SchoolYearRow}
use Rattle.office_history.proofs.Bounds.{paid-most}
use Rattle.office_updates.specs.Changed.{school_year_changed}
use Rattle.office_updates.proofs.NamesChanged.{amount_school_year, named_as}
use Rattle.office_updates.proofs.SchoolYearsAfter.{amount-cents, amount-school_year, cost-school_year, originate-school_year, withdraw-cents, withdraw-school_year, with_cost, with_net, year_placed}
use Rattle.office_updates.proofs.after_schools.school_year_after.Goals as goal

-- the net of the row before is small
before_net : (past : List Filing) (name : StudentSchoolYear) (before : SchoolYearRow) → IsLegal past →
    before ≡ school_year_row past name.school name.student name.year → before.net ≤ 100000000000000
before_net past name before legal is =
    let same = ap (λ (row : SchoolYearRow). row.net) is in
    omega (arith, same, paid-most past legal (at_school_in_year name.school name.student name.year))

pub with_moved-requires-in-Pay-clause-before : goal.with_moved-requires-in-Pay-clause-before
with_moved-requires-in-Pay-clause-before g c =
    let f = c.args.filing.now in
    before_net (g.P.HistoryView.history c.args.past.now) _ c.args.before.now c.requires.legal.0
    (c.requires.before _ (amount_school_year f.key.school f.what c.in-Pay.amount c.in-Pay.is))

pub with_moved-requires-in-Pay-clause-paid : goal.with_moved-requires-in-Pay-clause-paid
with_moved-requires-in-Pay-clause-paid g c =
    amount-cents (g.P.HistoryView.history c.args.past.now) c.args.filing.now c.in-Pay.amount c.args.moved.now c.in-Pay.is c.requires.moved

pub with_moved-requires-clause-before : goal.with_moved-requires-clause-before
with_moved-requires-clause-before g c =
    let f = c.args.filing.now in
    before_net (g.P.HistoryView.history c.args.past.now) _ c.args.before.now c.requires.legal.0
    (c.requires.before _ (ap (school_year_changed f.key.school) c.in-Withdraw.is))

pub with_moved-requires-clause-taken : goal.with_moved-requires-clause-taken
with_moved-requires-clause-taken g c =
    withdraw-cents (g.P.HistoryView.history c.args.past.now) c.args.filing.now c.in-Withdraw.withdrawal c.args.moved.now c.in-Withdraw.is c.requires.legal c.requires.moved

pub returns-in-Originate-clause-written : goal.returns-in-Originate-clause-written
returns-in-Originate-clause-written g c =
    let past = g.P.HistoryView.history c.args.past.now in
    let f = c.args.filing.now in
    let o = c.in-Originate.origination in
    let before = c.requires.before _ (ap (school_year_changed f.key.school) c.in-Originate.is) in
    year_placed past f _ _ c.with_cost.result
    (originate-school_year past f o c.in-Originate.is c.requires.legal.2)
    c.with_cost.ensures.name
    (c.with_cost.ensures.row ∙ (λ i. with_cost (before i) (c.next_position.ensures i) o.cost))

pub returns-in-Originate-clause-named : goal.returns-in-Originate-clause-named
returns-in-Originate-clause-named g c =
    named_as _ _ c.with_cost.result (ap (school_year_changed c.args.filing.now.key.school) c.in-Originate.is) c.with_cost.ensures.name

pub returns-in-Cost-clause-written : goal.returns-in-Cost-clause-written
returns-in-Cost-clause-written g c =
    let past = g.P.HistoryView.history c.args.past.now in
    let f = c.args.filing.now in
    let o = c.in-Cost.changed in
    let before = c.requires.before _ (ap (school_year_changed f.key.school) c.in-Cost.is) in
    year_placed past f _ _ c.with_changed_cost.result (cost-school_year past f o c.in-Cost.is)
    c.with_changed_cost.ensures.name
    (c.with_changed_cost.ensures.row ∙ ap (λ (row : SchoolYearRow). record row { cost = o.cost }) before)

pub returns-in-Cost-clause-named : goal.returns-in-Cost-clause-named
returns-in-Cost-clause-named g c =
    named_as _ _ c.with_changed_cost.result (ap (school_year_changed c.args.filing.now.key.school) c.in-Cost.is) c.with_changed_cost.ensures.name

pub returns-in-Pay-clause-written : goal.returns-in-Pay-clause-written
returns-in-Pay-clause-written g c =
    let past = g.P.HistoryView.history c.args.past.now in
    let f = c.args.filing.now in
    let a = c.in-Pay.amount in
    let before = c.requires.before _ (amount_school_year f.key.school f.what a c.in-Pay.is) in
    year_placed past f _ _ c.with_moved-in-Pay.result
    (amount-school_year past f a c.args.moved.now c.requires.legal.0 c.in-Pay.is c.requires.moved)
    c.with_moved-in-Pay.ensures.name (c.with_moved-in-Pay.ensures.row ∙ ap (λ (row : SchoolYearRow). with_net row c.args.moved.now) before)

pub returns-in-Pay-clause-named : goal.returns-in-Pay-clause-named
returns-in-Pay-clause-named g c =
    let f = c.args.filing.now in
    named_as _ _ c.with_moved-in-Pay.result (amount_school_year f.key.school f.what c.in-Pay.amount c.in-Pay.is) c.with_moved-in-Pay.ensures.name

pub returns-in-Withdraw-clause-written : goal.returns-in-Withdraw-clause-written
returns-in-Withdraw-clause-written g c =
    let past = g.P.HistoryView.history c.args.past.now in
    let f = c.args.filing.now in
    let before = c.requires.before _ (ap (school_year_changed f.key.school) c.in-Withdraw.is) in
    year_placed past f _ _ c.with_moved.result
    (withdraw-school_year past f c.in-Withdraw.withdrawal c.args.moved.now c.requires.legal.0 c.in-Withdraw.is c.requires.moved)
    c.with_moved.ensures.name (c.with_moved.ensures.row ∙ ap (λ (row : SchoolYearRow). with_net row c.args.moved.now) before)

pub returns-in-Withdraw-clause-named : goal.returns-in-Withdraw-clause-named
returns-in-Withdraw-clause-named g c =
    let f = c.args.filing.now in
    named_as _ _ c.with_moved.result (ap (school_year_changed f.key.school) c.in-Withdraw.is) c.with_moved.ensures.name
