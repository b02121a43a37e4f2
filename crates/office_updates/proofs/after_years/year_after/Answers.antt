use Rattle.std.proofs.Common.{◌≡◌, ℕ, ◌+◌, ◌≤◌, ap, arith, ◌∙◌, List, length, Some}
use Rattle.aid_filings.specs.declared.filing.Filing.{Filing}
use Rattle.office_history.specs.Answer.{IsLegal}
use Rattle.office_history.specs.Past.{the_book, the_term}
use Rattle.office_history.specs.Award.{ceiling_under}
use Rattle.office_history.specs.Rows.{year_row}
use Rattle.office_history.specs.declared.rows.YearRow.{YearRow}
use Rattle.office_updates.specs.Changed.{year_changed}
use Rattle.office_updates.specs.Moved.{year_applied, year_moved}
use Rattle.office_updates.proofs.NamesChanged.{amount_year, named_as}
use Rattle.office_updates.proofs.YearNames.{year_written}
use Rattle.office_updates.proofs.YearFilings.{amount_entry, amount_touches, applied_changes, applied_row, entry_sums, main_most, nets_most, none_of_these, touched_after, withdrawal_entry, withdrawal_touches, year_unchanged}
use Rattle.office_updates.proofs.after_years.year_after.Goals as goal
use Rattle.std.specs.Prelude.{slice_index}

-- the sums of the row before are small
before_nets : (past : List Filing) (student year : ℕ) (before : YearRow) → IsLegal past → before ≡ year_row past student year →
    (p : ℕ) → slice_index before.nets p ≤ 100000000000000
before_nets past student year before legal is p =
    let same = ap (λ (r : YearRow). slice_index r.nets p) is in
    omega (arith, same, nets_most past student year legal p)

before_main : (past : List Filing) (student year : ℕ) (before : YearRow) → IsLegal past → before ≡ year_row past student year → before.main ≤ 100000000000000
before_main past student year before legal is =
    let same = ap (λ (r : YearRow). r.main) is in
    omega (arith, same, main_most past student year legal)

pub moved_year-requires-in-Pay-clause-nets : goal.moved_year-requires-in-Pay-clause-nets
moved_year-requires-in-Pay-clause-nets g c =
    let f = c.args.filing.now in
    let a = c.in-Pay.a in
    before_nets (g.P.HistoryView.history c.args.past.now) a.student a.year c.args.before.now c.requires.legal.0
    (c.requires.before _ (amount_year f.what a c.in-Pay.is))

pub moved_year-requires-in-Pay-clause-main : goal.moved_year-requires-in-Pay-clause-main
moved_year-requires-in-Pay-clause-main g c =
    let f = c.args.filing.now in
    let a = c.in-Pay.a in
    before_main (g.P.HistoryView.history c.args.past.now) a.student a.year c.args.before.now c.requires.legal.0
    (c.requires.before _ (amount_year f.what a c.in-Pay.is))

pub moved_year-requires-in-Pay-clause-paid : goal.moved_year-requires-in-Pay-clause-paid
moved_year-requires-in-Pay-clause-paid g c =
    entry_sums (g.P.HistoryView.history c.args.past.now) c.args.filing.now c.args.filing.now.key.school c.in-Pay.a.student c.in-Pay.a.year c.in-Pay.a.term c.args.moved.now c.requires.legal
    (amount_entry (g.P.HistoryView.history c.args.past.now) c.args.filing.now c.in-Pay.a c.args.moved.now c.in-Pay.is c.requires.moved)

pub moved_year-requires-clause-nets : goal.moved_year-requires-clause-nets
moved_year-requires-clause-nets g c =
    let w = c.in-Withdraw.w in
    before_nets (g.P.HistoryView.history c.args.past.now) w.student w.year c.args.before.now c.requires.legal.0
    (c.requires.before _ (ap year_changed c.in-Withdraw.is))

pub moved_year-requires-clause-main : goal.moved_year-requires-clause-main
moved_year-requires-clause-main g c =
    let w = c.in-Withdraw.w in
    before_main (g.P.HistoryView.history c.args.past.now) w.student w.year c.args.before.now c.requires.legal.0
    (c.requires.before _ (ap year_changed c.in-Withdraw.is))

pub moved_year-requires-clause-paid : goal.moved_year-requires-clause-paid
moved_year-requires-clause-paid g c =
    entry_sums (g.P.HistoryView.history c.args.past.now) c.args.filing.now c.args.filing.now.key.school c.in-Withdraw.w.student c.in-Withdraw.w.year c.in-Withdraw.w.term c.args.moved.now c.requires.legal
    (withdrawal_entry (g.P.HistoryView.history c.args.past.now) c.args.filing.now c.in-Withdraw.w c.args.moved.now c.in-Withdraw.is c.requires.moved)

pub returns-in-Apply-clause-written : goal.returns-in-Apply-clause-written
returns-in-Apply-clause-written g c =
    let past = g.P.HistoryView.history c.args.past.now in
    let a = c.in-Apply.a in
    let before = c.requires.before _ (ap year_changed c.in-Apply.is) in
    year_written past c.args.filing.now a.student a.year c.year_name.result c.applied.result c.year_name.ensures
    (c.applied.ensures
    ∙ (λ i. year_applied (before i) a (c.requires.award a c.in-Apply.is i) (ceiling_under (the_book past a.year) (Some a)) (length past + 1))
    ∙ applied_row past c.args.filing.now a c.in-Apply.is c.requires.legal.2)
    (applied_changes past c.args.filing.now a c.in-Apply.is)

pub returns-in-Apply-clause-named : goal.returns-in-Apply-clause-named
returns-in-Apply-clause-named g c =
    named_as _ _ (c.year_name.result, c.applied.result) (ap year_changed c.in-Apply.is) c.year_name.ensures

pub returns-in-Pay-clause-written : goal.returns-in-Pay-clause-written
returns-in-Pay-clause-written g c =
    let past = g.P.HistoryView.history c.args.past.now in
    let f = c.args.filing.now in
    let a = c.in-Pay.a in
    let before = c.requires.before _ (amount_year f.what a c.in-Pay.is) in
    touched_after past f f.key.school a.student a.year a.term
    (amount_touches past f a c.in-Pay.is) c.requires.legal.0 c.args.moved.now c.year_name-in-Pay.result c.moved_year-in-Pay.result
    (amount_entry past f a c.args.moved.now c.in-Pay.is c.requires.moved) c.year_name-in-Pay.ensures
    (c.moved_year-in-Pay.ensures ∙ ap (λ (r : YearRow). year_moved r (the_term past f.key.school a.year a.term) c.args.moved.now) before)

pub returns-in-Pay-clause-named : goal.returns-in-Pay-clause-named
returns-in-Pay-clause-named g c =
    named_as _ _ (c.year_name-in-Pay.result, c.moved_year-in-Pay.result) (amount_year c.args.filing.now.what c.in-Pay.a c.in-Pay.is) c.year_name-in-Pay.ensures

pub returns-in-Withdraw-clause-written : goal.returns-in-Withdraw-clause-written
returns-in-Withdraw-clause-written g c =
    let past = g.P.HistoryView.history c.args.past.now in
    let f = c.args.filing.now in
    let w = c.in-Withdraw.w in
    let before = c.requires.before _ (ap year_changed c.in-Withdraw.is) in
    touched_after past f f.key.school w.student w.year w.term
    (withdrawal_touches past f w c.in-Withdraw.is) c.requires.legal.0 c.args.moved.now c.year_name-in-Withdraw.result c.moved_year.result
    (withdrawal_entry past f w c.args.moved.now c.in-Withdraw.is c.requires.moved) c.year_name-in-Withdraw.ensures
    (c.moved_year.ensures ∙ ap (λ (r : YearRow). year_moved r (the_term past f.key.school w.year w.term) c.args.moved.now) before)

pub returns-in-Withdraw-clause-named : goal.returns-in-Withdraw-clause-named
returns-in-Withdraw-clause-named g c =
    named_as _ _ (c.year_name-in-Withdraw.result, c.moved_year.result) (ap year_changed c.in-Withdraw.is) c.year_name-in-Withdraw.ensures

pub returns-in_default-clause-written : goal.returns-in_default-clause-written
returns-in_default-clause-written g c =
    year_unchanged (g.P.HistoryView.history c.args.past.now) c.args.filing.now
    (none_of_these c.args.filing.now.what c.in_default.not-Apply c.in_default.not-Pay c.in_default.not-Withdraw c.in_default.not-Repay c.in_default.not-Adjust)
    c.requires.legal.0
