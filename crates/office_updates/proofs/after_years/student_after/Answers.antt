use Rattle.std.proofs.Common.{◌∷◌, ap, false, refl, sym, inl, inr}
use Rattle.std.specs.Prelude.{◌==◌}
use Rattle.aid_filings.specs.declared.filing.What.TheVariants.{Apply, Pay, Withdraw}
use Rattle.aid_types.specs.Programs.{rank}
use Rattle.office_updates.specs.Changed.{student_changed, year_changed}
use Rattle.office_updates.proofs.NamesChanged.{amount_student, amount_year, named_as}
use Rattle.office_updates.proofs.StudentUse.{back_brings, filing_brings, prior_fits, student_brought, student_prior_written, student_unchanged, year_within}
use Rattle.office_updates.proofs.YearFilings.{amount_touches, applied_changes, none_of_these, touched_changes, withdrawal_touches}
use Rattle.office_updates.proofs.after_years.student_after.Goals as goal

pub with_prior-requires-clause-units : goal.with_prior-requires-clause-units
with_prior-requires-clause-units g c = prior_fits (g.P.HistoryView.history c.args.past.now) c.args.filing.now c.in-Prior.prior c.in-Prior.is c.requires.legal.2

pub with_use-requires-clause-within : goal.with_use-requires-clause-within
with_use-requires-clause-within g c =
    year_within (c.args.filing.now ∷ (g.P.HistoryView.history c.args.past.now)) c.in-Apply.a.student c.in-Apply.a.year _ (sym (c.requires.year c.in-Apply.a.student c.in-Apply.a.year)) c.requires.legal

pub with_payment-requires-clause-within : goal.with_payment-requires-clause-within
with_payment-requires-clause-within g c =
    year_within (c.args.filing.now ∷ (g.P.HistoryView.history c.args.past.now)) c.in-Pay.a.student c.in-Pay.a.year _ (sym (c.requires.year c.in-Pay.a.student c.in-Pay.a.year)) c.requires.legal

pub with_use-requires-in-Withdraw-clause-within : goal.with_use-requires-in-Withdraw-clause-within
with_use-requires-in-Withdraw-clause-within g c =
    year_within (c.args.filing.now ∷ (g.P.HistoryView.history c.args.past.now)) c.in-Withdraw.w.student c.in-Withdraw.w.year _ (sym (c.requires.year c.in-Withdraw.w.student c.in-Withdraw.w.year)) c.requires.legal

pub with_use-requires-in-Repay-clause-within : goal.with_use-requires-in-Repay-clause-within
with_use-requires-in-Repay-clause-within g c =
    year_within (c.args.filing.now ∷ (g.P.HistoryView.history c.args.past.now)) c.in-Repay.a.student c.in-Repay.a.year _ (sym (c.requires.year c.in-Repay.a.student c.in-Repay.a.year)) c.requires.legal

pub returns-in-Prior-clause-written : goal.returns-in-Prior-clause-written
returns-in-Prior-clause-written g c =
    student_prior_written (g.P.HistoryView.history c.args.past.now) c.args.filing.now c.in-Prior.prior c.student_name.result c.with_prior.result c.student_name.ensures c.in-Prior.is c.requires.legal.0 c.requires.legal.2 c.with_prior.ensures

pub returns-in-Apply-clause-written : goal.returns-in-Apply-clause-written
returns-in-Apply-clause-written g c =
    student_brought (g.P.HistoryView.history c.args.past.now) c.args.filing.now c.in-Apply.a.student c.in-Apply.a.year false c.student_name-in-Apply.result c.with_use.result _ c.student_name-in-Apply.ensures
    (filing_brings (g.P.HistoryView.history c.args.past.now) c.args.filing.now (Apply c.in-Apply.a) c.in-Apply.a.student c.in-Apply.a.year c.in-Apply.is (refl, refl)
    (applied_changes (g.P.HistoryView.history c.args.past.now) c.args.filing.now c.in-Apply.a c.in-Apply.is))
    c.with_use.ensures.between (sym (c.requires.year c.in-Apply.a.student c.in-Apply.a.year)) c.with_use.ensures.value

pub returns-in-Pay-clause-written : goal.returns-in-Pay-clause-written
returns-in-Pay-clause-written g c =
    student_brought (g.P.HistoryView.history c.args.past.now) c.args.filing.now c.in-Pay.a.student c.in-Pay.a.year (rank c.in-Pay.a.program == 3) c.student_name-in-Pay.result c.with_payment.result _ c.student_name-in-Pay.ensures
    (filing_brings (g.P.HistoryView.history c.args.past.now) c.args.filing.now (Pay c.in-Pay.a) c.in-Pay.a.student c.in-Pay.a.year c.in-Pay.is (refl, refl)
    (touched_changes (g.P.HistoryView.history c.args.past.now) c.args.filing.now c.args.filing.now.key.school c.in-Pay.a.student c.in-Pay.a.year c.in-Pay.a.term
    (amount_touches (g.P.HistoryView.history c.args.past.now) c.args.filing.now c.in-Pay.a (inl c.in-Pay.is)) c.requires.legal.0))
    c.with_payment.ensures.between (sym (c.requires.year c.in-Pay.a.student c.in-Pay.a.year)) c.with_payment.ensures.value

pub returns-in-Withdraw-clause-written : goal.returns-in-Withdraw-clause-written
returns-in-Withdraw-clause-written g c =
    student_brought (g.P.HistoryView.history c.args.past.now) c.args.filing.now c.in-Withdraw.w.student c.in-Withdraw.w.year false c.student_name-in-Withdraw.result c.with_use-in-Withdraw.result _ c.student_name-in-Withdraw.ensures
    (filing_brings (g.P.HistoryView.history c.args.past.now) c.args.filing.now (Withdraw c.in-Withdraw.w) c.in-Withdraw.w.student c.in-Withdraw.w.year c.in-Withdraw.is (refl, refl)
    (touched_changes (g.P.HistoryView.history c.args.past.now) c.args.filing.now c.args.filing.now.key.school c.in-Withdraw.w.student c.in-Withdraw.w.year c.in-Withdraw.w.term
    (withdrawal_touches (g.P.HistoryView.history c.args.past.now) c.args.filing.now c.in-Withdraw.w c.in-Withdraw.is) c.requires.legal.0))
    c.with_use-in-Withdraw.ensures.between (sym (c.requires.year c.in-Withdraw.w.student c.in-Withdraw.w.year)) c.with_use-in-Withdraw.ensures.value

pub returns-in-Repay-clause-written : goal.returns-in-Repay-clause-written
returns-in-Repay-clause-written g c =
    student_brought (g.P.HistoryView.history c.args.past.now) c.args.filing.now c.in-Repay.a.student c.in-Repay.a.year false c.student_name-in-Repay.result c.with_use-in-Repay.result _ c.student_name-in-Repay.ensures
    (back_brings (g.P.HistoryView.history c.args.past.now) c.args.filing.now c.in-Repay.a c.in-Repay.is
    (touched_changes (g.P.HistoryView.history c.args.past.now) c.args.filing.now c.args.filing.now.key.school c.in-Repay.a.student c.in-Repay.a.year c.in-Repay.a.term
    (amount_touches (g.P.HistoryView.history c.args.past.now) c.args.filing.now c.in-Repay.a (inr c.in-Repay.is)) c.requires.legal.0))
    c.with_use-in-Repay.ensures.between (sym (c.requires.year c.in-Repay.a.student c.in-Repay.a.year)) c.with_use-in-Repay.ensures.value

pub returns-in_default-clause-written : goal.returns-in_default-clause-written
returns-in_default-clause-written g c =
    student_unchanged (g.P.HistoryView.history c.args.past.now) c.args.filing.now
    (none_of_these c.args.filing.now.what c.in_default.not-Apply c.in_default.not-Pay c.in_default.not-Withdraw c.in_default.not-Repay c.in_default.not-Adjust)
    c.in_default.not-Prior c.requires.legal.0

pub with_prior-requires-clause-before : goal.with_prior-requires-clause-before
with_prior-requires-clause-before g c = c.requires.before _ (ap student_changed c.in-Prior.is)

pub with_use-requires-clause-before : goal.with_use-requires-clause-before
with_use-requires-clause-before g c = c.requires.before _ (ap student_changed c.in-Apply.is)

pub with_use-requires-clause-of_year : goal.with_use-requires-clause-of_year
with_use-requires-clause-of_year g c = c.requires.of_year _ (ap year_changed c.in-Apply.is)

pub with_payment-requires-clause-before : goal.with_payment-requires-clause-before
with_payment-requires-clause-before g c = c.requires.before _ (ap student_changed c.in-Pay.is)

pub with_payment-requires-clause-of_year : goal.with_payment-requires-clause-of_year
with_payment-requires-clause-of_year g c = c.requires.of_year _ (ap year_changed c.in-Pay.is)

pub with_use-requires-in-Withdraw-clause-before : goal.with_use-requires-in-Withdraw-clause-before
with_use-requires-in-Withdraw-clause-before g c = c.requires.before _ (ap student_changed c.in-Withdraw.is)

pub with_use-requires-in-Withdraw-clause-of_year : goal.with_use-requires-in-Withdraw-clause-of_year
with_use-requires-in-Withdraw-clause-of_year g c = c.requires.of_year _ (ap year_changed c.in-Withdraw.is)

pub with_use-requires-in-Repay-clause-before : goal.with_use-requires-in-Repay-clause-before
with_use-requires-in-Repay-clause-before g c = c.requires.before _ (amount_student c.args.filing.now.what c.in-Repay.a (inr c.in-Repay.is))

pub with_use-requires-in-Repay-clause-of_year : goal.with_use-requires-in-Repay-clause-of_year
with_use-requires-in-Repay-clause-of_year g c = c.requires.of_year _ (amount_year c.args.filing.now.what c.in-Repay.a (inr c.in-Repay.is))

pub returns-in-Prior-clause-named : goal.returns-in-Prior-clause-named
returns-in-Prior-clause-named g c = named_as _ _ (c.student_name.result, c.with_prior.result) (ap student_changed c.in-Prior.is) c.student_name.ensures

pub returns-in-Apply-clause-named : goal.returns-in-Apply-clause-named
returns-in-Apply-clause-named g c = named_as _ _ (c.student_name-in-Apply.result, c.with_use.result) (ap student_changed c.in-Apply.is) c.student_name-in-Apply.ensures

pub returns-in-Pay-clause-named : goal.returns-in-Pay-clause-named
returns-in-Pay-clause-named g c = named_as _ _ (c.student_name-in-Pay.result, c.with_payment.result) (ap student_changed c.in-Pay.is) c.student_name-in-Pay.ensures

pub returns-in-Withdraw-clause-named : goal.returns-in-Withdraw-clause-named
returns-in-Withdraw-clause-named g c = named_as _ _ (c.student_name-in-Withdraw.result, c.with_use-in-Withdraw.result) (ap student_changed c.in-Withdraw.is) c.student_name-in-Withdraw.ensures

pub returns-in-Repay-clause-named : goal.returns-in-Repay-clause-named
returns-in-Repay-clause-named g c = named_as _ _ (c.student_name-in-Repay.result, c.with_use-in-Repay.result) (amount_student c.args.filing.now.what c.in-Repay.a (inr c.in-Repay.is)) c.student_name-in-Repay.ensures
