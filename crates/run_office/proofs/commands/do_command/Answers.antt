use Rattle.std.proofs.Common.{◌∙◌, Some, ap, length, refl, subst, sym}
use Rattle.std.proofs.lemmas.Option.{slice_get-get_or}
use Rattle.run_office.specs.Rounds.{IsPolicyAmong}
use Rattle.run_office.specs.Ran.{founding, filing, booking, quoting, reporting, funding, generating, checking_rows, checking_book}
use Rattle.run_office.proofs.Awarding.{planned_at}
use Rattle.run_office.proofs.Checking.{rows_disk}
use Rattle.log_runs.proofs.EndLaws.{stood}
use Rattle.run_office.proofs.commands.do_command.Goals as goal

pub returns-in-Found-clause-does : goal.returns-in-Found-clause-does
returns-in-Found-clause-does g c = rw (c.in-Found.is, c.ended_founding.ensures) (founding c.found-ended.result.0 c.found-ended.ensures.session)

pub returns-in-File-clause-does : goal.returns-in-File-clause-does
returns-in-File-clause-does g c = let (ended, is, session) = c.file_rows.ensures.session in rw (c.in-File.is, is) (filing ended session)

pub returns-in-Book-clause-does : goal.returns-in-Book-clause-does
returns-in-Book-clause-does g c = let (ended, is, session) = c.file_book.ensures.session in rw (c.in-Book.is, is) (booking c.in-Book.book ended session)

pub returns-in-Quote-clause-does : goal.returns-in-Quote-clause-does
returns-in-Quote-clause-does g c =
    rw (c.in-Quote.is, c.ended_filing.ensures) (quoting c.in-Quote.quote c.answer-ended.result.0 (rw c.new-rows.ensures at c.answer-ended.ensures.session))

pub returns-in-Report-clause-does : goal.returns-in-Report-clause-does
returns-in-Report-clause-does g c =
    rw (c.in-Report.is, c.ended_filing-in-Report.ensures) (reporting c.in-Report.request c.write_report-ended.result.0 c.write_report-ended.ensures.reports)

pub returns-in-Fund-clause-does : goal.returns-in-Fund-clause-does
returns-in-Fund-clause-does g c =
    let policies = c.args.policies.now.list.items in
    let place = c.in-Fund.fund.policy in
    rw (c.in-Fund.is, c.ended_filing-in-Fund.ensures) (funding c.in-Fund.fund c.file_round-ended.result.0
    (planned_at g.D.Disk policies c.index-policy.result.now place _ c.args.stamp _ _ _ _ _
    (slice_get-get_or policies place c.index-policy.result.now (subst (IsPolicyAmong (length policies)) c.in-Fund.is c.requires.policy) ∙ ap Some (sym c.index-policy.ensures))
    c.file_round-ended.ensures.planned))

pub returns-in-Generate-clause-does : goal.returns-in-Generate-clause-does
returns-in-Generate-clause-does g c = let (ended, is, session) = c.file_year.ensures.session in rw (c.in-Generate.is, is) (generating c.in-Generate.generate ended session)

pub returns-in-CheckRows-clause-does : goal.returns-in-CheckRows-clause-does
returns-in-CheckRows-clause-does g c = rw c.in-CheckRows.is (checking_rows c.check_rows.result refl c.check_rows.ensures.checks)

pub returns-in-CheckRows-clause-disk : goal.returns-in-CheckRows-clause-disk
returns-in-CheckRows-clause-disk g c = stood _ _ (rows_disk _ _ c.check_rows.result c.check_rows.ensures.checks)

pub returns-in-CheckBook-clause-does : goal.returns-in-CheckBook-clause-does
returns-in-CheckBook-clause-does g c = rw c.in-CheckBook.is (checking_book c.check_book.result refl c.check_book.ensures.checks)
