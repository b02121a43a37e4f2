use Rattle.run_program.specs.Performed.{amend, audit, changes, loan_desks, loan_sheet, loans, office, office_desks, serve, sheet, upgrade, work, work_sheet}
use Rattle.run_program.proofs.calls.perform.Goals as goal

pub returns-in-Office : goal.returns-in-Office
returns-in-Office g c = rw c.in-Office.is (office c.in-Office.disk c.run-status.result.1 c.run-status.result.0 c.run-status.ensures.ran)

pub returns-in-OfficeDesks : goal.returns-in-OfficeDesks
returns-in-OfficeDesks g c =
    rw c.in-OfficeDesks.is (rw c.of_desks.ensures (office_desks _ _ _ _ c.run_desks-status.new.desks _ (rw c.deref_mut.ensures.value at c.run_desks-status.ensures.ran)))

pub returns-in-Serve : goal.returns-in-Serve
returns-in-Serve g c =
    rw c.in-Serve.is
    (rw c.of_server.ensures
    (serve c.in-Serve.disk c.run_web-status.result.1 c.in-Serve.ports c.run_web-status.new.ports c.in-Serve.sessions c.in-Serve.stamp c.run_web-status.result.0 c.run_web-status.ensures.ran))

pub returns-in-Upgrade : goal.returns-in-Upgrade
returns-in-Upgrade g c =
    rw c.in-Upgrade.is
    (upgrade c.in-Upgrade.source c.upgrade-status.result.1 c.in-Upgrade.target c.upgrade-status.result.2 c.upgrade-status.result.0 c.upgrade-status.ensures.upgrades)

pub returns-in-Amend : goal.returns-in-Amend
returns-in-Amend g c =
    rw c.in-Amend.is
    (rw c.of_amendment.ensures
    (amend c.in-Amend.source c.amend-status.result.1 c.in-Amend.target c.amend-status.result.2 c.in-Amend.request c.amend-status.result.0 c.amend-status.ensures.amending))

pub returns-in-Loans : goal.returns-in-Loans
returns-in-Loans g c = rw c.in-Loans.is (loans c.in-Loans.disk c.run_ruled-status.result.1 c.run_ruled-status.result.0 c.run_ruled-status.ensures.ran)

pub returns-in-LoanDesks : goal.returns-in-LoanDesks
returns-in-LoanDesks g c =
    rw c.in-LoanDesks.is (rw c.of_loan_desks.ensures (loan_desks _ _ _ _ c.run_ruled_desks-status.new.desks _ (rw c.deref_mut-in-LoanDesks.ensures.value at c.run_ruled_desks-status.ensures.ran)))

pub returns-in-Work : goal.returns-in-Work
returns-in-Work g c = rw c.in-Work.is (work c.in-Work.disk c.run_work-status.result.1 c.run_work-status.result.0 c.run_work-status.ensures.ran)

pub returns-in-Sheet : goal.returns-in-Sheet
returns-in-Sheet g c = rw c.in-Sheet.is (sheet c.in-Sheet.disk c.run_sheets-status.result.1 c.run_sheets-status.result.0 c.run_sheets-status.ensures.ran)

pub returns-in-LoanSheet : goal.returns-in-LoanSheet
returns-in-LoanSheet g c = rw c.in-LoanSheet.is (loan_sheet c.in-LoanSheet.disk c.run_desk_sheets-status.result.1 c.run_desk_sheets-status.result.0 c.run_desk_sheets-status.ensures.ran)

pub returns-in-WorkSheet : goal.returns-in-WorkSheet
returns-in-WorkSheet g c =
    rw c.in-WorkSheet.is
    (work_sheet c.in-WorkSheet.disk c.run_desk_sheets-status-in-WorkSheet.result.1 c.run_desk_sheets-status-in-WorkSheet.result.0 c.run_desk_sheets-status-in-WorkSheet.ensures.ran)

pub returns-in-Audit : goal.returns-in-Audit
returns-in-Audit g c = rw c.in-Audit.is (audit c.run_audit.result c.run_audit.ensures.ran)

pub returns-in-Changes : goal.returns-in-Changes
returns-in-Changes g c =
    rw c.in-Changes.is
    (changes c.in-Changes.old c.changes-status.result.1 c.in-Changes.new c.changes-status.result.2 c.changes-status.result.0 c.changes-status.ensures.comparing)
