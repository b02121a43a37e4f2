use Rattle.std.proofs.Common.{◌∙◌, ap}
use Rattle.log_runs.specs.Counts.{written}
use Rattle.log_runs.specs.Statuses.{is_read_fault}
use Rattle.log_runs.proofs.EndLaws.{stood}
use Rattle.run_reports.proofs.Ran.{unread_by}
use Rattle.run_reports.proofs.run.write_text.Goals as goal

pub returns-clause-reports : goal.returns-clause-reports
returns-clause-reports g c = (c.write_report-ended.result.0, c.ended_filing.ensures, c.write_report-ended.ensures.reports)

pub returns-clause-source : goal.returns-clause-source
returns-clause-source g c =
    let done = c.write_report-ended in
    stood _ 0 (ap is_read_fault c.ended_filing.ensures ∙ unread_by g.D.Disk g.R.StateMachine.scheme (g.T.Report.text c.args.report.now) c.args.disk done.result.1 (written g.K.Sink c.args.out.now done.new.out) done.result.0 done.ensures.reports)
