use Rattle.std.proofs.Common.{◌∙◌}
use Rattle.log_stamps.specs.Entries.{stamped}
use Rattle.run_office.proofs.SealedReports.{as_many, history_many}
use Rattle.run_office.proofs.report.OfficeReportReportStampedOfficeMachine.write.Goals as goal

pub seal_line-requires : goal.seal_line-requires
seal_line-requires c = record {
  stamped = as_many (stamped c.args.machine.now.inner.office.history c.args.machine.now.stamps) c.filings.result.now c.office-office.result.now.history c.stamps-in-Seal.result.now
      c.filings.ensures (c.office-office.ensures ∙ c.inner.ensures) c.stamps-in-Seal.ensures;
}

pub seal_lines-requires : goal.seal_lines-requires
seal_lines-requires c = record {
  stamped = as_many (stamped c.args.machine.now.inner.office.history c.args.machine.now.stamps) c.filings-in-Seals.result.now c.office-office.result.now.history c.stamps-in-Seals.result.now
      c.filings-in-Seals.ensures (c.office-office.ensures ∙ c.inner.ensures) c.stamps-in-Seals.ensures;
}

pub export-requires : goal.export-requires
export-requires c = record {
  stamped = history_many (stamped c.args.machine.now.inner.office.history c.args.machine.now.stamps) c.office-office.result.now.history c.stamps-in-Export.result.now (c.office-office.ensures ∙ c.inner.ensures) c.stamps-in-Export.ensures;
}
