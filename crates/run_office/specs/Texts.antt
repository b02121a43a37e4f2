-- What a report writes, and the tally before a generated year. Own.
use Rattle.std.specs.Prelude.{ℕ, List, reverse}
use Rattle.aid_filings.specs.declared.filing.Filing.{Filing}
use Rattle.office_export.specs.Exports.{export_text}
use Rattle.office_reports.specs.Reports.{award_report, lifetime_report, return_report, stamp_report, standing_report}
use Rattle.office_reports.specs.Seals.{seal_report, seals_report}
use Rattle.run_generate.specs.declared.tally.YearTally.{YearTally}
use Rattle.run_words.specs.declared.command.ReportRequest.{ReportRequest}
use Rattle.run_words.specs.declared.command.ReportRequest.TheVariants as reports
use Rattle.log_stamps.specs.Entries.{entries, stamps_of}
use Rattle.log_stamps.specs.declared.entry.StampedEntry.{StampedEntry}

-- the text of a report, on a history with the newest filing first
abbrev pub report_text : ReportRequest → List (StampedEntry Filing) → List ℕ
report_text (reports.Standing of) past = standing_report (entries past) of.year
report_text (reports.Awards of) past = award_report (entries past) of.year
report_text (reports.Returns of) past = return_report (entries past) of.year
report_text reports.Lifetime past = lifetime_report (entries past)
report_text reports.Stamps past = stamp_report (reverse (stamps_of past))
report_text reports.Seal past = seal_report (entries past) (stamps_of past)
report_text reports.Seals past = seals_report (entries past) (stamps_of past)
report_text (reports.Export of) past = export_text (entries past) (stamps_of past) of.year

-- the tally of no verdicts
abbrev pub no_verdicts : YearTally
no_verdicts = record { accepted = 0; refused = 0; paid = 0; returned = 0 }
