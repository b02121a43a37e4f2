use Rattle.std.proofs.Common.{Global, map, string_bytes, subst}
use Rattle.run_words.specs.Words.{ReadsReport}
use Rattle.run_sheets.proofs.RowLemmas.{reads_no_report, reads_report}
use Rattle.run_sheets.proofs.words.read_report.Goals as goal

pub returns-in-Some : goal.returns-in-Some
returns-in-Some c =
    let words = map (string_bytes {Z = Global}) c.args.behind.now in
    reads_report words c.in-Some.report (subst (ReadsReport words) c.in-Some.is c.report_of.ensures)

pub returns-in-None : goal.returns-in-None
returns-in-None c =
    let words = map (string_bytes {Z = Global}) c.args.behind.now in
    reads_no_report words (subst (ReadsReport words) c.in-None.is c.report_of.ensures)
