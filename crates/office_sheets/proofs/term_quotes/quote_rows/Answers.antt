use Rattle.office_reports.proofs.Passes.{groups-more}
use Rattle.office_sheets.specs.Quotes.{quote_row}
use Rattle.office_sheets.proofs.term_quotes.quote_rows.Goals as goal

pub loop-student-preserved : goal.loop-student-preserved
loop-student-preserved c =
    groups-more (quote_row c.args.office.now.history c.args.school c.args.year c.args.term) c.as_slice-student-items.result.now c.loop-student.student-index c.student-item.result
    c.loop-student-test.true c.student-item.is _ _ c.loop-student.invariant c.in_ok-push_quote.ensures
