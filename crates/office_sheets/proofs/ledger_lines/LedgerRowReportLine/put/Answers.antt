use Rattle.std.proofs.Common.{decimal}
use Rattle.std.proofs.lemmas.Result.{on_ok_weaker}
use Rattle.law_terms.specs.Days.{day_text}
use Rattle.office_reports.specs.Columns.{left, right}
use Rattle.office_sheets.specs.LedgerLines.{number_text, word_text}
use Rattle.office_sheets.specs.Lists.{clerk_text}
use Rattle.office_sheets.proofs.Ahead.{eight_first}
use Rattle.office_sheets.proofs.ledger_lines.LedgerRowReportLine.put.Goals as goal

pub returns : goal.returns
returns c =
    let r = c.args.self.now in
    let position = rw c.from.ensures at c.in_ok-put_number.ensures in
    let word = rw (c.as_bytes.ensures.value, c.word.ensures) at c.in_ok-put_left.ensures in
    on_ok_weaker c.put_told.result
    (λ last. eight_first c.args.out.now.items (right 8 (decimal r.position)) (day_text r.stamp.day) (left 8 (clerk_text r.stamp.clerk)) (right 6 (decimal r.key.school)) (right 12 (decimal r.key.number)) (number_text r.year) (number_text r.term) (left 9 (word_text r.told)) r.told _
    (_, position, (_, c.in_ok-put_day_column.ensures, (_, c.in_ok-put_clerk.ensures, (_, c.in_ok-put_school.ensures, (_, c.in_ok-put_number-2.ensures, (_, c.in_ok-put_year.ensures, (_, c.in_ok-put_term.ensures, (_, word, last)))))))))
    c.put_told.ensures
