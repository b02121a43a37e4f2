use Rattle.std.proofs.Common.{◌≡◌, take}
use Rattle.std.specs.List.{flat_map}
use Rattle.office_sheets.specs.Quotes.{quote_row}
use Rattle.office_sheets.proofs.term_quotes.quote_rows.Given as goal

abbrev pub invariant-loop-student : goal.invariant-loop-student
invariant-loop-student l = l.rows.items ≡ flat_map (quote_row l.office.history l.school l.year l.term) (take l.student-index l.student-items)
