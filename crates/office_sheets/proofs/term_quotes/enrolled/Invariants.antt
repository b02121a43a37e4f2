use Rattle.std.proofs.Common.{◌≡◌, reverse, take}
use Rattle.office_export.specs.Applicants.{told_by}
use Rattle.office_sheets.specs.Quotes.{enrolled_by}
use Rattle.office_sheets.proofs.term_quotes.enrolled.Given as goal

abbrev pub invariant-loop-filing : goal.invariant-loop-filing
invariant-loop-filing l = l.students.items ≡ reverse (told_by (λ f. enrolled_by l.school l.year l.term f.key f.what) (reverse (take l.filing-index l.filings)))
