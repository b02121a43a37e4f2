use Rattle.std.proofs.Common.{◌≡◌, reverse, take}
use Rattle.office_export.specs.Applicants.{applicant, told_by}
use Rattle.office_reports.proofs.gathered.applicants.Given as goal

abbrev pub invariant-loop-filing : goal.invariant-loop-filing
invariant-loop-filing l = l.students.items ≡ reverse (told_by (λ f. applicant l.year f.what) (reverse (take l.filing-index l.filings)))
