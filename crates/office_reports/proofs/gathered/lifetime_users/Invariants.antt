use Rattle.std.proofs.Common.{◌≡◌, reverse, take}
use Rattle.office_export.specs.Applicants.{told_by}
use Rattle.office_reports.specs.Rows.{lifetime_user}
use Rattle.office_reports.proofs.gathered.lifetime_users.Given as goal

abbrev pub invariant-loop-filing : goal.invariant-loop-filing
invariant-loop-filing l = l.students.items ≡ reverse (told_by (λ f. lifetime_user f.what) (reverse (take l.filing-index l.filings)))
