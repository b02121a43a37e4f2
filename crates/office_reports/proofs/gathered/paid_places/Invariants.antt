use Rattle.std.proofs.Common.{◌≡◌, reverse, take}
use Rattle.office_export.specs.Applicants.{told_by}
use Rattle.office_reports.specs.Rows.{paid_place}
use Rattle.office_reports.proofs.gathered.paid_places.Given as goal

abbrev pub invariant-loop-filing : goal.invariant-loop-filing
invariant-loop-filing l = l.places.items ≡ reverse (told_by (λ f. paid_place l.year f.key f.what) (reverse (take l.filing-index l.filings)))
