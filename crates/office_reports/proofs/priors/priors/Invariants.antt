use Rattle.std.proofs.Common.{◌≡◌, ℕ, reverse, take}
use Rattle.std.specs.BTreeMap.{get}
use Rattle.std.specs.Ordering.{nat_cmp}
use Rattle.office_history.specs.Past.{earliest, prior_in}
use Rattle.office_reports.proofs.priors.priors.Given as goal

abbrev pub invariant-loop-filing : goal.invariant-loop-filing
invariant-loop-filing l = (student : ℕ) → get nat_cmp l.units student ≡ earliest (λ f. prior_in student f.what) (reverse (take l.filing-index l.filings))
