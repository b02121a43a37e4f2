use Rattle.law_loans.proofs.AllowedWithin.{allowed_within}
use Rattle.law_loans.proofs.laws.allowed_within.Goals as goal

pub returns : goal.returns
returns c = allowed_within
