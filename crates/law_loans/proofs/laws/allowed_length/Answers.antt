use Rattle.law_loans.proofs.Small.{is_short}
use Rattle.law_loans.proofs.laws.allowed_length.Goals as goal

pub returns : goal.returns
returns c = is_short
