use Rattle.law_loans.proofs.Small.{lent_most, nets_small}
use Rattle.law_loans.proofs.laws.allowed_amounts.Goals as goal

pub returns : goal.returns
returns c = record { small = nets_small; loans = lent_most }
