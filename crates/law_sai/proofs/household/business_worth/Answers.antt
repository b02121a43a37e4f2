use Rattle.std.proofs.Common.{arith}
use Rattle.std.proofs.lemmas.Int.{ints}
use Rattle.law_sai.proofs.household.business_worth.Goals as goal

pub returns-in-Some-clause-in_range : goal.returns-in-Some-clause-in_range
returns-in-Some-clause-in_range c = let h = c.in-Some.ensures.in_range 1 (omega (arith, ints)) in omega (arith, ints)
