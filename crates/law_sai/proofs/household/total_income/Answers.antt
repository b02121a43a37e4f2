use Rattle.std.proofs.Common.{arith}
use Rattle.std.proofs.lemmas.Int.{ints}
use Rattle.law_sai.specs.Household.{total_income}
use Rattle.law_sai.proofs.household.total_income.Goals as goal

pub returns-clause-value : goal.returns-clause-value
unfolding total_income
returns-clause-value c = omega (arith, ints)

pub returns-clause-in_range : goal.returns-clause-in_range
returns-clause-in_range c = omega (arith, ints)
