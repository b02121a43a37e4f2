use Rattle.std.proofs.Common.{arith}
use Rattle.std.proofs.lemmas.Int.{ints, clamps, to_z-of_z}
use Rattle.law_sai.specs.Index.{income_contribution}
use Rattle.law_sai.proofs.student.income_contribution.Goals as goal

pub returns-clause-value : goal.returns-clause-value
unfolding income_contribution
returns-clause-value c = grind (arith, to_z-of_z)

pub returns-clause-in_range : goal.returns-clause-in_range
returns-clause-in_range c = omega (arith, ints, clamps)
