use Rattle.std.proofs.Common.{arith}
use Rattle.std.proofs.lemmas.Int.{ints, clamps}
use Rattle.law_sai.proofs.household.oasdi.Goals as goal

pub returns-clause-in_range : goal.returns-clause-in_range
returns-clause-in_range c = omega (arith, ints, clamps)
