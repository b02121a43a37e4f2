use Rattle.std.proofs.Common.{arith}
use Rattle.std.proofs.lemmas.Int.{to_z-of_z}
use Rattle.law_pell.specs.Award.{is_minimum}
use Rattle.law_pell.proofs.is_minimum.Goals as goal

pub returns : goal.returns
unfolding is_minimum
returns c = grind (arith, to_z-of_z)
