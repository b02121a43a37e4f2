use Rattle.std.proofs.Common.{arith}
use Rattle.std.proofs.lemmas.Int.{to_z-of_z}
use Rattle.law_pell.specs.Award.{is_maximum}
use Rattle.law_pell.proofs.is_maximum.Goals as goal

pub returns-then-income-gt0 : goal.returns-then-income-gt0
unfolding is_maximum
returns-then-income-gt0 c = grind (arith, to_z-of_z)
