use Rattle.std.proofs.Common.{arith}
use Rattle.std.proofs.lemmas.Int.{to_z-of_z}
use Rattle.law_sai.proofs.household.value_at.Goals as goal

pub returns-clause-value : goal.returns-clause-value
returns-clause-value c = let e = c.in_ok-row.was in let v = c.row_at.ensures.value in grind (arith, to_z-of_z)
