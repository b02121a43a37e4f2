use Rattle.std.proofs.Common.{arith}
use Rattle.std.proofs.lemmas.Int.{to_z-of_z}
use Rattle.law_pell.proofs.decide_under.Goals as goal

pub returns-then-is_barred : goal.returns-then-is_barred
returns-then-is_barred c = grind (arith, to_z-of_z)

pub returns-then-is_at_ceiling : goal.returns-then-is_at_ceiling
returns-then-is_at_ceiling c = grind (arith, to_z-of_z)

pub returns-then-not-must_file : goal.returns-then-not-must_file
returns-then-not-must_file c = grind (arith, to_z-of_z)

pub returns-then-is_maximum : goal.returns-then-is_maximum
returns-then-is_maximum c = grind (arith, to_z-of_z)

pub returns-then-calculated-book : goal.returns-then-calculated-book
returns-then-calculated-book c = grind (arith, to_z-of_z)

pub returns-then-is_minimum : goal.returns-then-is_minimum
returns-then-is_minimum c = grind (arith, to_z-of_z)

pub returns : goal.returns
returns c = grind (arith, to_z-of_z)
