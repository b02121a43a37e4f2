use Rattle.std.proofs.Common.{arith}
use Rattle.std.proofs.lemmas.Int.{ints}
use Rattle.law_sai.proofs.household.untaxed_income.Goals as goal

pub overflow_add-side-4 : goal.overflow_add-side-4
overflow_add-side-4 c = omega (arith, ints)

pub returns : goal.returns
returns c = record { value = omega (arith, ints); in_range = omega (arith, ints) }
