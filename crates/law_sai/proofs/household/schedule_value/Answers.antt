use Rattle.std.proofs.Common.{arith}
use Rattle.std.proofs.lemmas.Int.{ints, to_z-of_z}
use Rattle.law_sai.specs.Household.{schedule_value}
use Rattle.law_sai.proofs.household.schedule_value.Goals as goal

pub returns-then-x-book-clause-value : goal.returns-then-x-book-clause-value
unfolding schedule_value
returns-then-x-book-clause-value c = grind (arith, to_z-of_z)

pub returns-in-Some-clause-value : goal.returns-in-Some-clause-value
unfolding schedule_value
returns-in-Some-clause-value c = let e = c.in-Some.ensures.value in grind (arith, to_z-of_z)

pub returns-in-Some-clause-in_range : goal.returns-in-Some-clause-in_range
returns-in-Some-clause-in_range c = let h = c.in-Some.ensures.in_range 280 (omega (arith, ints)) in omega (arith, ints)

pub returns-in-None-clause-value : goal.returns-in-None-clause-value
unfolding schedule_value
returns-in-None-clause-value c = let e = c.in-None.ensures.value in let f = c.share.ensures.value in grind (arith, to_z-of_z)
