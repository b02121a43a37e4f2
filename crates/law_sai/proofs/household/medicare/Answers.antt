use Rattle.std.proofs.Common.{refl, arith, lit≤}
use Rattle.std.proofs.lemmas.Int.{ints, clamps, to_z-of_z}
use Rattle.law_sai.specs.Household.{medicare}
use Rattle.law_sai.proofs.Sums.{answer, plus}
use Rattle.law_sai.proofs.household.medicare.Goals as goal

pub overflow_add-result : goal.overflow_add-result
overflow_add-result c = omega (arith, ints, clamps)

pub returns-clause-value : goal.returns-clause-value
unfolding medicare
returns-clause-value c = grind (arith, to_z-of_z)

pub returns-clause-in_range : goal.returns-clause-in_range
returns-clause-in_range c =
    let low = answer 1 c.share.result _ (omega (arith, ints, clamps)) (lit≤ tt) refl in
    let high = answer 2 c.share-2.result _ (omega (arith, ints, clamps)) (lit≤ tt) refl in
    let both = plus low high (lit≤ tt) in
    rw both.is both.most
