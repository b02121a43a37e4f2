use Rattle.std.proofs.Common.{◌*◌, arith}
use Rattle.aid_types.proofs.NearestLemmas.{half_up-le}
use Rattle.law_r2t4.proofs.percent_earned.Goals as goal

pub overflow_cast-result : goal.overflow_cast-result
overflow_cast-result c =
    let most = half_up-le (1000 * c.from-completed.result) c.from-total.result 1000 (omega (arith, c.requires)) (omega (arith, c.requires)) in
    omega (arith, most, c.nearest_whole.ensures.value)

pub returns-else-completed-total-clause-at_most : goal.returns-else-completed-total-clause-at_most
returns-else-completed-total-clause-at_most c =
    let most = half_up-le (1000 * c.from-completed.result) c.from-total.result 1000 (omega (arith, c.requires)) (omega (arith, c.requires)) in
    omega (arith, most, c.nearest_whole.ensures.value)
