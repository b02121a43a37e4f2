use Rattle.std.proofs.Common.{◌*◌, arith}
use Rattle.aid_types.proofs.NearestLemmas.{half_up-le}
use Rattle.law_terms.proofs.units.use_of.Goals as goal

pub overflow_cast-result : goal.overflow_cast-result
overflow_cast-result c =
    let most = half_up-le (c.args.paid * 1000) c.from.result 150000 (omega (arith, c.requires.within, c.if-paid-eq0.false)) (omega (arith, c.requires.within)) in
    omega (arith, most, c.nearest_whole.ensures.value)

pub returns-clause-at_most : goal.returns-clause-at_most
returns-clause-at_most c =
    let most = half_up-le (c.args.paid * 1000) c.from.result 150000 (omega (arith, c.requires.within, c.if-paid-eq0.false)) (omega (arith, c.requires.within)) in
    omega (arith, most, c.nearest_whole.ensures.value)
