use Rattle.std.proofs.Common.{◌≤◌, ◌*◌, arith}
use Rattle.std.proofs.Math.Nat.{mul-le-mul}
use Rattle.aid_types.proofs.NearestLemmas.{half_up-le}
use Rattle.law_terms.proofs.terms.period_pay.Goals as goal

pub returns-clause-at_most : goal.returns-clause-at_most
returns-clause-at_most c =
    let part : c.from-2.result ≤ 100 * c.from-3.result = omega (arith, c.requires.intensity, c.requires.terms) in
    let award : c.from.result ≤ c.args.scheduled = omega arith in
    let most = half_up-le (c.from.result * c.from-2.result) (100 * c.from-3.result) c.args.scheduled (omega (arith, c.requires.terms)) (mul-le-mul award part) in
    omega (arith, most, c.nearest_whole.ensures.value)
