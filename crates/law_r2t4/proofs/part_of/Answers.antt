use Rattle.std.proofs.Common.{◌*◌, ◌≤◌, arith}
use Rattle.std.proofs.Math.Nat.{mul-le-mul_left}
use Rattle.aid_types.proofs.NearestLemmas.{half_up-le}
use Rattle.law_r2t4.proofs.part_of.Goals as goal

pub returns-clause-at_most : goal.returns-clause-at_most
returns-clause-at_most c =
    let within : c.args.cents * c.from.result ≤ c.args.cents * 1000 = mul-le-mul_left c.args.cents (omega (arith, c.requires.part)) in
    let most = half_up-le (c.args.cents * c.from.result) 1000 c.args.cents (omega arith) within in
    omega (arith, most, c.nearest_whole.ensures.value)
