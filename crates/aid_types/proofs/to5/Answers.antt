use Rattle.std.proofs.Common.{◌≡◌, ℤ, FitsSigned, to_z, of_z, w64, arith}
use Rattle.std.specs.Int.{w128}
use Rattle.std.proofs.lemmas.Int.{ints}
use Rattle.aid_types.specs.Nearest.{nearest as nearest_of}
use Rattle.aid_types.proofs.to5.Goals as goal

value_is : (a q : ℤ) → FitsSigned w64 a → q ≡ nearest_of (to_z w128 (of_z w128 (to_z w64 (of_z w64 a)))) 5 → q ≡ nearest_of a 5
value_is a q f e = let widened : to_z w128 (of_z w128 (to_z w64 (of_z w64 a))) ≡ a = omega (arith, ints) in rw widened at e

pub returns : goal.returns
returns c =
    let e = value_is c.args.a c.nearest.result c.ranges.a c.nearest.ensures.value in
    record { value = omega (arith, ints) }
