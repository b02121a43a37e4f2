use Rattle.std.proofs.Common.{◌≡◌, suc, ◌≤◌, ◌^◌, pos, negsuc, ◌≤ℤ◌, ◌*ℤ◌, unsigned_abs, ℤ, FitsSigned, to_z, of_z, w64, arith, lit<, ap, ◌∙◌}
use Rattle.std.specs.Int.{w128}
use Rattle.std.proofs.lemmas.Int.{ints, to_z-of_z, fits_signed_mul}
use Rattle.aid_types.specs.Nearest.{nearest as nearest_of, share as share_of}
use Rattle.aid_types.proofs.NearestLemmas.{share-le, share-not_above}
use Rattle.aid_types.proofs.share.Goals as goal

widened : (z : ℤ) → FitsSigned w64 z → to_z w128 (of_z w128 (to_z w64 (of_z w64 z))) ≡ z
widened z f = omega (arith, ints)

-- the product of an amount and a rate is the code's
product : (a r : ℤ) → FitsSigned w64 a → FitsSigned w64 r → pos 0 ≤ℤ r → r ≤ℤ pos 10000
    → to_z w128 (of_z w128 (to_z w128 (of_z w128 (to_z w64 (of_z w64 a))) *ℤ to_z w128 (of_z w128 (to_z w64 (of_z w64 r))))) ≡ a *ℤ r
product a r fa fr low high =
    let ea = widened a fa in
    let er = widened r fr in
    rw (ea, er) (to_z-of_z w128 (a *ℤ r) (fits_signed_mul w128 a r (2 ^ 63) 10000 (omega (arith, ints)) (omega (arith, ints)) (lit< tt)))

value_is : (a r q : ℤ) → FitsSigned w64 a → FitsSigned w64 r → pos 0 ≤ℤ r → r ≤ℤ pos 10000
    → q ≡ nearest_of (to_z w128 (of_z w128 (to_z w128 (of_z w128 (to_z w64 (of_z w64 a))) *ℤ to_z w128 (of_z w128 (to_z w64 (of_z w64 r)))))) 10000
    → q ≡ share_of a r
value_is a r q fa fr low high e = e ∙ ap (λ z. nearest_of z 10000) (product a r fa fr low high)

-- a share fits where its amount does
record Fits (a q : ℤ) : Type 0 where
  fits : FitsSigned w64 q
  no_greater : unsigned_abs q ≤ unsigned_abs a

share-fits : (a r q : ℤ) → FitsSigned w64 a → pos 0 ≤ℤ r → r ≤ℤ pos 10000 → q ≡ share_of a r → Fits a q
share-fits (pos n) r q f low high e =
    let le : unsigned_abs q ≤ n = rw e (share-le (pos n) r low high) in
    record { fits = omega (arith, ints); no_greater = le }
share-fits (negsuc n) r q f low high e =
    let le : unsigned_abs q ≤ suc n = rw e (share-le (negsuc n) r low high) in
    let below : q ≤ℤ pos 0 = rw e (share-not_above (negsuc n) r (omega (arith, ints)) low) in
    record { fits = omega (arith, ints); no_greater = le }

pub overflow_cast-result : goal.overflow_cast-result
overflow_cast-result c =
    let e = value_is c.args.amount c.args.rate c.nearest.result c.ranges.amount c.ranges.rate c.requires.not_negative c.requires.at_most_all c.nearest.ensures.value in
    let x = share-fits c.args.amount c.args.rate c.nearest.result c.ranges.amount c.requires.not_negative c.requires.at_most_all e in
    rw (to_z-of_z w128 c.nearest.result (omega (arith, ints, x.fits))) x.fits

pub returns : goal.returns
returns c =
    let e = value_is c.args.amount c.args.rate c.nearest.result c.ranges.amount c.ranges.rate c.requires.not_negative c.requires.at_most_all c.nearest.ensures.value in
    let x = share-fits c.args.amount c.args.rate c.nearest.result c.ranges.amount c.requires.not_negative c.requires.at_most_all e in
    let same : to_z w64 (of_z w64 (to_z w128 (of_z w128 c.nearest.result))) ≡ c.nearest.result = omega (arith, ints, x.fits) in
    record { value = same ∙ e; no_greater = rw same x.no_greater }
