-- What a policy is asked of a candidate is in its ranges.
use Rattle.std.proofs.Common.{ℕ, ◌*◌, ◌≤◌, ◌<◌, arith, ℤ, w32, SFits}
use Rattle.std.proofs.lemmas.Int.{ints}
use Rattle.aid_types.specs.Nearest.{half_up}
use Rattle.aid_types.proofs.NearestLemmas.{half_up-most}
use Rattle.aid_types.specs.Ranges.{IsBetween, IsIndex}
use Rattle.law_terms.specs.Terms.{intensity_of}

-- an index fits 32 bits
pub index_in_32 : (z : ℤ) → IsIndex z → SFits w32 z
index_in_32 z h = let low = h.0 in let high = h.1 in omega (arith, ints)

-- the intensity of credits above 0 is above 0
pub intensity_fits : (credits full : ℕ) → 0 < credits → IsBetween 1 40 full → IsBetween 1 100 (intensity_of credits full)
unfolding intensity_of
intensity_fits credits full some fits =
    let more : 1 ≤ half_up (100 * credits) full = half_up-most (100 * credits) full 1 (omega (arith, fits.0)) (omega (arith, fits.1)) in
    (omega arith, omega arith)
