-- A term holds no payment where the student isn't enrolled.
use Rattle.std.proofs.Common.{◌≡◌, ℕ, ◌*◌, ap, ◌∙◌, min, arith}
use Rattle.aid_types.specs.Nearest.{half_up}
use Rattle.law_terms.specs.Terms.{intensity_of, payment_of}
use Rattle.office_history.proofs.Numbers.{nearest_none}

no_intensity : (full : ℕ) → intensity_of 0 full ≡ 0
unfolding intensity_of
no_intensity full = ap (min 100) (nearest_none full)

no_payment : (award terms : ℕ) → payment_of award 0 terms ≡ 0
unfolding payment_of
no_payment award terms = let zero : award * 0 ≡ 0 = omega arith in ap (λ (n : ℕ). half_up n (100 * terms)) zero ∙ nearest_none (100 * terms)

pub no_credits : (award full terms : ℕ) → payment_of award (intensity_of 0 full) terms ≡ 0
no_credits award full terms = ap (λ (n : ℕ). payment_of award n terms) (no_intensity full) ∙ no_payment award terms
