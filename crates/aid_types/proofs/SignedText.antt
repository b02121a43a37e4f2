-- Texts of numbers, as a line takes them piece by piece.
use Rattle.std.proofs.Common.{◌≡◌, suc, ◌<◌, ◌^◌, ℤ, pos, negsuc, ◌∷◌, ap, arith}
use Rattle.std.specs.Fmt.{signed_decimal}
use Rattle.std.specs.Int.Signed.{mag}
use Rattle.aid_types.specs.Whole.{whole_text}
use Rattle.aid_types.proofs.WholeLemmas.{decimal-natural_text}

-- std's word for a number that may be negative
pub signed_decimal-whole_text : (z : ℤ) → mag z < 2 ^ 63 → signed_decimal z ≡ whole_text z
signed_decimal-whole_text (pos n) h = decimal-natural_text n (omega (arith, h))
signed_decimal-whole_text (negsuc n) h = ap (λ ds. 45 ∷ ds) (decimal-natural_text (suc n) (omega (arith, h)))
