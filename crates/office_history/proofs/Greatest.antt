-- No Scheduled Award is above 100,000 dollars.
use Rattle.std.proofs.Common.{◌≡◌, refl, subst, ◌≤◌, inl, inr, ℕ, ℤ, pos, ◌≤ℤ◌, arith}
use Rattle.std.proofs.lemmas.Int.{ints, clamps}
use Rattle.std.specs.Int.{int_max}
use Rattle.aid_types.specs.Nearest.{half_up, to5}
use Rattle.aid_books.specs.declared.book.PellFigures.{PellFigures}
use Rattle.law_sai.proofs.NearestOrder.{to5-rises}
use Rattle.law_pell.specs.Award.{IsScheduledAward}

max_at_most : (a b most : ℤ) → a ≤ℤ most → b ≤ℤ most → int_max a b ≤ℤ most
max_at_most a b most h k = omega (arith, ints, clamps)

greatest : to5 (pos 99999) ≡ pos 100000
unfolding half_up
greatest = refl

pub award_at_most : (pell : PellFigures) (n : ℕ) → IsScheduledAward pell n → n ≤ 100000
award_at_most pell n (inl e) = omega arith
award_at_most pell n (inr d) =
    let top : to5 pell.maximum ≤ℤ to5 (pos 99999) = to5-rises pell.maximum (pos 99999) pell.maximum_in_range.1 in
    let most = max_at_most pell.maximum (to5 pell.maximum) (pos 100000) (omega (arith, ints, pell.maximum_in_range.1)) (subst (λ (z : ℤ). to5 pell.maximum ≤ℤ z) greatest top) in
    let below = d.1 in omega (arith, ints)
