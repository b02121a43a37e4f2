-- A filing that stands in a legal history is answered by its position and the outcome of its admission.
use Rattle.std.proofs.Common.{◌≡◌, ℕ, zero, suc, ◌+◌, ◌<◌, ◌∷◌, ◌++◌, sym, ap, subst, ◌∙◌, arith, List, length, reverse, take, drop, Some}
use Rattle.std.specs.List.{slice_get}
use Rattle.std.proofs.lemmas.List.{length-reverse, length-take-le, reverse-reverse}
use Rattle.std.proofs.lemmas.Option.{get_or_from_slice_get, none-some, slice_get_within}
use Rattle.aid_filings.specs.declared.filing.Filing.{Filing}
use Rattle.aid_filings.specs.declared.reply.Response.TheVariants.{Again}
use Rattle.office_history.specs.Answer.{IsLegal, answer_of, outcome_at}
use Rattle.office_history.proofs.Oldest.{reverse-at}
use Rattle.office_history.proofs.Recorded.{answer_of-repeated, outcome_at-stays}
use Rattle.office_history.specs.Rows.{filing_in}

-- the filing at an index of the list, which is read oldest first
pub standing_at : (h : List Filing) (i : ℕ) (f : Filing) → IsLegal (reverse h) → slice_get h i ≡ Some f → answer_of (reverse h) f ≡ Again (suc i) (outcome_at (reverse h) (suc i))
standing_at h i f legal at =
    let lt : i < length h = slice_get_within h i f at in
    let newer = reverse (drop (suc i) h) in
    let past = reverse (take i h) in
    let split : reverse h ≡ newer ++ f ∷ past = reverse-at h i f lt ∙ ap (λ (g : Filing). newer ++ g ∷ past) (get_or_from_slice_get h i f f at) in
    let size : length past + 1 ≡ suc i = omega (arith, length-reverse (take i h), length-take-le i h (omega arith)) in
    let whole : IsLegal (newer ++ f ∷ past) = subst IsLegal split legal in
    subst (λ (l : List Filing). answer_of l f ≡ Again (suc i) (outcome_at l (suc i))) (sym split)
    (subst (λ (n : ℕ). answer_of (newer ++ f ∷ past) f ≡ Again n (outcome_at (newer ++ f ∷ past) n)) size
    (answer_of-repeated newer past f whole ∙ ap (λ o. Again (length past + 1) o) (sym (outcome_at-stays newer past f))))

pub standing : (past : List Filing) (position : ℕ) (f : Filing) → IsLegal past → filing_in past position ≡ Some f → answer_of past f ≡ Again position (outcome_at past position)
standing past zero f legal at = absurd (none-some f at)
standing past (suc i) f legal at =
    subst (λ (l : List Filing). answer_of l f ≡ Again (suc i) (outcome_at l (suc i))) (reverse-reverse past)
    (standing_at (reverse past) i f (subst IsLegal (sym (reverse-reverse past)) legal) at)
