-- The filing at an index of a legal list, after those before it.
use Rattle.std.proofs.Common.{◌≡◌, ℕ, suc, ◌+◌, ◌<◌, ◌∷◌, ◌++◌, sym, ap, subst, ◌∙◌, arith, List, length, reverse, take, drop, get_or}
use Rattle.std.proofs.lemmas.List.{length-reverse, length-take-le}
use Rattle.aid_filings.specs.declared.filing.Filing.{Filing}
use Rattle.office_history.specs.Answer.{outcome_at, outcome_of}
use Rattle.office_history.proofs.Oldest.{reverse-at}
use Rattle.office_history.proofs.Recorded.{outcome_at-stays}

-- what the list tells of its admission is what was told then
pub outcome_at-index : (h : List Filing) (i : ℕ) (f : Filing) → i < length h → f ≡ get_or h i f → outcome_at (reverse h) (i + 1) ≡ outcome_of (reverse (take i h)) f
outcome_at-index h i f lt is =
    let newer = reverse (drop (suc i) h) in
    let past = reverse (take i h) in
    let split : reverse h ≡ newer ++ f ∷ past = reverse-at h i f lt ∙ ap (λ (g : Filing). newer ++ g ∷ past) (sym is) in
    let size : length past + 1 ≡ i + 1 = omega (arith, length-reverse (take i h), length-take-le i h (omega arith)) in
    ap (λ (l : List Filing). outcome_at l (i + 1)) split
    ∙ subst (λ (n : ℕ). outcome_at (newer ++ f ∷ past) n ≡ outcome_of past f) size (outcome_at-stays newer past f)
