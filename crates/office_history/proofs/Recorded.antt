-- What was told of a filing at its admission is what the history tells later.
use Rattle.std.proofs.Common.{◌≡◌, ℕ, zero, suc, ◌+◌, ◌-◌, ◌≤◌, refl, sym, ap, ◌∙◌, arith, Bool, true, false, List, [], ◌∷◌, ◌++◌, length, drop, length-append, add-one}
use Rattle.aid_filings.specs.declared.filing.Filing.{Filing}
use Rattle.aid_filings.specs.declared.reply.Response.TheVariants.{Again}
use Rattle.aid_filings.specs.contracts.filing.FilingEq.TheImpl.Laws as filing_laws
use Rattle.office_history.specs.Past.{same_filing, first_of_two, filing_at}
use Rattle.office_history.specs.Answer.{IsLegal, outcome_of, outcome_of_newest, outcome_at, answer_of, answer_at}
use Rattle.office_history.proofs.Legal.{filing_at-new}

pub same_itself : (f : Filing) → same_filing f f ≡ true
same_itself f = (filing_laws.lawful).laws.refl f

-- a position stays where a later filing comes
kept : (b : Bool) (k n m : ℕ) → k ≡ n + 1 → first_of_two b k m ≡ n + 1
kept false k n m e = e
kept true zero n m e = absurd (omega arith)
kept true (suc k) n m e = e

-- in a legal history a filing's position is one past those before it
position_stays : (newer past : List Filing) (f : Filing) → IsLegal (newer ++ f ∷ past) → filing_at f (newer ++ f ∷ past) ≡ length past + 1
position_stays [] past f h =
    let none : filing_at f past ≡ 0 = filing_at-new past f h.1 in
    rw (same_itself f, none) refl
position_stays (g ∷ newer) past f h =
    kept (same_filing f g) (filing_at f (newer ++ f ∷ past)) (length past) (length (newer ++ f ∷ past) + 1) (position_stays newer past f h.0)

-- what stood before it and itself
skipped : (newer past : List Filing) (f : Filing) → drop (length (newer ++ f ∷ past) - (length past + 1)) (newer ++ f ∷ past) ≡ f ∷ past
skipped newer past f =
    let e : length (newer ++ f ∷ past) - (length past + 1) ≡ length newer =
    let k : length (newer ++ f ∷ past) ≡ length newer + length (f ∷ past) = length-append newer (f ∷ past) in omega arith in
    rw e (after newer)
  where
    after : (xs : List Filing) → drop (length xs) (xs ++ f ∷ past) ≡ f ∷ past
    after [] = refl
    after (x ∷ xs) = after xs

-- the outcome at a filing's position is the outcome of its admission
pub outcome_at-stays : (newer past : List Filing) (f : Filing) → outcome_at (newer ++ f ∷ past) (length past + 1) ≡ outcome_of past f
outcome_at-stays newer past f = ap outcome_of_newest (skipped newer past f)

-- the outcome at a position of an older history stays
pub outcome_at-older : (newer past : List Filing) (position : ℕ) → position ≤ length past → outcome_at (newer ++ past) position ≡ outcome_at past position
outcome_at-older newer past position below =
    let e : length (newer ++ past) - position ≡ length newer + (length past - position) = let k : length (newer ++ past) ≡ length newer + length past = length-append newer past in omega arith in
    ap outcome_of_newest (ap (λ (n : ℕ). drop n (newer ++ past)) e ∙ after newer)
  where
    after : (xs : List Filing) → drop (length xs + (length past - position)) (xs ++ past) ≡ drop (length past - position) past
    after [] = let e : length {A = Filing} [] + (length past - position) ≡ length past - position = omega arith in rw e refl
    after (x ∷ xs) =
        let e : length (x ∷ xs) + (length past - position) ≡ suc (length xs + (length past - position)) = omega arith in
        rw e (after xs)

-- a repeated filing is answered by its position and the outcome of its admission
pub answer_of-repeated : (newer past : List Filing) (f : Filing) → IsLegal (newer ++ f ∷ past) →
    answer_of (newer ++ f ∷ past) f ≡ Again (length past + 1) (outcome_of past f)
answer_of-repeated newer past f h =
    ap (answer_at (newer ++ f ∷ past) f) (position_stays newer past f h ∙ add-one (length past))
    ∙ ap (λ (n : ℕ). Again n (outcome_at (newer ++ f ∷ past) n)) (sym (add-one (length past)))
    ∙ ap (λ o. Again (length past + 1) o) (outcome_at-stays newer past f)
