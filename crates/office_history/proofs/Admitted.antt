-- A filing that is admitted leaves a legal history, and one that isn't wouldn't.
use Rattle.std.proofs.Common.{◌≡◌, ℕ, zero, suc, refl, true, false, List, ◌∷◌, [], Option, Some, None}
use Rattle.aid_filings.specs.declared.filing.Filing.{Filing}
use Rattle.aid_types.specs.declared.award.Refusal.{Refusal}
use Rattle.aid_filings.specs.declared.reply.Response.TheVariants.{Admit}
use Rattle.office_history.specs.Past.{key_at, filing_at}
use Rattle.office_history.specs.Answer.{IsLegal, answer_of, answer_at, answer_new, judged, breaks, is_admit, outcome_of}
use Rattle.office_history.proofs.Legal.{legal_admitted}

stands_nowhere : (past : List Filing) (f : Filing) (p : ℕ) → is_admit (answer_at past f p) ≡ true → is_admit (answer_new past f (key_at f.key past)) ≡ true
stands_nowhere past f zero h = h
stands_nowhere past f (suc n) h = absurd (let bad : ⊥ = cc in bad)

has_new_key : (past : List Filing) (f : Filing) (k : ℕ) → is_admit (answer_new past f k) ≡ true → (k ≡ 0) × (is_admit (judged past f (breaks past f)) ≡ true)
has_new_key past f zero h = (refl, h)
has_new_key past f (suc n) h = absurd (let bad : ⊥ = cc in bad)

breaks_none : (past : List Filing) (f : Filing) (r : Option Refusal) → is_admit (judged past f r) ≡ true → r ≡ None
breaks_none past f None h = refl
breaks_none past f (Some r) h = absurd (let bad : ⊥ = cc in bad)

-- a filing that is admitted leaves a legal history
pub admitted_legal : (past : List Filing) (f : Filing) → IsLegal past → is_admit (answer_of past f) ≡ true → IsLegal (f ∷ past)
admitted_legal past f legal h =
    let key = has_new_key past f (key_at f.key past) (stands_nowhere past f (filing_at f past) h) in
    (legal, key.0, breaks_none past f (breaks past f) key.1)

-- a filing that isn't admitted wouldn't
pub refused_illegal : (past : List Filing) (f : Filing) → is_admit (answer_of past f) ≡ false → IsLegal (f ∷ past) → ⊥
refused_illegal past f h legal = let admitted = legal_admitted [] past f legal in cc (h, admitted)

-- one that is admitted is answered by its outcome
admitted_new : (past : List Filing) (f : Filing) (r : Option Refusal) → is_admit (judged past f r) ≡ true → judged past f r ≡ Admit (outcome_of past f)
admitted_new past f None h = refl
admitted_new past f (Some r) h = absurd (let bad : ⊥ = cc in bad)

admitted_key : (past : List Filing) (f : Filing) (k : ℕ) → is_admit (answer_new past f k) ≡ true → answer_new past f k ≡ Admit (outcome_of past f)
admitted_key past f zero h = admitted_new past f (breaks past f) h
admitted_key past f (suc n) h = absurd (let bad : ⊥ = cc in bad)

admitted_at : (past : List Filing) (f : Filing) (p : ℕ) → is_admit (answer_at past f p) ≡ true → answer_at past f p ≡ Admit (outcome_of past f)
admitted_at past f zero h = admitted_key past f (key_at f.key past) h
admitted_at past f (suc n) h = absurd (let bad : ⊥ = cc in bad)

pub admitted_is : (past : List Filing) (f : Filing) → is_admit (answer_of past f) ≡ true → answer_of past f ≡ Admit (outcome_of past f)
admitted_is past f h = admitted_at past f (filing_at f past) h
