-- What an answer tells of the filing that was asked.
use Rattle.std.proofs.Common.{◌≡◌, ℕ, zero, suc, refl, sym, ap, subst, ◌∙◌, List, Option, Some, None}
use Rattle.std.specs.Prelude.{is_none}
use Rattle.aid_types.specs.declared.award.Refusal.{Refusal}
use Rattle.aid_types.proofs.Same.{tells_key}
use Rattle.aid_filings.specs.declared.filing.Filing.{Filing}
use Rattle.aid_filings.specs.declared.reply.Outcome.{Outcome}
use Rattle.aid_filings.specs.declared.reply.Response.TheVariants.{Again, Refused}
use Rattle.office_history.specs.Answer.{IsLegal, answer_at, answer_new, answer_of, breaks, is_admit, judged}
use Rattle.office_history.specs.Past.{filing_at, key_at, same_key}
use Rattle.office_history.proofs.Cases.{answer_of-new}
use Rattle.office_history.proofs.Legal.{filing_at-new}
use Rattle.office_history.specs.Rows.{filing_in}
use Rattle.office_index.specs.Register.{IsKeyUsedAt}
use Rattle.office_index.proofs.Found.{filing_found, found}
use Rattle.office_index.proofs.OtherRules.{other_rule}
use Rattle.office_index.proofs.StandingLemmas.{standing}

-- a filing that is judged is not answered by a position
judged_apart : (past : List Filing) (f : Filing) (o : Option Refusal) (position : ℕ) (outcome : Outcome) → judged past f o ≡ Again position outcome → ⊥
judged_apart past f None position outcome e = cc
judged_apart past f (Some r) position outcome e = cc

new_apart : (past : List Filing) (f : Filing) (k position : ℕ) (outcome : Outcome) → answer_new past f k ≡ Again position outcome → ⊥
new_apart past f zero position outcome e = judged_apart past f (breaks past f) position outcome e
new_apart past f (suc n) position outcome e = cc

-- a position is told only where the filing stands there
pub stands_there : (past : List Filing) (f : Filing) (position : ℕ) (outcome : Outcome) → answer_of past f ≡ Again position outcome → filing_in past position ≡ Some f
stands_there past f position outcome e = go (filing_at f past) refl e
  where
    go : (n : ℕ) → filing_at f past ≡ n → answer_at past f n ≡ Again position outcome → filing_in past position ≡ Some f
    go zero at e = absurd (new_apart past f (key_at f.key past) position outcome e)
    go (suc n) at e =
        let same : suc n ≡ position = cc in
        subst (λ (p : ℕ). filing_in past p ≡ Some f) same (filing_found past f n at)

-- a filing that is judged is refused by a rule of its kind
judged_other : (past : List Filing) (f : Filing) (o : Option Refusal) (r : Refusal) → breaks past f ≡ o → judged past f o ≡ Refused r → r.rule ≡ 15 → ⊥
judged_other past f None r e h fifteen = cc
judged_other past f (Some s) r e h fifteen =
    let same : s ≡ r = cc in
    other_rule past f r (e ∙ ap (λ (x : Refusal). Some x) same) fifteen

-- rule 15 is told only where another filing has the key
pub used_there : (past : List Filing) (f : Filing) (r : Refusal) → IsLegal past → answer_of past f ≡ Refused r → r.rule ≡ 15 →
    IsKeyUsedAt past r.kept f × (r.bound ≡ f.key.number)
used_there past f r legal e fifteen = at_position (filing_at f past) refl e
  where
    told : (n : ℕ) → key_at f.key past ≡ suc n → IsKeyUsedAt past (suc n) f
    told n at =
        let w = found (λ g. same_key f.key g.key) past n at in
        let key : f.key ≡ w.0.key = tells_key.same f.key w.0.key w.2 in (
          w.0,
          w.1,
          sym key,
          λ same.
              let again = standing past (suc n) f legal (w.1 ∙ ap (λ (g : Filing). Some g) same) in
              let bad : ⊥ = cc (again, e) in
              bad,
        )

    at_key : (n : ℕ) → key_at f.key past ≡ n → answer_new past f n ≡ Refused r → IsKeyUsedAt past r.kept f × (r.bound ≡ f.key.number)
    at_key zero at e = absurd (judged_other past f (breaks past f) r refl e fifteen)
    at_key (suc n) at e =
        let same : record { rule = 15; kept = suc n; bound = f.key.number } ≡ r = cc in
        (subst (λ (p : ℕ). IsKeyUsedAt past p f) (ap (λ (x : Refusal). x.kept) same) (told n at), sym (ap (λ (x : Refusal). x.bound) same))

    at_position : (n : ℕ) → filing_at f past ≡ n → answer_at past f n ≡ Refused r → IsKeyUsedAt past r.kept f × (r.bound ≡ f.key.number)
    at_position zero at e = at_key (key_at f.key past) refl e
    at_position (suc n) at e = absurd (let bad : ⊥ = cc in bad)

-- a filing with a new key is judged by the rules of its kind
pub judged_new : (past : List Filing) (f : Filing) (o : Option Refusal) → key_at f.key past ≡ 0 → breaks past f ≡ o → answer_of past f ≡ judged past f o
judged_new past f o new e = answer_of-new past f (filing_at-new past f new) new ∙ ap (judged past f) e

-- it is admitted just where it breaks none
judged_none : (past : List Filing) (f : Filing) (o : Option Refusal) → is_admit (judged past f o) ≡ is_none o
judged_none past f None = refl
judged_none past f (Some r) = refl

pub admitted_new : (past : List Filing) (f : Filing) → key_at f.key past ≡ 0 → is_admit (answer_of past f) ≡ is_none (breaks past f)
admitted_new past f new = ap is_admit (judged_new past f (breaks past f) new refl) ∙ judged_none past f (breaks past f)
