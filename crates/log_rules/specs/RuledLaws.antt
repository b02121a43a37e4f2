-- What holds of every list of filings by rules as the docket of a kept list.
use Rattle.std.proofs.Common.{◌≡◌, ℕ, ◌<◌, ◌≤◌, refl, ap, subst, ◌∙◌, arith, Bool, true, false, IsTrue, List, [], ◌∷◌, length, Option, Some, None}
use Rattle.std.specs.Prelude.{if◌then◌else◌, is_some}
use Rattle.aid_types.specs.declared.award.Refusal.{Refusal}
use Rattle.log_rules.specs.Ruling.{Ruling}
use Rattle.log_rules.specs.Ruled.{IsLegal, Standing, added_of, answer_at, answer_of, by_rules, is_admit, judged, standing_of, verdict_of}
use Rattle.log_rules.specs.declared.response.RuleResponse.{RuleResponse}
use Rattle.log_rules.specs.declared.response.RuleResponse.TheVariants.{Again, Refused, Admit}
use Rattle.aid_types.specs.Limits.{most_desk_filings}

-- what stands there already is not admitted
again_or_refused : {Outcome : Type 0} (b : Bool) (position : ℕ) (outcome : Outcome) (refusal : Refusal) (o : Outcome) → (if b then Again position outcome else Refused refusal) ≡ Admit o → ⊥
again_or_refused true position outcome refusal o h = cc
again_or_refused false position outcome refusal o h = cc

module _ {Entry Outcome : Type 0} (ruling : Ruling Entry Outcome) (past : List Entry) (f : Entry) where
  -- what an answer that admits says
  by_key : (o : Outcome) (s : Option (Standing Entry Outcome)) → answer_at ruling past f s ≡ Admit o → (s ≡ None) × (verdict_of (judged ruling past f) ≡ Admit o)
  by_key o None h = (refl, h)
  by_key o (Some s) h = absurd (again_or_refused (ruling.is_same f s.filing) s.position s.outcome (record { rule = 15; kept = s.position; bound = (ruling.key_of f).number }) o h)

  by_breaks : (o : Outcome) (b : Option Refusal) → verdict_of (by_rules (ruling.outcome past f) b) ≡ Admit o → (b ≡ None) × (o ≡ ruling.outcome past f)
  by_breaks o None h = (refl, cc)
  by_breaks o (Some refusal) h = absurd (let bad : ⊥ = cc in bad)

  pub admitted_parts : (o : Outcome) → answer_of ruling past f ≡ Admit o → (standing_of ruling (ruling.key_of f) past ≡ None) × (ruling.breaks past f ≡ None) × (o ≡ ruling.outcome past f)
  admitted_parts o h =
      let new = by_key o (standing_of ruling (ruling.key_of f) past) h in
      let free = by_breaks o (ruling.breaks past f) new.1 in
      (new.0, free.0, free.1)

  admit_is : (v : RuleResponse Outcome) → is_admit v ≡ true → (o : Outcome) × (v ≡ Admit o)
  admit_is (Again position outcome) h = absurd (let bad : ⊥ = cc in bad)
  admit_is (Refused refusal) h = absurd (let bad : ⊥ = cc in bad)
  admit_is (Admit outcome) h = (outcome, refl)

  -- admission keeps legality, and no other filing does
  pub admitted_legal : IsLegal ruling past → IsTrue (is_admit (answer_of ruling past f)) → IsLegal ruling (f ∷ past)
  admitted_legal legal is =
      let told = admit_is (answer_of ruling past f) is in
      let parts = admitted_parts told.0 told.1 in
      (legal, parts.0, parts.1)

  new_admitted : (s : Option (Standing Entry Outcome)) (b : Option Refusal) → standing_of ruling (ruling.key_of f) past ≡ s → ruling.breaks past f ≡ b → s ≡ None → b ≡ None → is_admit (answer_of ruling past f) ≡ true
  new_admitted s b has does new free =
      ap (λ (s : Option (Standing Entry Outcome)). is_admit (answer_at ruling past f s)) (has ∙ new)
      ∙ ap (λ (b : Option Refusal). is_admit (verdict_of (by_rules (ruling.outcome past f) b))) (does ∙ free)

  pub legal_admitted : IsLegal ruling (f ∷ past) → IsTrue (is_admit (answer_of ruling past f))
  legal_admitted legal = new_admitted (standing_of ruling (ruling.key_of f) past) (ruling.breaks past f) refl refl legal.1 legal.2

  pub legal_past : IsLegal ruling (f ∷ past) → IsLegal ruling past
  legal_past legal = legal.0

-- what an ask adds may follow
pub added_admitted : {Entry Outcome : Type 0} (ruling : Ruling Entry Outcome) (past : List Entry) (operation f : Entry) → added_of ruling past operation ≡ Some f → IsTrue (is_admit (answer_of ruling past f))
added_admitted {Entry} ruling past operation f is = go (is_admit (answer_of ruling past operation)) refl is
  where
    go : (b : Bool) → is_admit (answer_of ruling past operation) ≡ b → (if b then Some operation else None) ≡ Some f → IsTrue (is_admit (answer_of ruling past f))
    go true is same = let one : operation ≡ f = cc in subst (λ (g : Entry). IsTrue (is_admit (answer_of ruling past g))) one is
    go false is same = absurd (let bad : ⊥ = cc in bad)

-- a full list takes no more
abbrev pub IsFull : {Entry Outcome : Type 0} → Ruling Entry Outcome → Type 0
IsFull {Entry} ruling = (past : List Entry) (f : Entry) → ruling.breaks past f ≡ None → length past < most_desk_filings

-- so a legal list has at most 200,000 filings
pub legal_few : {Entry Outcome : Type 0} (ruling : Ruling Entry Outcome) → IsFull ruling → (past : List Entry) → IsLegal ruling past → length past ≤ 200000
legal_few ruling full [] legal = omega arith
legal_few ruling full (f ∷ past) legal = let few = full past f legal.2 in omega arith

-- what an ask adds is the ask
pub own_added : {Entry Outcome : Type 0} (ruling : Ruling Entry Outcome) (past : List Entry) (operation f : Entry) → added_of ruling past operation ≡ Some f → Some operation ≡ Some f
own_added ruling past operation f is = go (is_admit (answer_of ruling past operation)) is
  where
    go : (b : Bool) → (if b then Some operation else None) ≡ Some f → Some operation ≡ Some f
    go true same = same
    go false same = absurd (let bad : ⊥ = cc in bad)

pub adds_added : {Entry Outcome : Type 0} (ruling : Ruling Entry Outcome) (past : List Entry) (operation : Entry) → is_admit (answer_of ruling past operation) ≡ is_some (added_of ruling past operation)
adds_added {Entry} ruling past operation = go (is_admit (answer_of ruling past operation))
  where
    go : (b : Bool) → b ≡ is_some {T = Entry} (if b then Some operation else None)
    go true = refl
    go false = refl
