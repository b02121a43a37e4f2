-- The plain test and the numbered rules come to the same, filing by filing and of a whole history.
use Rattle.std.proofs.Common.{◌≡◌, ◌≢◌, ◌↔◌, true, false, List, [], ◌∷◌, All, Option, Some, None, refl, ap, sym, ◌∙◌}
use Rattle.std.specs.Prelude.{is_none}
use Rattle.std.proofs.lemmas.Bool.{both_ways, false_from_ne_true}
use Rattle.std.proofs.lemmas.List.Elements.{All-weaker}
use Rattle.aid_types.proofs.Same.{tells_key}
use Rattle.aid_types.specs.declared.award.Refusal.{Refusal}
use Rattle.aid_types.specs.declared.number.Key.{Key}
use Rattle.aid_filings.specs.declared.filing.Filing.{Filing}
use Rattle.office_history.specs.Answer.{IsLegal, breaks}
use Rattle.office_history.specs.Past.{key_at, same_key}
use Rattle.office_history.specs.Rules.{rules_of}
use Rattle.office_history.proofs.FirstFilings.{none_first, skipped}
use Rattle.office_history.proofs.TermsOnFile.{coded_terms}
use Rattle.run_claims.specs.Rules.{AreAdmitted, may_follow}
use Rattle.run_claims.proofs.ByKind.{kind_is}
use Rattle.run_claims.proofs.Lines.{none_broken_is}

-- on a legal history a filing may follow exactly where it breaks no rule
pub may_follow_is : (past : List Filing) (f : Filing) → IsLegal past → may_follow past f ≡ is_none (breaks past f)
may_follow_is past f legal = kind_is past f.key f.what (coded_terms past legal) ∙ sym (none_broken_is (rules_of past f.key f.what))

-- a key has no place exactly where each filing has another
pub keys_differ : (key : Key) (past : List Filing) → (key_at key past ≡ 0) ↔ All (λ g. g.key ≢ key) past
keys_differ key past = (
  λ h. All-weaker (λ g. same_key key g.key ≡ false) (λ g. g.key ≢ key) apart past (skipped (λ g. same_key key g.key) past h),
  λ h. none_first (λ g. same_key key g.key) past (All-weaker (λ g. g.key ≢ key) (λ g. same_key key g.key ≡ false) other past h),
)
  where
    apart : (g : Filing) → same_key key g.key ≡ false → g.key ≢ key
    apart g h e = both_ways (same_key key g.key) h (ap (same_key key) e ∙ tells_key.told key)

    other : (g : Filing) → g.key ≢ key → same_key key g.key ≡ false
    other g h = false_from_ne_true (same_key key g.key) (λ e. h (sym (tells_key.same key g.key e)))

nothing : (o : Option Refusal) → is_none o ≡ true → o ≡ None
nothing None h = refl
nothing (Some r) h = absurd (let bad : ⊥ = cc in bad)

-- a history that the plain test admits is legal, and the other way round
pub admitted_legal : (past : List Filing) → AreAdmitted past → IsLegal past
admitted_legal [] h = tt
admitted_legal (f ∷ past) h =
    let legal : IsLegal past = admitted_legal past h.0 in
    (legal, (keys_differ f.key past).1 h.1, nothing (breaks past f) (sym (may_follow_is past f legal) ∙ h.2))

pub legal_admitted : (past : List Filing) → IsLegal past → AreAdmitted past
legal_admitted [] h = tt
legal_admitted (f ∷ past) h =
    (legal_admitted past h.0, (keys_differ f.key past).0 h.1, may_follow_is past f h.0 ∙ ap (λ (o : Option Refusal). is_none o) h.2)
