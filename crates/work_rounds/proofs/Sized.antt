-- An award of a round is of 100 to 4,000 dollars, so rule 213 holds of it.
use Rattle.std.proofs.Common.{◌≡◌, ◌≢◌, ℕ, zero, suc, ◌+◌, refl, sym, subst, ap, ◌∙◌, arith, Bool, true, false, ◌||◌, cond, ◌⊎◌, inl, inr, List, [], ◌∷◌, Option, Some, None, le-ltb}
use Rattle.std.specs.Prelude.{nat_lt}
use Rattle.std.specs.List.{AllByRecursion, Contains}
use Rattle.std.proofs.lemmas.List.Elements.{Contains-append_cases, Contains-push_cases}
use Rattle.aid_types.specs.Ranges.{IsBetween}
use Rattle.aid_types.specs.declared.award.Refusal.{Refusal}
use Rattle.law_funds.specs.Rounds.{AreWithinNeeds}
use Rattle.law_funds.specs.declared.candidate.Candidate.{Candidate}
use Rattle.aid_types.specs.RuleLines.{first_broken, told_by}
use Rattle.aid_types.specs.declared.line.RuleLine.{RuleLine}
use Rattle.work_rounds.specs.Plans.{AreAwarded, IsAwarded}
use Rattle.work_rounds.specs.declared.words.RoundRequest.{RoundRequest}
use Rattle.law_work.specs.declared.filing.DollarFacts.{DollarFacts}
use Rattle.law_work.specs.declared.filing.WorkFiling.{WorkFiling}
use Rattle.law_work.specs.declared.filing.WorkWhat.{WorkWhat}
use Rattle.law_work.specs.declared.filing.WorkWhat.TheVariants.{Award}
use Rattle.law_work.specs.Rules.{breaks, facts_of, is_no_award, kind_lines, rule_210}
use Rattle.law_work.specs.declared.facts.WorkFacts.{WorkFacts}

-- the first of lines of which none with a number is broken has another number
other_rule : (number : ℕ) (lines : List RuleLine) → AllByRecursion (λ line. line.is_broken ≡ true → line.rule ≢ number) lines → (refusal : Refusal) → first_broken lines ≡ Some refusal → refusal.rule ≢ number
other_rule number [] all refusal e = absurd (let bad : ⊥ = cc in bad)
other_rule number (line ∷ lines) all refusal e = go line.is_broken refl e (other_rule number lines all.1 refusal)
  where
    told : (x y : Refusal) → ◌≡◌ {A = Option Refusal} (Some x) (Some y) → x ≡ y
    told x y same = ap (λ (o : Option Refusal). elim o [ Some z ↦ z | None ↦ x ]) same

    go : (b : Bool) → line.is_broken ≡ b → cond b (Some (told_by line)) (first_broken lines) ≡ Some refusal → (first_broken lines ≡ Some refusal → refusal.rule ≢ number) → refusal.rule ≢ number
    go true is same later = λ rule. all.0 is (ap (λ (x : Refusal). x.rule) (told (told_by line) refusal same) ∙ rule)
    go false is same later = later same

-- rule 213 holds of an award in range
fits : (dollars : ℕ) → IsBetween 100 4000 dollars → is_no_award dollars ≡ false
fits dollars h = ap (λ (b : Bool). b || nat_lt 4000 dollars) (le-ltb dollars 100 h.0) ∙ le-ltb 4000 dollars h.1

no_213 : (k : WorkFacts) (school : ℕ) (a : DollarFacts) → IsBetween 100 4000 a.dollars → (refusal : Refusal) → first_broken (rule_210 k.count ∷ kind_lines k school (Award a)) ≡ Some refusal → refusal.rule ≢ 213
no_213 k school a h refusal e =
    other_rule 213 (rule_210 k.count ∷ kind_lines k school (Award a)) (
      λ _ rule. absurd (omega (arith, rule)),
      (
        λ _ rule. absurd (omega (arith, rule)),
        (λ is. absurd (let bad : true ≡ false = sym is ∙ fits a.dollars h in cc), (λ _ rule. absurd (omega (arith, rule)), (λ _ rule. absurd (omega (arith, rule)), tt))),
      ),
    ) refusal e

-- an award of that size
abbrev IsSized : WorkFiling → Type 0
IsSized f = (a : DollarFacts) × (f.what ≡ Award a) × IsBetween 100 4000 a.dollars

sized : (r : RoundRequest) (number student dollars need : ℕ) (f : WorkFiling) → IsAwarded r number student dollars f → IsBetween 100 4000 dollars → IsSized f
sized r number student dollars need f is h = (is.facts, is.what, subst (λ (n : ℕ). IsBetween 100 4000 n) (sym is.amount) h)

tail_same : (x y : ℕ) (xs ys : List ℕ) → x ∷ xs ≡ y ∷ ys → xs ≡ ys
tail_same x y xs ys e = ap (λ (l : List ℕ). elim l [ [] ↦ xs | z ∷ zs ↦ zs ]) e

first_same : (x y : ℕ) (xs ys : List ℕ) → x ∷ xs ≡ y ∷ ys → x ≡ y
first_same x y xs ys e = ap (λ (l : List ℕ). elim l [ [] ↦ x | z ∷ zs ↦ z ]) e

pub awards_sized : (r : RoundRequest) (number : ℕ) (cs : List Candidate) (awards : List ℕ) (filings : List WorkFiling) → AreWithinNeeds cs awards → AreAwarded r number cs awards filings → (f : WorkFiling) → Contains filings f → IsSized f
awards_sized r number [] awards filings within none f there = absurd (let none_there = subst (λ (l : List WorkFiling). Contains l f) none there in omega (arith, none_there.1))
awards_sized r number (c ∷ cs) [] filings within none f there = absurd (let none_there = subst (λ (l : List WorkFiling). Contains l f) none there in omega (arith, none_there.1))
awards_sized r number (c ∷ cs) (zero ∷ awards) filings within later f there =
    awards_sized r number cs awards filings (subst (λ (l : List ℕ). AreWithinNeeds cs l) (sym (tail_same zero within.0 awards within.1 within.2)) within.4) later f there
awards_sized r number (c ∷ cs) (suc more ∷ awards) filings within (g, others, is, one, later) f there =
    either (Contains-append_cases (g ∷ []) others f (subst (λ (l : List WorkFiling). Contains l f) is there))
    (awards_sized r (number + 1) cs awards others (subst (λ (l : List ℕ). AreWithinNeeds cs l) (sym (tail_same (suc more) within.0 awards within.1 within.2)) within.4) later f)
  where
    range : IsBetween 100 4000 (suc more)
    range = let e = first_same (suc more) within.0 awards within.1 within.2 in let fit = (within.3 (omega (arith, e))).0 in (omega (arith, e, fit.0), omega (arith, e, fit.1))

    either : Contains (g ∷ []) f ⊎ Contains others f → (Contains others f → IsSized f) → IsSized f
    either (inl here) rest = only (Contains-push_cases [] g f here)
      where
        only : Contains {X = WorkFiling} [] f ⊎ (g ≡ f) → IsSized f
        only (inl none) = absurd (omega (arith, none.1))
        only (inr same) = subst IsSized same (sized r number c.student (suc more) c.need g one range)
    either (inr among) rest = rest among

-- so no such award is refused by it
pub never_213 : (f : WorkFiling) → IsSized f → (standing : List WorkFiling) (refusal : Refusal) → breaks standing f ≡ Some refusal → refusal.rule ≢ 213
never_213 f (a, is, range) standing refusal e =
    no_213 (facts_of standing f) f.key.school a range refusal (subst (λ (what : WorkWhat). first_broken (rule_210 (facts_of standing f).count ∷ kind_lines (facts_of standing f) f.key.school what) ≡ Some refusal) is e)
