-- A whole-dollar Pell payment breaks no rule just where Pell may be paid and the amount is affordable.
use Rattle.std.proofs.Common.{◌≡◌, ℕ, ◌*◌, ◌≤◌, ◌<◌, min, is_none, refl, ap, arith, false, Option, Some, None}
use Rattle.std.proofs.lemmas.Grind.{common_steps}
use Rattle.aid_types.specs.declared.award.Refusal.{Refusal}
use Rattle.law_rules.specs.declared.facts.Facts.{Facts}
use Rattle.aid_types.specs.RuleLines.{first_broken}
use Rattle.law_rules.specs.Lines.{payment_lines}
use Rattle.law_rules.specs.Quote.{is_payable, greatest_payment}
use Rattle.law_rules.specs.QuoteLimits.{MayBePaid, IsAffordable, IsMostDollars}
use Rattle.law_rules.proofs.Greatest.{greatest_is}

not_none : (o : Option Refusal) → (o ≡ None → ⊥) → is_none o ≡ false
not_none None h = absurd (h refl)
not_none (Some r) h = refl

module _ (f : Facts) (school student year term : ℕ) where
  -- a payment of so many cents of Pell breaks no rule
  abbrev unbroken : ℕ → Type 0
  unbroken cents = first_broken (payment_lines f school student year term 3 cents) ≡ None

  -- what a payment that breaks no rule tells of the facts
  stands : (cents : ℕ) → unbroken cents → MayBePaid f
  stands cents h = record {
    room = grind (arith, common_steps);
    school = grind (arith, common_steps);
    term = grind (arith, common_steps);
    application = grind (arith, common_steps);
    origination = grind (arith, common_steps);
    enrolled = grind (arith, common_steps);
    below = grind (arith, common_steps);
    awarded = grind (arith, common_steps);
    apart = grind (arith, common_steps);
  }

  within : (cents : ℕ) → unbroken cents → IsAffordable f cents
  within cents h = record {
    limits = record {
      payment = grind (arith, common_steps);
      year = grind (arith, common_steps);
      lifetime = grind (arith, common_steps);
      cost = grind (arith, common_steps);
    };
    withdrawn = λ some. record { could = grind (arith, common_steps); post = grind (arith, common_steps) };
  }

  -- and that nothing else is asked of whole dollars
  pays : (dollars : ℕ) → 0 < dollars → MayBePaid f → IsAffordable f (100 * dollars) → unbroken (100 * dollars)
  pays dollars pos m w = grind (arith, common_steps)

  -- where it may be paid, the most affordable dollars are the greatest payment, up to what a filing may hold
  pub greatest_within : (most : ℕ) → MayBePaid f → IsMostDollars (IsAffordable f) most →
      greatest_payment (payment_lines f school student year term 3) ≡ 100 * min most 999999
  unfolding greatest_payment
  greatest_within most may is_most =
      ap (λ (n : ℕ). 100 * n)
      (greatest_is (is_payable (payment_lines f school student year term 3)) (min most 999999) 999999 (omega arith)
      (λ pos. ap is_none (pays (min most 999999) pos may ((is_most (min most 999999) pos).0 (omega arith))))
      (λ n above le. not_none (first_broken (payment_lines f school student year term 3 (100 * n)))
      (λ h. let k : n ≤ most = (is_most n (omega arith)).1 (within (100 * n) h) in absurd (omega arith))))

  -- where it may not, no payment is left
  pub greatest_none : (MayBePaid f → ⊥) → greatest_payment (payment_lines f school student year term 3) ≡ 0
  unfolding greatest_payment
  greatest_none may_not =
      ap (λ (n : ℕ). 100 * n)
      (greatest_is (is_payable (payment_lines f school student year term 3)) 0 999999 (omega arith) (λ pos. absurd (omega arith))
      (λ n above le. not_none (first_broken (payment_lines f school student year term 3 (100 * n))) (λ h. may_not (stands (100 * n) h))))
