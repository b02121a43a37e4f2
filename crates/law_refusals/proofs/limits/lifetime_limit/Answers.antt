use Rattle.std.proofs.Common.{◌≡◌, ℕ, ◌≤◌, ◌∙◌, List, [], ◌∷◌, refl, subst, arith, eq-eqb}
use Rattle.std.specs.Prelude.{◌==◌, true}
use Rattle.aid_filings.specs.declared.filing.PriorFacts.{PriorFacts}
use Rattle.aid_filings.specs.declared.filing.What.TheVariants.{Prior}
use Rattle.aid_types.specs.declared.number.Key.{Key}
use Rattle.law_terms.specs.Used.{use_of}
use Rattle.office_history.specs.Net.{all_years, sum_over, use_in, used}
use Rattle.office_history.specs.Past.{prior_units}
use Rattle.law_refusals.proofs.limits.lifetime_limit.Goals as goal

sum_of_none : (g : ℕ → ℕ) → ((year : ℕ) → g year ≡ 0) → (years : List ℕ) → sum_over g years ≡ 0
sum_of_none g none [] = refl
sum_of_none g none (year ∷ years) = rw (none year, sum_of_none g none years) refl

-- without a payment nothing is used in any year
nothing_paid : (key : Key) (p : PriorFacts) (year : ℕ) → use_in (record { key = key; what = Prior p } ∷ []) p.student year ≡ 0
unfolding use_of
nothing_paid key p year = refl

units_are : (key : Key) (p : PriorFacts) → prior_units (record { key = key; what = Prior p } ∷ []) p.student ≡ p.units
units_are key p = let own : (p.student == p.student) ≡ true = eq-eqb p.student p.student refl in rw own refl

used_is : (key : Key) (p : PriorFacts) → used (record { key = key; what = Prior p } ∷ []) p.student ≡ p.units
used_is key p =
    let units = units_are key p in
    let years = sum_of_none (use_in (record { key = key; what = Prior p } ∷ []) p.student) (nothing_paid key p) all_years in
    omega (arith, units, years)

pub returns-clause-at : goal.returns-clause-at
returns-clause-at c key p is = used_is key p ∙ is

pub returns-clause-beyond : goal.returns-clause-beyond
returns-clause-beyond c key p is w =
    let past : 600001 ≤ 600000 = subst (λ (n : ℕ). n ≤ 600000) (used_is key p ∙ is) (w.lifetime p.student) in
    omega (arith, past)
