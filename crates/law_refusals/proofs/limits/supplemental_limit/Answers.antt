use Rattle.std.proofs.Common.{◌≡◌, ℕ, ◌≤◌, ◌∙◌, [], ◌∷◌, subst, arith, rules}
use Rattle.aid_filings.specs.declared.filing.Amount.{Amount}
use Rattle.aid_filings.specs.declared.filing.What.TheVariants.{Pay}
use Rattle.aid_types.specs.declared.number.Key.{Key}
use Rattle.aid_types.specs.declared.number.Program.TheVariants.{Fseog}
use Rattle.office_history.specs.Net.{in_year, net}
use Rattle.law_refusals.proofs.limits.supplemental_limit.Goals as goal

net_is : (key : Key) (a : Amount) → a.program ≡ Fseog → net (record { key = key; what = Pay a } ∷ []) (in_year a.student a.year 4) ≡ a.cents
net_is key a is = search rules

pub returns-clause-beyond : goal.returns-clause-beyond
returns-clause-beyond c key a is cents w =
    let past : 400001 ≤ 400000 = subst (λ (n : ℕ). n ≤ 400000) (net_is key a is ∙ cents) (w.fseog a.student a.year) in
    omega (arith, past)
