-- The rows of an index with one filing more.
use Rattle.std.proofs.Common.{◌≡◌, ℕ, ◌+◌, ◌-◌, ◌≤◌, List, ◌∷◌, None, subst, sym, arith}
use Rattle.law_work.specs.declared.filing.WorkFiling.{WorkFiling}
use Rattle.law_work.specs.Rules.{breaks}
use Rattle.law_work.specs.Rows.{AreAwards, AreFunds, AreIndexed}
use Rattle.law_work.specs.declared.names.AwardName.{AwardName}
use Rattle.law_work.specs.declared.names.FundName.{FundName}
use Rattle.law_work.specs.declared.rows.AwardRow.{AwardRow}
use Rattle.law_work.specs.declared.rows.FundRow.{FundRow}
use Rattle.law_work.proofs.Holding.{has_room}

module _ (past h : List WorkFiling) (f : WorkFiling) (old_funds funds : List (FundName × FundRow)) (old_awards awards : List (AwardName × AwardRow)) where
  pub index_grown : h ≡ f ∷ past → AreIndexed past old_funds old_awards → breaks past f ≡ None →
      AreFunds (f ∷ past) funds → AreAwards (f ∷ past) awards → AreIndexed h funds awards
  index_grown grown before unbroken told_funds told_awards =
      subst (λ (g : List WorkFiling). AreIndexed g funds awards) (sym grown) (record {
        allowed = (before.allowed, unbroken);
        few = omega (arith, has_room past f unbroken);
        funds_told = told_funds;
        awards_told = told_awards;
      })

-- the room that is left where one place is taken
pub place_left : (room places left : ℕ) → room ≤ places → places ≤ left + 1 → room - 1 ≤ left
place_left room places left within taken = omega arith

pub places_left : (room old places new left : ℕ) → 1 ≤ room → old + room ≤ places → new ≡ old + 1 → left ≡ places → new + (room - 1) ≤ left
places_left room old places new left some within one same = omega arith
