-- The facts that the rules can be tried on.
use Rattle.std.specs.Prelude.{◌≡◌, ◌≤◌, ℕ}
use Rattle.aid_types.specs.Ranges.{IsBetween}
use Rattle.law_rules.specs.declared.facts.Facts.{Facts}

-- cents that sums don't overflow on: far above what 1,000,000 filings can hold
abbrev pub IsSum : ℕ → Type 0
IsSum cents = cents ≤ 1000000000000000

-- the school's terms and full-time credits are those of a school on file; the award, the credits and the sums are in range
pub record AreFactsInRange (f : Facts) : Type 0 where
  pub school : (f.school_at ≡ 0 → ⊥) → IsBetween 2 3 f.terms × IsBetween 1 40 f.full
  pub scheduled : f.scheduled ≤ 100000
  pub credits : f.credits ≤ 40
  pub pell_term : IsSum f.pell_term
  pub pell_year : IsSum f.pell_year
  pub fseog_year : IsSum f.fseog_year
  pub net_all : IsSum f.net_all
  pub after : IsSum f.after
  pub after_all : IsSum f.after_all
  pub repaid : IsSum f.repaid
  pub sent : IsSum f.sent
