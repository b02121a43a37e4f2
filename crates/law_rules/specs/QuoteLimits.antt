-- The limits of a Pell payment as inequalities, and the most whole dollars below them.
use Rattle.std.specs.Prelude.{◌≡◌, ◌≤◌, ◌<◌, ◌↔◌, ◌+◌, ◌*◌, ℕ, slice_index}
use Rattle.law_terms.specs.Used.{use_of}
use Rattle.law_rules.specs.declared.facts.Facts.{Facts}
use Rattle.law_rules.specs.Lines.{payment_here, year_limit}
use Rattle.aid_types.specs.Limits.{most_filings, most_units}

-- What a Pell payment of any amount asks: room in the office; the school, the term, an application and an origination on
-- file; a student who is enrolled, whose index is below the ceiling, and who is awarded Pell; no Pell paid for a term of another school that shares a day.
pub record MayBePaid (f : Facts) : Type 0 where
  pub room : f.filings < most_filings
  pub school : 0 < f.school_at
  pub term : 0 < f.term_at
  pub application : 0 < f.transaction
  pub origination : 0 < f.cost_at
  pub enrolled : 0 < f.credits
  pub below : f.ceiling_index ≡ 0
  pub awarded : 0 < f.scheduled
  pub apart : f.other_school ≡ 0

-- so many cents of Pell stay within the term's payment, the year's limit, the lifetime limit and the cost of attendance
pub record IsWithinLimits (f : Facts) (cents : ℕ) : Type 0 where
  pub payment : f.pell_term + cents ≤ payment_here f
  pub year : f.pell_year + cents ≤ year_limit f
  pub lifetime : f.used_else + use_of (f.pell_year + cents) f.scheduled ≤ most_units
  pub cost : f.net_all + cents ≤ 100 * f.cost

-- so many cents of Pell after a withdrawal stay within what could have been disbursed of it, and within the post-withdrawal
-- amount of all programs
pub record IsWithinPost (f : Facts) (cents : ℕ) : Type 0 where
  pub could : f.after + cents ≤ slice_index f.could 3
  pub post : f.after_all + cents ≤ f.post

-- so many cents of Pell stay within all that bounds them
pub record IsAffordable (f : Facts) (cents : ℕ) : Type 0 where
  pub limits : IsWithinLimits f cents
  pub withdrawn : 0 < f.withdrawn_at → IsWithinPost f cents

-- a positive whole-dollar amount meets P just where it has at most so many dollars
abbrev pub IsMostDollars : (ℕ → Type 0) → ℕ → Type 0
IsMostDollars P most = (dollars : ℕ) → 0 < dollars → (dollars ≤ most) ↔ P (100 * dollars)
