-- A household with more income and all else equal.
use Rattle.std.specs.Prelude.{◌≡◌, ◌≤ℤ◌}
use Rattle.aid_types.specs.declared.application.Application.{Application}
use Rattle.aid_types.specs.declared.application.Side.{Side}

-- at least as much income of each kind (HEA 480(a), (b)), and all else that a formula reads equal. What was earned is
-- no income of its own: it is in the adjusted gross income, and what is allowed for it may rise faster than it
pub record HasMoreIncome (s t : Side) : Type 0 where
  pub agi : s.agi ≤ℤ t.agi
  pub ira : s.ira ≤ℤ t.ira
  pub interest : s.interest ≤ℤ t.interest
  pub ira_untaxed : s.ira_untaxed ≤ℤ t.ira_untaxed
  pub pension : s.pension ≤ℤ t.pension
  pub foreign : s.foreign ≤ℤ t.foreign
  pub grants : s.grants ≡ t.grants
  pub credits : s.credits ≡ t.credits
  pub work_study : s.work_study ≡ t.work_study
  pub tax : s.tax ≡ t.tax
  pub earned_first : s.earned_first ≡ t.earned_first
  pub earned_second : s.earned_second ≡ t.earned_second
  pub support : s.support ≡ t.support
  pub cash : s.cash ≡ t.cash
  pub investments : s.investments ≡ t.investments
  pub business : s.business ≡ t.business

-- two applications that are the same in all that an index goes by, but for more income of the two households
pub record IsRicher (a b : Application) : Type 0 where
  pub own : HasMoreIncome a.own b.own
  pub parents : HasMoreIncome a.parents b.parents
  pub birth_year : a.birth_year ≡ b.birth_year
  pub family : a.family ≡ b.family
  pub married : a.married ≡ b.married
  pub graduate : a.graduate ≡ b.graduate
  pub veteran : a.veteran ≡ b.veteran
  pub dependents : a.dependents ≡ b.dependents
  pub orphan : a.orphan ≡ b.orphan
  pub ward : a.ward ≡ b.ward
  pub foster : a.foster ≡ b.foster
  pub emancipated : a.emancipated ≡ b.emancipated
  pub homeless : a.homeless ≡ b.homeless
  pub parents_married : a.parents_married ≡ b.parents_married
  pub parent_age : a.parent_age ≡ b.parent_age
