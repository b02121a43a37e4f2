-- In a list of which each filing breaks no rule on those before it, each fund adds up.
use Rattle.std.proofs.Common.{◌≡◌, ℕ, ◌+◌, ◌-◌, ◌*◌, ◌≤◌, arith, List}
use Rattle.law_work.specs.declared.filing.WorkFiling.{WorkFiling}
use Rattle.law_work.specs.AddsUp.{AddsUp, holders, sum_over}
use Rattle.law_work.specs.Funds.{awarded, earned, fund, in_fund, of_student, released, rest, unearned}
use Rattle.law_work.specs.Rules.{AreAllowed}
use Rattle.law_work.proofs.Covered.{covered}
use Rattle.law_work.proofs.Within.{award_within, awards_within, earned_within}
use Rattle.law_work.proofs.Sums.{sum_balances}
use Rattle.law_work.proofs.There.{awarded_there, earned_there, released_there}

-- the unearned part of an award, its earnings and its releases are the award
balanced : (e a r : ℕ) → e ≤ 100 * (a - r) → r ≤ a → ((100 * (a - r) - e) + e) + 100 * r ≡ 100 * a
balanced e a r h k = omega arith

-- the rest, the unearned parts and the earnings are the fund
whole : (f a r all_a all_r u e : ℕ) → (u + e) + 100 * all_r ≡ 100 * all_a → all_a ≡ a → all_r ≡ r → a - r ≤ f → 100 * f ≡ (100 * (f - (a - r)) + u) + e
whole f a r all_a all_r u e b c d h = omega arith

pub fund_whole : (past : List WorkFiling) → AreAllowed past → (school year : ℕ) →
    100 * fund past school year
    ≡ 100 * rest past school year + sum_over (holders past school year) (unearned past school year)
    + sum_over (holders past school year) (λ student. earned past (of_student school year student))
fund_whole past h school year =
    let students = holders past school year in
    whole (fund past school year) (awarded past (in_fund school year)) (released past (in_fund school year))
    (sum_over students (λ student. awarded past (of_student school year student))) (sum_over students (λ student. released past (of_student school year student)))
    (sum_over students (unearned past school year)) (sum_over students (λ student. earned past (of_student school year student)))
    (sum_balances students (unearned past school year) (λ student. earned past (of_student school year student))
    (λ student. released past (of_student school year student)) (λ student. awarded past (of_student school year student))
    (λ student. balanced (earned past (of_student school year student)) (awarded past (of_student school year student)) (released past (of_student school year student))
    (earned_within past h school year student) (covered past h (of_student school year student))))
    (awarded_there past h school year) (released_there past h school year) (awards_within past h school year)

pub allowed_adds_up : (past : List WorkFiling) → AreAllowed past → AddsUp past
allowed_adds_up past h = record {
  awards = awards_within past h;
  award = award_within past h;
  earnings = earned_within past h;
  releases = covered past h;
  whole = fund_whole past h;
  earnings_there = earned_there past h;
}
