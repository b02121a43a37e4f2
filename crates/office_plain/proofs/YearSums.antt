-- The use of the years.
use Rattle.std.proofs.Common.{◌≡◌, ℕ, suc, ◌+◌, ◌-◌, ◌≤◌, ◌<◌, refl, arith, List}
use Rattle.std.specs.List.{range_with_len}
use Rattle.aid_filings.specs.declared.filing.Filing.{Filing}
use Rattle.office_history.specs.Past.{prior_units}
use Rattle.office_history.specs.Net.{sum_over, all_years, use_in}
use Rattle.office_history.specs.Answer.{IsLegal}
use Rattle.office_history.proofs.Lifetime.{lifetime_holds}

-- the sum of the years from one on
unfoldable pub years_from : (ℕ → ℕ) → ℕ → ℕ
years_from g year = sum_over g (range_with_len year (2100 - year))

pub years_first : (g : ℕ → ℕ) → years_from g 2000 ≡ sum_over g all_years
unfolding years_from all_years
years_first g = refl

pub years_next : (g : ℕ → ℕ) (year : ℕ) → year < 2100 → years_from g year ≡ g year + years_from g (year + 1)
unfolding years_from
years_next g year lt = let e : 2100 - year ≡ suc (2100 - (year + 1)) = omega arith in rw e refl

pub years_last : (g : ℕ → ℕ) (year : ℕ) → 2100 ≤ year → years_from g year ≡ 0
unfolding years_from
years_last g year h = let e : 2100 - year ≡ 0 = omega arith in rw e refl

-- in a legal history they are within the lifetime limit, with the prior units
pub years_most : (past : List Filing) → IsLegal past → (student : ℕ) → prior_units past student + sum_over (use_in past student) all_years ≤ 600000
years_most past legal student = lifetime_holds past legal student
