-- No student stands above a limit of Direct Loans.
use Rattle.std.specs.Prelude.{ℕ, ◌+◌, ◌*◌, ◌≤◌, ◌<◌, Bool, true, false, List}
use Rattle.aid_types.specs.declared.number.Program.{Program}
use Rattle.law_loans.specs.declared.filing.LoanFiling.{LoanFiling}
use Rattle.law_loans.specs.Loans.{aggregate_sub, aggregate_total, annual_sub, annual_total, before, before_sub, before_total, cost_of}
use Rattle.law_loans.specs.Loans.{cancelled, in_all, in_year, last_record, lent, limits, limits_under, need_of, net, of_cells, record_in, under}

-- the net of both programs, in a year and in all years
abbrev pub net_of_year : List LoanFiling → ℕ → ℕ → ℕ
net_of_year past student year = net past (in_year student year true) + net past (in_year student year false)

abbrev pub net_of_all : List LoanFiling → ℕ → ℕ
net_of_all past student = net past (in_all student true) + net past (in_all student false)

-- In each year a student's subsidized loans are within the need and their annual limit, and all loans within theirs and the cost,
-- by the record in force. What was borrowed before, with the loans of all years, is within the aggregate limits by the last
-- record, of subsidized loans where there are any, and of all loans where there are any. No more was cancelled than lent, at any
-- students, years and programs.
pub record IsWithinLoans (past : List LoanFiling) : Type 0 where
  pub need : (student year : ℕ) → net past (in_year student year true) ≤ 100 * need_of (record_in past student year)
  pub sub : (student year : ℕ) → net past (in_year student year true) ≤ 100 * under annual_sub (limits past year) (record_in past student year)
  pub total : (student year : ℕ) → net_of_year past student year ≤ 100 * under annual_total (limits past year) (record_in past student year)
  pub cost : (student year : ℕ) → net_of_year past student year ≤ 100 * cost_of (record_in past student year)
  pub all_sub : (student : ℕ) → 0 < net past (in_all student true) →
      100 * before_sub (before past student) + net past (in_all student true)
      ≤ 100 * under aggregate_sub (limits_under past (last_record past student)) (last_record past student)
  pub all : (student : ℕ) → 0 < net_of_all past student →
      100 * before_total (before past student) + net_of_all past student
      ≤ 100 * under aggregate_total (limits_under past (last_record past student)) (last_record past student)
  pub nets : (cells : ℕ → ℕ → Program → Bool) → cancelled past (of_cells cells) ≤ lent past (of_cells cells)
