-- No student stands above a limit.
use Rattle.std.specs.Prelude.{◌≡◌, ◌≢◌, ℕ, ◌*◌, ◌≤◌, ◌<◌, Bool, List, Some, IsTrue}
use Rattle.aid_filings.specs.declared.filing.Filing.{Filing}
use Rattle.aid_types.specs.declared.term.Term.{Term}
use Rattle.law_terms.specs.Terms.{shares_day}
use Rattle.office_history.specs.Past.{cost, the_term}
use Rattle.office_history.specs.Award.{scheduled}
use Rattle.office_history.specs.Net.{Cell, net, paid, taken, pell_term, pell_year, pell_main, in_year, at_school_in_year, used}
use Rattle.office_history.specs.Positions.{payment_at}
use Rattle.aid_types.specs.Limits.{fseog_limit, most_units}

pub record IsWithinEveryLimit (past : List Filing) : Type 0 where
  pub term : (school student year number : ℕ) →
      pell_term past school student year number ≤ payment_at past (scheduled past student year) school student year number
  pub year : (student year : ℕ) → pell_year past student year ≤ 150 * scheduled past student year
  pub main : (student year : ℕ) → pell_main past student year ≤ 100 * scheduled past student year
  pub fseog : (student year : ℕ) → net past (in_year student year 4) ≤ fseog_limit
  pub lifetime : (student : ℕ) → used past student ≤ most_units
  pub cost : (school student year : ℕ) → net past (at_school_in_year school student year) ≤ 100 * cost past school student year
  pub nets : (cells : Cell → Bool) → taken past cells ≤ paid past cells
  pub apart : (student school year number school' year' number' : ℕ) (t u : Term) →
      the_term past school year number ≡ Some t → the_term past school' year' number' ≡ Some u → school ≢ school' →
      IsTrue (shares_day t u) → 0 < pell_term past school student year number → pell_term past school' student year' number' ≡ 0
