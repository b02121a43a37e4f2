-- What an application in force is, said by the filings of a history and not by how it is found.
use Rattle.std.specs.Prelude.{◌≡◌, ◌≤◌, ℕ, List}
use Rattle.std.specs.List.{Contains}
use Rattle.aid_types.specs.declared.application.Application.{Application}
use Rattle.aid_filings.specs.declared.filing.Filing.{Filing}
use Rattle.aid_filings.specs.declared.filing.What.TheVariants.{Apply}

-- a filing of the history is this application, and it is the student's for the year
pub record IsFiledApplication (past : List Filing) (student year : ℕ) (a : Application) : Type 0 where
  pub filing : Filing
  pub among : Contains past filing
  pub is : filing.what ≡ Apply a
  pub of_student : a.student ≡ student
  pub of_year : a.year ≡ year

-- it is filed, and no other application of the student for the year has a higher transaction
pub record IsInForce (past : List Filing) (student year : ℕ) (a : Application) : Type 0 where
  pub filed : IsFiledApplication past student year a
  pub highest : (b : Application) → IsFiledApplication past student year b → b.transaction ≤ a.transaction
