-- The students whose standing an export tells: those with an application in the year.
use Rattle.std.specs.Prelude.{ℕ, ◌==◌, List, [], ◌∷◌, Option, None}
use Rattle.std.specs.List.{cons_option}
use Rattle.std.specs.Ordering.{nat_cmp}
use Rattle.aid_filings.specs.declared.filing.Filing.{Filing}
use Rattle.aid_filings.specs.declared.filing.What.{What}
use Rattle.aid_filings.specs.declared.filing.What.TheVariants.{Apply}
use Rattle.office_history.specs.Past.{given}
use Rattle.office_export.specs.InOrder.{in_order}

-- what the filings tell, filing by filing
abbrev pub told_by : {A : Type 0} → (Filing → Option A) → List Filing → List A
told_by operation [] = []
told_by operation (f ∷ past) = cons_option (operation f) (told_by operation past)

-- the student of an application in the year
abbrev pub applicant : ℕ → What → Option ℕ
applicant year (Apply a) = given (a.year == year) a.student
applicant year _ = None

-- the students with one, by number, each once
abbrev pub applicants : List Filing → ℕ → List ℕ
applicants past year = in_order nat_cmp (told_by (λ f. applicant year f.what) past)
