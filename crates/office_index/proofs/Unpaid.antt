-- In a legal history a student without an application in force has no net Pell.
use Rattle.std.proofs.Common.{◌≡◌, ℕ, ◌*◌, ◌≤◌, refl, ◌∙◌, arith, List, Option, Some, None}
use Rattle.aid_types.specs.declared.application.Application.{Application}
use Rattle.aid_books.specs.declared.book.Book.{Book}
use Rattle.aid_filings.specs.declared.filing.Filing.{Filing}
use Rattle.office_history.specs.Past.{application, the_book}
use Rattle.office_history.specs.Award.{award_under}
use Rattle.office_history.specs.Answer.{IsLegal, standing_of, standing_under}
use Rattle.office_history.specs.Net.{pell_year, used}
use Rattle.office_history.proofs.Awards.{year_holds}

-- no award, no Pell
nothing_paid : (book : Option Book) (a : Option Application) (paid units : ℕ) → paid ≤ 150 * award_under book a →
    (standing_under book a paid units).transaction ≡ 0 → paid ≡ 0
nothing_paid None a paid units most none = omega arith
nothing_paid (Some b) None paid units most none = omega arith
nothing_paid (Some b) (Some a) paid units most none = let filed = a.in_range.0 in absurd (omega arith)

same_paid : (book : Option Book) (a : Option Application) (paid units : ℕ) → (standing_under book a paid units).paid ≡ paid
same_paid None a paid units = refl
same_paid (Some b) None paid units = refl
same_paid (Some b) (Some a) paid units = refl

pub unpaid : (past : List Filing) (student year : ℕ) → IsLegal past → (standing_of past student year).transaction ≡ 0 → (standing_of past student year).paid ≡ 0
unpaid past student year legal none =
    let book = the_book past year in
    let a = application past student year in
    same_paid book a (pell_year past student year) (used past student)
    ∙ nothing_paid book a (pell_year past student year) (used past student) (year_holds past legal student year) none
