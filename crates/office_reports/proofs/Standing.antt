-- Every year's standing tells the lifetime units.
use Rattle.std.proofs.Common.{◌≡◌, ℕ, List, refl}
use Rattle.std.specs.Prelude.{Option, Some, None}
use Rattle.aid_books.specs.declared.book.Book.{Book}
use Rattle.aid_types.specs.declared.application.Application.{Application}
use Rattle.aid_filings.specs.declared.filing.Filing.{Filing}
use Rattle.office_history.specs.Answer.{standing_of, standing_under}
use Rattle.office_history.specs.Net.{pell_year, used}
use Rattle.office_history.specs.Past.{application, the_book}

under : (b : Option Book) (a : Option Application) (paid units : ℕ) → (standing_under b a paid units).used ≡ units
under None None paid units = refl
under None (Some a) paid units = refl
under (Some b) None paid units = refl
under (Some b) (Some a) paid units = refl

pub standing_used : (past : List Filing) (student year : ℕ) → (standing_of past student year).used ≡ used past student
standing_used past student year = under (the_book past year) (application past student year) (pell_year past student year) (used past student)
