-- The worksheet of what was found is that of the history.
use Rattle.std.proofs.Common.{◌≡◌, ℕ, List, [], ◌++◌, ap, ◌∙◌}
use Rattle.std.specs.Prelude.{Option}
use Rattle.aid_books.specs.declared.book.Book.{Book}
use Rattle.aid_filings.specs.declared.filing.Filing.{Filing}
use Rattle.aid_types.specs.declared.application.Application.{Application}
use Rattle.office_history.specs.Past.{application, the_book}
use Rattle.office_history.specs.Positions.{application_at, book_at}
use Rattle.sheet_need.specs.Need.{need_sheet, sheet_of}

pub found : (past : List Filing) (student year : ℕ) (b : Option Book) (a : Option Application) (n m : ℕ) (old new : List ℕ)
    → b ≡ the_book past year → a ≡ application past student year → n ≡ application_at past student year → m ≡ book_at past year
    → old ≡ [] → new ≡ old ++ sheet_of b a n m → new ≡ need_sheet past student year
unfolding need_sheet
found past student year b a n m old new of_book of_application at place none is =
    is ∙ ap (λ (t : List ℕ). t ++ sheet_of b a n m) none
    ∙ ap (λ (x : Option Book). sheet_of x a n m) of_book
    ∙ ap (λ (x : Option Application). sheet_of (the_book past year) x n m) of_application
    ∙ ap (λ (k : ℕ). sheet_of (the_book past year) (application past student year) k m) at
    ∙ ap (λ (k : ℕ). sheet_of (the_book past year) (application past student year) (application_at past student year) k) place
