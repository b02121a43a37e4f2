-- A sheet by what was worked out is that of the application.
use Rattle.std.proofs.Common.{◌≡◌, ℕ, List, ◌++◌, ap, ◌∙◌}
use Rattle.aid_books.specs.declared.book.Book.{Book}
use Rattle.aid_types.specs.declared.application.Application.{Application}
use Rattle.aid_types.specs.declared.award.Formula.{Formula}
use Rattle.law_sai.specs.Formulas.{formula}
use Rattle.law_sai.specs.Index.{index_lines}
use Rattle.law_sai.specs.declared.IndexLines.{IndexLines}
use Rattle.law_pell.specs.Award.{decision_of}
use Rattle.law_pell.specs.declared.Decision.{Decision}
use Rattle.sheet_need.specs.NeedSheet.{title, worked_by}

pub same_title : (a : Application) (f g : Formula) (old new : List ℕ) → f ≡ g → new ≡ old ++ title f a → new ≡ old ++ title g a
same_title a f g old new e is = is ∙ ap (λ h. old ++ title h a) e

pub same_work : (book : Book) (a : Application) (f : Formula) (l : IndexLines) (d : Decision) → f ≡ formula book a → l ≡ index_lines book a → d ≡ decision_of book a
    → worked_by f book a l d ≡ worked_by (formula book a) book a (index_lines book a) (decision_of book a)
same_work book a f l d e g h =
    ap (λ x. worked_by x book a l d) e ∙ ap (λ x. worked_by (formula book a) book a x d) g ∙ ap (λ x. worked_by (formula book a) book a (index_lines book a) x) h
