-- The award of the application in force under the year's book (HEA 401(b), 475 to 477).
use Rattle.std.specs.Prelude.{ℕ, List, Option, Some, None}
use Rattle.aid_books.specs.declared.book.Book.{Book}
use Rattle.aid_types.specs.declared.application.Application.{Application}
use Rattle.aid_filings.specs.declared.filing.Filing.{Filing}
use Rattle.aid_types.specs.declared.award.Refusal.{Refusal}
use Rattle.law_sai.specs.Fits.{unfit}
use Rattle.law_pell.specs.Award.{ceiling_of, decision_of, no_ceiling}
use Rattle.law_pell.specs.declared.Ceiling.{Ceiling}
use Rattle.office_history.specs.Past.{the_book, application}

-- the Scheduled Award that an application gives under a book, 0 where one of them is missing. It is a word of its own, so
-- that no goal of a history opens the formulas of need
unfoldable pub scheduled_of : Book → Application → ℕ
scheduled_of b a = (decision_of b a).scheduled

abbrev pub award_under : Option Book → Option Application → ℕ
award_under None a = 0
award_under (Some b) None = 0
award_under (Some b) (Some a) = scheduled_of b a

-- the Scheduled Award of the application in force
abbrev pub scheduled : List Filing → ℕ → ℕ → ℕ
scheduled past student year = award_under (the_book past year) (application past student year)

-- the ceiling that decides on an application under a book, a word of its own as well; none where one of them is missing
unfoldable pub ceiling_by : Book → Application → Ceiling
ceiling_by b a = ceiling_of b a

abbrev pub ceiling_under : Option Book → Option Application → Ceiling
ceiling_under None a = no_ceiling
ceiling_under (Some b) None = no_ceiling
ceiling_under (Some b) (Some a) = ceiling_by b a

-- that on the application in force
abbrev pub ceiling : List Filing → ℕ → ℕ → Ceiling
ceiling past student year = ceiling_under (the_book past year) (application past student year)

-- why an application is out of range for the year's book, if it is
abbrev pub unfit_under : Option Book → Application → Option Refusal
unfit_under None a = None
unfit_under (Some b) a = unfit b a
