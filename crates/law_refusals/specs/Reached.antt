-- Lists of filings that stand at a limit. Own.
use Rattle.std.specs.Prelude.{◌≡◌, ℕ, List, ◌∷◌}
use Rattle.aid_books.specs.declared.book.Book.{Book}
use Rattle.aid_filings.specs.declared.filing.Amount.{Amount}
use Rattle.aid_filings.specs.declared.filing.Filing.{Filing}
use Rattle.aid_filings.specs.declared.filing.What.TheVariants.{Pay}
use Rattle.aid_types.specs.declared.application.Application.{Application}
use Rattle.aid_types.specs.declared.number.Key.{Key}
use Rattle.aid_types.specs.declared.number.Program.TheVariants.{Pell}
use Rattle.office_history.specs.Award.{scheduled_of}
use Rattle.office_history.specs.Within.{IsWithinEveryLimit}

-- the application is of the book's year, which gives it a Scheduled Award of so many dollars
abbrev pub HasAward : Book → Application → ℕ → Type 0
HasAward b a award = (a.year ≡ b.year) × (scheduled_of b a ≡ award)

-- so much is reached: there is a list of filings of which it holds, and in which no student stands above a limit
abbrev pub IsReached : (List Filing → Type 0) → Type 0
IsReached P = (past : List Filing) × IsWithinEveryLimit past × P past

-- two amounts of Pell of a student in a year
pub record ArePell (p q : Amount) : Type 0 where
  pub first : p.program ≡ Pell
  pub second : q.program ≡ Pell
  pub student : q.student ≡ p.student
  pub year : q.year ≡ p.year

-- a list on which both are paid
abbrev pub paid_too : List Filing → Key → Amount → Key → Amount → List Filing
paid_too past k p l q = record { key = l; what = Pay q } ∷ record { key = k; what = Pay p } ∷ past
