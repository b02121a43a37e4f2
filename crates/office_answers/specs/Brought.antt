-- What an application brings under a book, and what a payment brings on the filings before it.
use Rattle.std.specs.Prelude.{◌≡◌, ℕ, ◌+◌, ◌*◌, ◌≤◌, ◌==◌, List, Option, Some, None, if◌then◌else◌}
use Rattle.aid_books.specs.declared.book.Book.{Book}
use Rattle.aid_types.specs.declared.application.Application.{Application}
use Rattle.aid_types.specs.declared.award.Refusal.{Refusal}
use Rattle.aid_types.specs.Programs.{rank}
use Rattle.aid_filings.specs.declared.filing.Amount.{Amount}
use Rattle.aid_filings.specs.declared.filing.Filing.{Filing}
use Rattle.aid_filings.specs.declared.reply.Outcome.{Outcome}
use Rattle.aid_filings.specs.declared.reply.Outcome.TheVariants.{Indexed, Noted, Paid}
use Rattle.law_terms.specs.Used.{use_of}
use Rattle.office_history.specs.Answer.{indexed}
use Rattle.office_history.specs.Award.{scheduled}
use Rattle.office_history.specs.Net.{in_year, net, used, used_else}
use Rattle.aid_types.specs.Limits.{is_pell}

-- what an application brings: its formula, final index and award, and nothing where it is out of range for the book
abbrev pub brought_by : Option Refusal → Option Book → Application → Outcome
brought_by None book a = indexed book (Some a)
brought_by (Some refusal) book a = Noted

-- the Scheduled Award in dollars that an outcome tells, 0 where it tells none
abbrev pub awarded : Outcome → ℕ
awarded (Indexed formula sai way scheduled) = scheduled
awarded _ = 0

-- the year's net of a payment's program with it
abbrev pub net_with : List Filing → Amount → ℕ
net_with past a = net past (in_year a.student a.year (rank a.program)) + a.cents

-- where the program is Pell, the year's net with the payment is within one and a half Scheduled Awards
abbrev pub IsWithPayment : List Filing → Amount → Type 0
IsWithPayment past a = rank a.program ≡ 3 → net_with past a ≤ 150 * scheduled past a.student a.year

-- the lifetime use with a payment
abbrev pub used_with : List Filing → Amount → ℕ
used_with past a =
    if is_pell (rank a.program)
    then used_else past a.student a.year + use_of (net_with past a) (scheduled past a.student a.year)
    else used past a.student

abbrev pub paid_with : List Filing → Amount → Outcome
paid_with past a = Paid (net_with past a) (used_with past a)
