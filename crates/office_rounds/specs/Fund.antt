-- What of a fund is left to award, on a history with its newest filing first.
use Rattle.std.specs.Prelude.{ℕ, ◌+◌, ◌-◌, ◌/◌, ◌==◌, ◌&&◌, Bool, List, Option, None}
use Rattle.aid_types.specs.declared.number.Key.{Key}
use Rattle.aid_filings.specs.declared.filing.Filing.{Filing}
use Rattle.aid_filings.specs.declared.filing.What.{What}
use Rattle.aid_filings.specs.declared.filing.What.TheVariants.{Pay}
use Rattle.office_history.specs.Net.{Cell, cell_of, net}
use Rattle.office_history.specs.Past.{given}
use Rattle.office_rounds.specs.declared.request.RoundRequest.{RoundRequest}
use Rattle.aid_types.specs.Limits.{is_fseog}

-- the cells of the fund: the program of the grants, in the school's term of the year
abbrev pub in_fund : RoundRequest → Cell → Bool
in_fund r c = c.school == r.school && (c.year == r.year && (c.term == r.term && is_fseog c.program))

-- the cents that the school's students have of the program in the term: payments less what was taken back
abbrev pub granted : List Filing → RoundRequest → ℕ
granted past r = net past (in_fund r)

-- the fund in whole dollars less what was granted, rounded up, and not below 0. Own: so a round that is run again stays within the same
-- amount
abbrev pub rest_of_fund : List Filing → RoundRequest → ℕ
rest_of_fund past r = r.amount - (granted past r + 99) / 100

-- the student of a payment from the fund
abbrev pub granted_to : RoundRequest → Key → What → Option ℕ
granted_to r key (Pay a) = given (in_fund r (cell_of key a)) a.student
granted_to r key _ = None
