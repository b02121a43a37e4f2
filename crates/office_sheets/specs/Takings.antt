-- What was taken back in the term of a withdrawal. Own.
use Rattle.std.specs.Prelude.{ℕ, List}
use Rattle.aid_types.specs.Programs.{six}
use Rattle.aid_types.specs.declared.number.Key.{Key}
use Rattle.aid_filings.specs.declared.filing.Filing.{Filing}
use Rattle.aid_filings.specs.declared.filing.What.{What}
use Rattle.aid_filings.specs.declared.filing.What.TheVariants.{Withdraw}
use Rattle.office_sheets.specs.Ledgers.{withdrawn_place}
use Rattle.office_sheets.specs.TermSums.{place_sums}

-- what was taken back by program in the term of a withdrawal, and nothing for another filing
abbrev pub taken_by : List Filing → Key → What → List ℕ
taken_by past key (Withdraw w) = (place_sums past (withdrawn_place key w)).taken
taken_by past key _ = six (λ program. 0)
