-- What came of the returns of a school's year, program by program (34 CFR 668.22(j)).
use Rattle.std.specs.Prelude.{ℕ, ◌==◌, nat_lt, List, [], ◌∷◌, Option, Some, None, codes, map, reverse, slice_index, if◌then◌else◌}
use Rattle.std.specs.List.{flat_map}
use Rattle.aid_types.specs.Programs.{rank}
use Rattle.aid_types.specs.declared.number.Key.{Key}
use Rattle.aid_types.specs.declared.number.Program.{Program}
use Rattle.aid_filings.specs.declared.filing.Filing.{Filing}
use Rattle.aid_filings.specs.declared.filing.SentFacts.{SentFacts}
use Rattle.aid_filings.specs.declared.filing.What.{What}
use Rattle.aid_filings.specs.declared.filing.What.TheVariants.{Withdraw}
use Rattle.aid_filings.specs.declared.filing.WithdrawFacts.{WithdrawFacts}
use Rattle.office_history.specs.Rows.{filing_in}
use Rattle.office_history.specs.declared.account.Account.{Account}
use Rattle.office_reports.specs.Rows.{all_programs, due_day}
use Rattle.office_sheets.specs.Headed.{headed}
use Rattle.sheet_returns.specs.Lines.{return_line}
use Rattle.sheet_returns.specs.Sendings.{last_sent, sendings, sent_late}
use Rattle.sheet_returns.specs.Withdrawals.{account_of, withdrawals}
use Rattle.sheet_returns.specs.declared.rows.ReturnOfYear.{ReturnOfYear}
use Rattle.sheet_returns.specs.declared.rows.Withdrawn.{Withdrawn}

-- a program of the withdrawal at a position, where the school returns something of it
abbrev pub return_row : List SentFacts → ℕ → Key → WithdrawFacts → Account → Program → List ReturnOfYear
return_row sent position key w a program =
    if nat_lt 0 (slice_index a.returned (rank program))
    then record {
      student = w.student;
      term = w.term;
      program = program;
      determined = w.determined;
      due = due_day w.determined;
      returned = slice_index a.returned (rank program);
      sent = slice_index a.sent (rank program);
      last_sent = last_sent w program sent;
      sent_late = sent_late w program sent;
      owed = slice_index a.owed (rank program);
      repaid = slice_index a.repaid (rank program);
      position = position;
      number = key.number;
    } ∷ []
    else []

abbrev pub return_rows_for : List SentFacts → ℕ → Key → WithdrawFacts → Account → List ReturnOfYear
return_rows_for sent position key w a = flat_map (return_row sent position key w a) all_programs

-- those of a filing, which is a withdrawal in the year or has none; of the filing at a position, where there is one; of a withdrawal
abbrev pub return_rows_in : ℕ → List SentFacts → List Filing → ℕ → Key → What → List ReturnOfYear
return_rows_in year sent now position key (Withdraw w) =
    if w.year == year then return_rows_for sent position key w (account_of now key w) else []
return_rows_in year sent now position key _ = []

abbrev pub return_rows_of : ℕ → List SentFacts → List Filing → ℕ → Option Filing → List ReturnOfYear
return_rows_of year sent now position (Some f) = return_rows_in year sent now position f.key f.what
return_rows_of year sent now position None = []

abbrev pub return_rows_at : ℕ → List SentFacts → List Filing → Withdrawn → List ReturnOfYear
return_rows_at year sent now at = return_rows_of year sent now at.position (filing_in now at.position)

-- all returns of a school's year, by position
abbrev pub return_rows : ℕ → ℕ → List Filing → List ReturnOfYear
return_rows school year now = flat_map (return_rows_at year (sendings school year now) now) (reverse (withdrawals school now))

-- the sheet. Own format
abbrev pub returns_sheet : ℕ → ℕ → List Filing → List ℕ
returns_sheet school year now =
    headed (codes "student,term,program,determined,due,returned,sent,last_sent,sent_late,open,owed,repaid,position,number\n")
    (map return_line (return_rows school year now))
