-- What a school still has to send back, program by program (34 CFR 668.22(j)).
use Rattle.std.specs.Prelude.{ℕ, ◌+◌, ◌-◌, nat_lt, List, [], ◌∷◌, Option, Some, None, codes, map, slice_index, if◌then◌else◌}
use Rattle.std.specs.List.{flat_map}
use Rattle.aid_types.specs.Programs.{rank}
use Rattle.aid_types.specs.declared.number.Key.{Key}
use Rattle.aid_types.specs.declared.number.Program.{Program}
use Rattle.aid_filings.specs.declared.filing.Filing.{Filing}
use Rattle.aid_filings.specs.declared.filing.What.{What}
use Rattle.aid_filings.specs.declared.filing.What.TheVariants.{Withdraw}
use Rattle.aid_filings.specs.declared.filing.WithdrawFacts.{WithdrawFacts}
use Rattle.office_history.specs.Rows.{filing_in}
use Rattle.office_history.specs.declared.account.Account.{Account}
use Rattle.office_reports.specs.Rows.{all_programs, due_day}
use Rattle.office_sheets.specs.Headed.{headed}
use Rattle.sheet_returns.specs.Lines.{open_line}
use Rattle.sheet_returns.specs.Withdrawals.{account_of, by_due}
use Rattle.sheet_returns.specs.declared.rows.OpenReturn.{OpenReturn}
use Rattle.sheet_returns.specs.declared.rows.Withdrawn.{Withdrawn}

-- a program of the withdrawal at a position, where less of it was sent back than is returned; `late` counts the days from the
-- day on which it is due, 45 days after the withdrawal was determined, to the day that is asked about
abbrev pub open_row : ℕ → ℕ → Key → WithdrawFacts → Account → Program → List OpenReturn
open_row day position key w a program =
    if nat_lt (slice_index a.sent (rank program)) (slice_index a.returned (rank program))
    then record {
      due = due_day w.determined;
      late = day - (w.determined + 45);
      student = w.student;
      year = w.year;
      term = w.term;
      program = program;
      returned = slice_index a.returned (rank program);
      sent = slice_index a.sent (rank program);
      position = position;
      number = key.number;
    } ∷ []
    else []

abbrev pub open_rows : ℕ → ℕ → Key → WithdrawFacts → Account → List OpenReturn
open_rows day position key w a = flat_map (open_row day position key w a) all_programs

-- those of a filing, which is a withdrawal or has none; of the filing at a position, where there is one; of a withdrawal
abbrev pub open_rows_in : ℕ → List Filing → ℕ → Key → What → List OpenReturn
open_rows_in day now position key (Withdraw w) = open_rows day position key w (account_of now key w)
open_rows_in day now position key _ = []

abbrev pub open_rows_of : ℕ → List Filing → ℕ → Option Filing → List OpenReturn
open_rows_of day now position (Some f) = open_rows_in day now position f.key f.what
open_rows_of day now position None = []

abbrev pub open_rows_at : ℕ → List Filing → Withdrawn → List OpenReturn
open_rows_at day now at = open_rows_of day now at.position (filing_in now at.position)

-- all that is open of a school's returns, by the day on which it is due
abbrev pub due_rows : ℕ → ℕ → List Filing → List OpenReturn
due_rows day school now = flat_map (open_rows_at day now) (by_due school now)

-- the sheet. Own format
abbrev pub due_sheet : ℕ → ℕ → List Filing → List ℕ
due_sheet day school now =
    headed (codes "due,late,student,year,term,program,returned,sent,open,position,number\n") (map open_line (due_rows day school now))
