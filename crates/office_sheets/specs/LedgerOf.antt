-- Which filings a student's ledger tells of.
use Rattle.std.specs.Prelude.{◌≡◌, ℕ, true, List, Some}
use Rattle.std.specs.List.{Contains}
use Rattle.aid_filings.specs.Students.{student_of}
use Rattle.aid_filings.specs.declared.filing.Filing.{Filing}
use Rattle.office_history.specs.Rows.{filing_in}
use Rattle.office_sheets.specs.Ledgers.{is_student}
use Rattle.office_sheets.specs.declared.ledger_rows.LedgerRow.{LedgerRow}

-- the filing at a position is about the student
abbrev pub IsAbout : ℕ → List Filing → ℕ → Type 0
IsAbout student past position = (f : Filing) × (filing_in past position ≡ Some f) × (is_student student (student_of f.what) ≡ true)

-- a row tells of the filing at a position
abbrev pub TellsOf : List LedgerRow → ℕ → Type 0
TellsOf rows position = (row : LedgerRow) × (row.position ≡ position) × Contains rows row
