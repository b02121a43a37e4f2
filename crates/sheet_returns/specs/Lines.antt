-- The lines of returns. Own format.
use Rattle.std.specs.Prelude.{ℕ, ◌-◌, List, [], ◌∷◌, ◌++◌, codes, decimal}
use Rattle.aid_types.specs.Cents.{cents_text}
use Rattle.aid_types.specs.Words.{program_text}
use Rattle.format_filings.specs.WrittenRows.{joined}
use Rattle.law_terms.specs.Days.{day_text}
use Rattle.office_reports.specs.Lines.{due_text}
use Rattle.sheet_returns.specs.declared.rows.OpenReturn.{OpenReturn}
use Rattle.sheet_returns.specs.declared.rows.ReturnOfYear.{ReturnOfYear}

-- DUE,LATE,STUDENT,YEAR,TERM,PROGRAM,RETURNED,SENT,OPEN,POSITION,NUMBER
abbrev pub open_line : OpenReturn → List ℕ
open_line r =
    joined (
    due_text r.due ∷ decimal r.late ∷ decimal r.student ∷ decimal r.year ∷ decimal r.term ∷ program_text r.program ∷ cents_text r.returned
    ∷ cents_text r.sent ∷ cents_text (r.returned - r.sent) ∷ decimal r.position ∷ decimal r.number ∷ [])
    ++ codes "\n"

-- STUDENT,TERM,PROGRAM,DETERMINED,DUE,RETURNED,SENT,LAST_SENT,SENT_LATE,OPEN,OWED,REPAID,POSITION,NUMBER: `none` where no day is due,
-- and where nothing was sent
abbrev pub return_line : ReturnOfYear → List ℕ
return_line r =
    joined (
    decimal r.student ∷ decimal r.term ∷ program_text r.program ∷ day_text r.determined ∷ due_text r.due ∷ cents_text r.returned
    ∷ cents_text r.sent ∷ due_text r.last_sent ∷ cents_text r.sent_late ∷ cents_text (r.returned - r.sent) ∷ cents_text r.owed
    ∷ cents_text r.repaid ∷ decimal r.position ∷ decimal r.number ∷ [])
    ++ codes "\n"
