-- The list of an office: each filing with its stamp and its outcome. Own format.
use Rattle.std.specs.Prelude.{ℕ, ◌+◌, List, [], ◌∷◌, ◌++◌, codes, decimal, length}
use Rattle.aid_filings.specs.declared.filing.Filing.{Filing}
use Rattle.aid_filings.specs.declared.reply.Outcome.{Outcome}
use Rattle.office_reports.specs.Columns.{table}
use Rattle.format_filings.specs.Replies.{outcome_text}
use Rattle.law_terms.specs.Days.{day_text}
use Rattle.office_export.specs.Lines.{line_of as line}
use Rattle.format_filings.specs.WrittenRows.{row_text}
use Rattle.office_history.specs.Answer.{outcome_of}
use Rattle.aid_stamps.specs.declared.stamp.Stamp.{Stamp}

-- a clerk's name, or a hyphen where there is none
abbrev pub clerk_text : List ℕ → List ℕ
clerk_text [] = codes "-"
clerk_text (byte ∷ bytes) = byte ∷ bytes

-- POSITION DAY CLERK ROW OUTCOME
abbrev pub list_line : ℕ → Stamp → Filing → Outcome → List ℕ
list_line position stamp f outcome = line (decimal position ∷ day_text stamp.day ∷ clerk_text stamp.clerk ∷ row_text f ∷ outcome_text outcome ∷ [])

-- The lines of filings, the oldest first. The filings and their stamps are read newest first: behind the lines of those
-- before it comes a filing's own, with its position, which counts from 1, and the outcome of its admission.
abbrev pub list_lines : List Filing → List Stamp → List (List ℕ)
list_lines [] stamps = []
list_lines (f ∷ past) [] = []
list_lines (f ∷ past) (stamp ∷ stamps) = list_lines past stamps ++ list_line (length past + 1) stamp f (outcome_of past f) ∷ []

-- the list of a history and its stamps
abbrev pub list_sheet : List Filing → List Stamp → List ℕ
list_sheet past stamps = table (list_lines past stamps)
