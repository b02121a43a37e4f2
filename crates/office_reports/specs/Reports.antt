-- The four reports on a history, its newest filing first, and that of stamps.
use Rattle.std.specs.Prelude.{ℕ, ◌+◌, List, [], ◌∷◌, map}
use Rattle.aid_filings.specs.declared.filing.Filing.{Filing}
use Rattle.aid_stamps.specs.declared.stamp.Stamp.{Stamp}
use Rattle.office_reports.specs.Columns.{table}
use Rattle.office_reports.specs.Lines.{award_line, lifetime_line, return_line, stamp_line, standing_line}
use Rattle.office_reports.specs.Rows.{award_rows, lifetime_rows, return_rows, standing_rows}

-- where each student with an application in the year stands
abbrev pub standing_report : List Filing → ℕ → List ℕ
standing_report past year = table (map standing_line (standing_rows past year))

-- what each student has of each program in each term of the year
abbrev pub award_report : List Filing → ℕ → List ℕ
award_report past year = table (map award_line (award_rows past year))

-- the withdrawals of the year
abbrev pub return_report : List Filing → ℕ → List ℕ
return_report past year = table (map return_line (return_rows past year))

-- the lifetime units of each student who used some
abbrev pub lifetime_report : List Filing → List ℕ
lifetime_report past = table (map lifetime_line (lifetime_rows past))

-- the lines of stamps, the first of them at this position
abbrev pub lines_from : ℕ → List Stamp → List (List ℕ)
lines_from position [] = []
lines_from position (s ∷ stamps) = stamp_line position s ∷ lines_from (position + 1) stamps

-- the stamps of all filings, the oldest first, by position, which counts from 1
abbrev pub stamp_report : List Stamp → List ℕ
stamp_report stamps = table (lines_from 1 stamps)
