-- The texts that tell of the seal of an office's filings and stamps, the newest first of both. Own.
use Rattle.std.specs.Prelude.{ℕ, List, [], ◌∷◌, ◌++◌, length}
use Rattle.aid_filings.specs.declared.filing.Filing.{Filing}
use Rattle.aid_seals.specs.Seals.{sealed_line}
use Rattle.aid_stamps.specs.declared.stamp.Stamp.{Stamp}
use Rattle.office_export.specs.Seals.{office_seal}
use Rattle.office_reports.specs.Columns.{table}

-- the line that tells of it
abbrev pub seal_report : List Filing → List Stamp → List ℕ
seal_report past stamps = sealed_line (length past) (office_seal past stamps)

-- such a line of each front of the list, that of no filing first
abbrev pub seal_lines : List Filing → List Stamp → List (List ℕ)
seal_lines [] stamps = seal_report [] [] ∷ []
seal_lines (f ∷ past) [] = []
seal_lines (f ∷ past) (s ∷ stamps) = seal_lines past stamps ++ seal_report (f ∷ past) (s ∷ stamps) ∷ []

-- all of them, and how many they are
abbrev pub seals_report : List Filing → List Stamp → List ℕ
seals_report past stamps = table (seal_lines past stamps)
