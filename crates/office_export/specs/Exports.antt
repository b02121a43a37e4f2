-- The export of a history for a year, and the lines of any text.
use Rattle.std.specs.Prelude.{ℕ, ◌==◌, List, [], ◌∷◌, ◌++◌, length, map, reverse, if◌then◌else◌}
use Rattle.std.specs.List.{concat, onto_first}
use Rattle.aid_stamps.specs.declared.stamp.Stamp.{Stamp}
use Rattle.aid_filings.specs.declared.filing.Filing.{Filing}
use Rattle.office_history.specs.Answer.{standing_of}
use Rattle.office_export.specs.Applicants.{applicants}
use Rattle.office_export.specs.Lines.{end_line, payload_line, standing_line}
use Rattle.office_export.specs.Seals.{office_seal, payloads}

-- all filings under their stamps, the oldest first; where each student with an application in the year stands on all of them; and
-- the counts of both, with the seal of the filings
abbrev pub export_lines : List Filing → List Stamp → ℕ → List (List ℕ)
export_lines past stamps year =
    map payload_line (reverse (payloads past stamps)) ++ map (λ student. standing_line student year (standing_of past student year)) (applicants past year)
    ++ end_line (length past) (length (applicants past year)) (office_seal past stamps) ∷ []

abbrev pub export_text : List Filing → List Stamp → ℕ → List ℕ
export_text past stamps year = concat (export_lines past stamps year)

-- the lines of a text, each with its line feed; bytes behind the last line feed are a line too
abbrev pub lines_of : List ℕ → List (List ℕ)
lines_of [] = []
lines_of (b ∷ text) = if b == 10 then (b ∷ []) ∷ lines_of text else onto_first b (lines_of text)
