-- How the lines of reports are written. Own format.
use Rattle.std.specs.Prelude.{ℕ, List, [], ◌∷◌, Option, Some, None, codes, decimal}
use Rattle.aid_types.specs.Cents.{cents_text}
use Rattle.aid_types.specs.Percents.{percent_text}
use Rattle.aid_types.specs.Whole.{whole_text}
use Rattle.aid_types.specs.Words.{formula_text, program_text, way_text}
use Rattle.aid_stamps.specs.declared.stamp.Stamp.{Stamp}
use Rattle.office_export.specs.Lines.{line_of as line}
use Rattle.office_reports.specs.Columns.{left, right}
use Rattle.law_terms.specs.Days.{day_text}
use Rattle.office_reports.specs.declared.rows.LifetimeOf.{LifetimeOf}
use Rattle.office_reports.specs.declared.rows.NetOf.{NetOf}
use Rattle.office_reports.specs.declared.rows.ReturnOf.{ReturnOf}
use Rattle.office_reports.specs.declared.rows.StandingOf.{StandingOf}

-- STUDENT FORMULA SAI WAY AWARD PAID USED
abbrev pub standing_line : StandingOf → List ℕ
standing_line s = line (
    right 12 (decimal s.student) ∷ formula_text s.row.formula ∷ right 7 (whole_text s.row.sai) ∷ left 10 (way_text s.row.way)
    ∷ right 6 (decimal s.row.scheduled) ∷ right 12 (cents_text s.row.paid) ∷ right 7 (decimal s.row.used) ∷ [])

-- SCHOOL STUDENT TERM PROGRAM NET
abbrev pub award_line : NetOf → List ℕ
award_line n = line (
    right 6 (decimal n.school) ∷ right 12 (decimal n.student) ∷ decimal n.term ∷ left 5 (program_text n.program)
    ∷ right 12 (cents_text n.cents) ∷ [])

-- the day on which a return is due, or none
abbrev pub due_text : Option ℕ → List ℕ
due_text (Some day) = day_text day
due_text None = codes "none"

-- SCHOOL STUDENT TERM PERCENT RETURNED OWED POST DUE
abbrev pub return_line : ReturnOf → List ℕ
return_line r = line (
    right 6 (decimal r.school) ∷ right 12 (decimal r.student) ∷ decimal r.term ∷ right 5 (percent_text r.percent)
    ∷ right 12 (cents_text r.returned) ∷ right 12 (cents_text r.owed) ∷ right 12 (cents_text r.post) ∷ due_text r.due ∷ [])

-- STUDENT PRIOR USED
abbrev pub lifetime_line : LifetimeOf → List ℕ
lifetime_line l = line (right 12 (decimal l.student) ∷ right 7 (decimal l.prior) ∷ right 7 (decimal l.used) ∷ [])

-- POSITION DAY CLERK
abbrev pub stamp_line : ℕ → Stamp → List ℕ
stamp_line position s = line (decimal position ∷ day_text s.day ∷ s.clerk ∷ [])
