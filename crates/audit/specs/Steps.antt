-- How good lines go on by one more.
use Rattle.std.specs.Prelude.{◌≡◌, ◌↔◌, ℕ, ◌<◌, Bool, true, false, List, [], ◌∷◌, ◌++◌, length, reverse, Option, Some, None}
use Rattle.aid_filings.specs.declared.filing.Filing.{Filing}
use Rattle.aid_stamps.specs.Stamps.{IsStamp}
use Rattle.aid_stamps.specs.declared.stamp.Stamp.{Stamp}
use Rattle.format_bytes.specs.Numbers.{IsFiling}
use Rattle.office_history.specs.Answer.{breaks}
use Rattle.office_history.specs.Past.{key_at}
use Rattle.office_export.specs.Forms.{end_form, form_of, standing_form}
use Rattle.office_export.specs.Lines.{end_line, filing_line}
use Rattle.office_export.specs.Seals.{office_seal}
use Rattle.audit.specs.Findings.{AreGood, Asked, Finds, IsAsked, IsBad, Rises, right_line}
use Rattle.audit.specs.declared.finding.Finding.TheVariants.{No}
use Rattle.audit.specs.declared.good_lines.GoodLines.{GoodLines}

-- what good lines told: the filings and their stamps, the students and years behind them, and whether the end line was there
pub record Told : Type 0 where
  pub past : List Filing
  pub stamps : List Stamp
  pub asked : List Asked
  pub ended : Bool

abbrev pub nothing : Told
nothing = record { past = []; stamps = []; asked = []; ended = false }

-- a line behind good lines is good too, and what they tell with it
pub data Goes (most : ℕ) (told : Told) (line : List ℕ) : Told → Type 0 where
  filed : (s : Stamp) (f : Filing) → told.ended ≡ false → told.asked ≡ [] → length told.past < most → IsStamp s → IsFiling f → key_at f.key told.past ≡ 0 → breaks told.past f ≡ None
      → line ≡ filing_line s f → Goes most told line (record { past = f ∷ told.past; stamps = s ∷ told.stamps; asked = []; ended = false })
  stood : (asked : Asked) → told.ended ≡ false → form_of line ≡ Some (standing_form asked.0 asked.1) → IsAsked asked → Rises told.asked asked.0
      → line ≡ right_line told.past asked
      → Goes most told line (record { past = told.past; stamps = told.stamps; asked = told.asked ++ asked ∷ []; ended = false })
  closed : told.ended ≡ false → form_of line ≡ Some end_form → line ≡ end_line (length told.past) (length told.asked) (office_seal told.past told.stamps)
      → Goes most told line (record { past = told.past; stamps = told.stamps; asked = told.asked; ended = true })

-- a student behind the last one
abbrev pub IsAbove : Option ℕ → ℕ → Type 0
IsAbove None student = Unit {0}
IsAbove (Some last) student = last < student

-- What the code keeps of what good lines told: the filings, in a list of its own kind, their stamps, and of the standings how many
-- there are and what rises behind them.
pub record Keeps {L : Type 0} (filings_of : L → List Filing) (lines : GoodLines L) (told : Told) : Type 0 where
  pub past : filings_of lines.list ≡ told.past
  pub stamps : reverse lines.stamps.items ≡ told.stamps
  pub standings : lines.standings ≡ length told.asked
  pub rises : (student : ℕ) → IsAbove lines.last student ↔ Rises told.asked student
  pub ended : lines.ended ≡ told.ended

-- a line is judged: it is good, and the code keeps what is told with it; or this is the cause why it is bad
abbrev pub IsJudged : {L : Type 0} → ℕ → (L → List Filing) → Told → List ℕ → Option ℕ → GoodLines L → Type 0
IsJudged most filings_of told line None after = (more : Told) × Goes most told line more × Keeps filings_of after more
IsJudged most filings_of told line (Some cause) after = (rest : List (List ℕ)) → IsBad most told.past told.stamps told.asked told.ended (line ∷ rest) cause

-- lines are read: all are good, the last is the end line, there are so many, and the code keeps what they told; or the first bad one
-- has this number, and this is the cause
abbrev pub IsRead : {L : Type 0} → ℕ → (L → List Filing) → List (List ℕ) → GoodLines L → ℕ → Option ℕ → Type 0
IsRead most filings_of lines after number None =
    (told : Told) × AreGood most lines told.past told.stamps told.asked true × Keeps filings_of after told × (number ≡ length lines)
IsRead most filings_of lines after number (Some cause) = Finds most lines (No number cause)
