-- What the rows of an input make of a list, and the text that tells it. A list is read newest first.
use Rattle.std.specs.Prelude.{◌≡◌, ◌<◌, ◌-◌, ℕ, List, [], ◌++◌, length, reverse}
use Rattle.std.specs.List.{flat_map}
use Rattle.aid_filings.specs.declared.filing.Filing.{Filing}
use Rattle.aid_stamps.specs.declared.stamp.Stamp.{Stamp}
use Rattle.csv.specs.Reading.{default_config, records, strip_bom}
use Rattle.log_stamps.specs.Entries.{entries, stamps_of}
use Rattle.log_stamps.specs.declared.entry.StampedEntry.{StampedEntry}
use Rattle.office_history.specs.Answer.{IsLegal}
use Rattle.office_amends.specs.Amended.{amended}
use Rattle.office_amends.specs.Gathered.{Gathers}
use Rattle.office_amends.specs.Lines.{amended_line, errors_line, refused_total}
use Rattle.office_amends.specs.Stood.{stood}
use Rattle.office_amends.specs.Texts.{told}
use Rattle.office_amends.specs.declared.correction.Correction.{Correction}
use Rattle.office_amends.specs.declared.plan.Amendment.{Amendment}
use Rattle.office_amends.specs.declared.plan.Amendment.TheVariants.{NotMade, Made}
use Rattle.std.specs.Global.{Vec}
use Rattle.office_amends.specs.declared.amending.Amended.{Amended}

-- the rows of an input come to these corrections of a list, and these are the lines of the rows that are none
abbrev pub Says : List (StampedEntry Filing) → ℕ → List ℕ → List Correction → List (List ℕ) → Type 0
Says past number bytes fits lines = Gathers (entries past) number (records default_config (strip_bom bytes)) fits lines

-- the text where rows are none: their lines, and how many there are
abbrev pub errors_text : List (List ℕ) → List ℕ
errors_text lines = flat_map (λ line. line) lines ++ errors_line (length lines)

-- the text where filings of the new list don't stand: what becomes of each, and how many don't
abbrev pub refused_text : Stamp → List Correction → List (StampedEntry Filing) → List ℕ
refused_text stamp fits past = told stamp fits past ++ refused_total (length (amended stamp fits past) - length (stood (amended stamp fits past)))

-- the text where all stand: what becomes of each, and how many there are
abbrev pub amended_text : Stamp → List Correction → List (StampedEntry Filing) → List ℕ
amended_text stamp fits past = told stamp fits past ++ amended_line (length (amended stamp fits past))

-- What an input makes of a list under the stamp of a run.
pub data Plans (past : List (StampedEntry Filing)) (stamp : Stamp) (number : ℕ) (bytes : List ℕ) : Amendment → Type 0 where
  -- rows are no corrections that fit
  wrong_rows : (fits : List Correction) (lines : List (List ℕ)) (text : Vec ℕ) → Says past number bytes fits lines → 0 < length lines → text.items ≡ errors_text lines
      → Plans past stamp number bytes (NotMade text)
  -- the new list isn't legal
  not_legal : (fits : List Correction) (text : Vec ℕ) → Says past number bytes fits [] → (IsLegal (entries (amended stamp fits past)) → ⊥) → text.items ≡ refused_text stamp fits past
      → Plans past stamp number bytes (NotMade text)
  -- it is, and was made
  legal : (fits : List Correction) (made : Amended) → Says past number bytes fits [] → IsLegal (entries (amended stamp fits past)) → made.text.items ≡ amended_text stamp fits past
      → made.office.history ≡ entries (amended stamp fits past) → made.stamps.items ≡ reverse (stamps_of (amended stamp fits past))
      → Plans past stamp number bytes (Made made)
