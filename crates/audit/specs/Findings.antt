-- What an audit finds in the lines of a text. A history has its newest filing first.
use Rattle.std.specs.Prelude.{◌≡◌, ◌≢◌, ◌⊎◌, ℕ, ◌+◌, ◌<◌, ◌≤◌, Bool, true, false, List, [], ◌∷◌, ◌++◌, length, map, reverse, Option, Some, None, if◌then◌else◌}
use Rattle.std.specs.List.{AllByRecursion, AllPairs}
use Rattle.aid_filings.specs.declared.filing.Filing.{Filing}
use Rattle.aid_types.specs.declared.award.Refusal.{Refusal}
use Rattle.format_bytes.specs.Numbers.{IsFiling}
use Rattle.office_history.specs.Answer.{IsLegal, breaks, standing_of}
use Rattle.office_history.specs.Past.{key_at}
use Rattle.office_export.specs.Forms.{end_form, filing_form, form_of, standing_form}
use Rattle.office_export.specs.Lines.{end_line, filing_line, payload_line, standing_line}
use Rattle.office_export.specs.Seals.{office_name, office_seal, payloads}
use Rattle.aid_seals.specs.Seals.{first_of, seal}
use Rattle.aid_stamps.specs.Stamps.{IsStamp}
use Rattle.aid_stamps.specs.declared.stamp.Stamp.{Stamp}
use Rattle.audit.specs.declared.finding.Finding.{Finding}
use Rattle.audit.specs.declared.finding.Finding.TheVariants.{Yes, No}
use Rattle.audit.specs.declared.note.Note.{Note}

-- a student and a year
abbrev pub Asked : Type 0
Asked = ℕ × ℕ

pub record IsAsked (asked : Asked) : Type 0 where
  pub student : 1 ≤ asked.0
  pub most_student : asked.0 ≤ 999999999999
  pub year : 2000 ≤ asked.1
  pub most_year : asked.1 ≤ 2099

-- the line that tells where a student stands on all filings
abbrev pub right_line : List Filing → Asked → List ℕ
right_line past asked = standing_line asked.0 asked.1 (standing_of past asked.0 asked.1)

-- the end line, where it was there
abbrev pub end_lines : List Filing → List Stamp → List Asked → Bool → List (List ℕ)
end_lines past stamps asked ended = if ended then end_line (length past) (length asked) (office_seal past stamps) ∷ [] else []

-- each filing has its stamp
pub record AreStamped (past : List Filing) (stamps : List Stamp) : Type 0 where
  pub paired : length stamps ≡ length past
  pub are_stamps : AllByRecursion IsStamp stamps

-- Lines are good so far: at most so many filings that are legal, each under its stamp in the one spelling of both; where students stand
-- on all of them, the students rising; and then, where it was there, the end line with the right counts and the seal of the filings.
pub record AreGood (most : ℕ) (lines : List (List ℕ)) (past : List Filing) (stamps : List Stamp) (asked : List Asked) (ended : Bool) : Type 0 where
  pub whole : lines ≡ map payload_line (reverse (payloads past stamps)) ++ map (right_line past) asked ++ end_lines past stamps asked ended
  pub filings : AllByRecursion IsFiling past
  pub stamped : AreStamped past stamps
  pub legal : IsLegal past
  pub few : length past ≤ most
  pub standings : AllByRecursion IsAsked asked
  pub rise : AllPairs (λ s t. s.0 < t.0) asked

-- a line has no form, or stands out of order: behind the end line, or a filing behind a standing
pub data IsStray (asked : List Asked) (ended : Bool) (line : List ℕ) : Type 0 where
  formless : form_of line ≡ None → IsStray asked ended line
  behind_end : ended ≡ true → IsStray asked ended line
  behind_standing : form_of line ≡ Some filing_form → asked ≢ [] → IsStray asked ended line

-- a filing's line where filings may stand
pub record IsInPlace (asked : List Asked) (ended : Bool) (line : List ℕ) : Type 0 where
  pub form : form_of line ≡ Some filing_form
  pub before_end : ended ≡ false
  pub before_standings : asked ≡ []

-- students rise from those before on to this one
abbrev pub Rises : List Asked → ℕ → Type 0
Rises asked student = AllByRecursion (λ before. before.0 < student) asked

-- What is wrong behind good lines, the first cause that applies: 1 no form or out of order; 8 one filing more than an audit takes; 2 the
-- spelling of no filing under a stamp; 3 a key that was used before; 4 a rule that is broken; 5 a standing that isn't so, or whose
-- student doesn't rise; 6 wrong counts, or another seal; 7 no end line.
pub data IsBad (most : ℕ) (past : List Filing) (stamps : List Stamp) (asked : List Asked) (ended : Bool) : List (List ℕ) → ℕ → Type 0 where
  stray : (line : List ℕ) (rest : List (List ℕ)) → IsStray asked ended line → IsBad most past stamps asked ended (line ∷ rest) 1
  full : (line : List ℕ) (rest : List (List ℕ)) → IsInPlace asked ended line → length past ≡ most → IsBad most past stamps asked ended (line ∷ rest) 8
  unspelled : (line : List ℕ) (rest : List (List ℕ)) → IsInPlace asked ended line → length past < most
      → ((s : Stamp) (f : Filing) → IsStamp s → IsFiling f → line ≢ filing_line s f) → IsBad most past stamps asked ended (line ∷ rest) 2
  used : (s : Stamp) (f : Filing) (rest : List (List ℕ)) → IsInPlace asked ended (filing_line s f) → length past < most → IsStamp s → IsFiling f → key_at f.key past ≢ 0
      → IsBad most past stamps asked ended (filing_line s f ∷ rest) 3
  broken : (s : Stamp) (f : Filing) (refusal : Refusal) (rest : List (List ℕ)) → IsInPlace asked ended (filing_line s f) → length past < most → IsStamp s → IsFiling f
      → key_at f.key past ≡ 0 → breaks past f ≡ Some refusal → IsBad most past stamps asked ended (filing_line s f ∷ rest) 4
  wrong : (student year : ℕ) (line : List ℕ) (rest : List (List ℕ)) → ended ≡ false → form_of line ≡ Some (standing_form student year)
      → (line ≢ right_line past (student, year)) ⊎ (Rises asked student → ⊥) → IsBad most past stamps asked ended (line ∷ rest) 5
  counts : (line : List ℕ) (rest : List (List ℕ)) → ended ≡ false → form_of line ≡ Some end_form → line ≢ end_line (length past) (length asked) (office_seal past stamps)
      → IsBad most past stamps asked ended (line ∷ rest) 6
  missing : ended ≡ false → IsBad most past stamps asked ended [] 7

-- the counts and the seal of good lines
abbrev pub yes_of : List Filing → List Stamp → List Asked → Finding
yes_of past stamps asked = Yes (length past) (length asked) (record { bytes = office_seal past stamps })

-- what is found: all lines are good and the end line is the last; or some are, and behind them is the first bad one
pub data Finds (most : ℕ) (lines : List (List ℕ)) : Finding → Type 0 where
  yes : (past : List Filing) (stamps : List Stamp) (asked : List Asked) → AreGood most lines past stamps asked true → Finds most lines (yes_of past stamps asked)
  no : (front rest : List (List ℕ)) (past : List Filing) (stamps : List Stamp) (asked : List Asked) (ended : Bool) (cause : ℕ) → lines ≡ front ++ rest
      → AreGood most front past stamps asked ended → IsBad most past stamps asked ended rest cause → Finds most lines (No (length front + 1) cause)

-- the seal of the first so many filings
abbrev pub front_seal : ℕ → List Filing → List Stamp → List ℕ
front_seal front past stamps = seal office_name (first_of front (payloads past stamps))

-- What is found of a text that is held against a note, where there is one: as without it, but that a text whose lines are all good is
-- none at its last line where its first filings, as many as were noted, have another seal (9), or are fewer (10).
pub data FindsBy (most : ℕ) (lines : List (List ℕ)) : Option Note → Finding → Type 0 where
  unnoted : (finding : Finding) → Finds most lines finding → FindsBy most lines None finding
  bad : (note : Note) (line cause : ℕ) → Finds most lines (No line cause) → FindsBy most lines (Some note) (No line cause)
  stands : (note : Note) (past : List Filing) (stamps : List Stamp) (asked : List Asked) → AreGood most lines past stamps asked true → note.count ≤ length past
      → front_seal note.count past stamps ≡ note.seal.bytes → FindsBy most lines (Some note) (yes_of past stamps asked)
  rewritten : (note : Note) (past : List Filing) (stamps : List Stamp) (asked : List Asked) → AreGood most lines past stamps asked true → note.count ≤ length past
      → front_seal note.count past stamps ≢ note.seal.bytes → FindsBy most lines (Some note) (No (length lines) 9)
  fewer : (note : Note) (past : List Filing) (stamps : List Stamp) (asked : List Asked) → AreGood most lines past stamps asked true → length past < note.count
      → FindsBy most lines (Some note) (No (length lines) 10)

-- the lines are good to the end, with these filings under these stamps
abbrev pub AreExported : ℕ → List (List ℕ) → List Filing → List Stamp → Type 0
AreExported most lines past stamps = (asked : List Asked) × AreGood most lines past stamps asked true
