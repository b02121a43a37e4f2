-- What answers a whole input.
use Rattle.std.specs.Prelude.{◌≡◌, ℕ, List, ◌++◌, IsTrue, Option, Result, Ok, Err, codes, decimal}
use Rattle.io_traits.specs.declared.sink.Sink.{Ghosts}
use Rattle.clock_hours.specs.Lines.{clock_text}
use Rattle.log_session.specs.Edges.{Input, IsReadWhole}
use Rattle.log_session.specs.Sessions.{IsUnread}
use Rattle.log_session.specs.declared.checking.CheckStop.TheVariants.{Reading, Write, NoMemory}
use Rattle.log_session.specs.declared.stop.ReadStop.{ReadStop}
use Rattle.log_runs.specs.Puts.{HasCut, HasPut}
use Rattle.log_runs.specs.declared.stop.RunStop.{RunStop}
use Rattle.log_runs.specs.declared.stop.RunStop.TheVariants.{Check}
use Rattle.aid_types.specs.Limits.{most_exported, most_filings}
use Rattle.hex.specs.Hex.{encode_lower}
use Rattle.audit.specs.Findings.{FindsBy}
use Rattle.audit.specs.declared.finding.Finding.{Finding}
use Rattle.audit.specs.declared.finding.Finding.TheVariants.{Yes, No}
use Rattle.office_export.specs.Exports.{lines_of}
use Rattle.audit.specs.declared.note.Note.{Note}
use Rattle.audit.specs.declared.words.AuditCommand.{AuditCommand}
use Rattle.audit.specs.declared.words.AuditCommand.TheVariants.{Audit, Clock, Whole}

-- yes FILINGS STANDINGS SEAL, or no LINE CAUSE
abbrev pub finding_line : Finding → List ℕ
finding_line (Yes filings standings seal) =
    codes "yes " ++ decimal filings ++ codes " " ++ decimal standings ++ codes " " ++ encode_lower seal.bytes ++ codes "\n"
finding_line (No line cause) = codes "no " ++ decimal line ++ codes " " ++ decimal cause ++ codes "\n"

-- the text is the line of what is found in an input that is held against a note, where there is one
abbrev pub IsFindingText : ℕ → Option Note → List ℕ → List ℕ → Type 0
IsFindingText most note input text = (finding : Finding) × FindsBy most (lines_of input) note finding × (text ≡ finding_line finding)

-- the one text that answers an input of rows about clock-hour programs
abbrev pub IsClockText : List ℕ → List ℕ → Type 0
IsClockText input text = text ≡ clock_text input

-- the texts that answer an input, by the command
abbrev pub answers_of : AuditCommand → List ℕ → List ℕ → Type 0
answers_of (Audit note) input text = IsFindingText most_exported note input text
answers_of (Whole note) input text = IsFindingText most_filings note input text
answers_of Clock input text = IsClockText input text

-- What becomes of an input of at most so many bytes that a text answers, up to how that ends. The whole input is read before the text
-- is made, and the whole text is made before any of it is written.
pub data AnswersInput {K : Type 0} (limit : ℕ) (answers : List ℕ → List ℕ → Type 0) (sink : Ghosts K) (input : Input) (old new : K) : Result Unit RunStop → Type 0 where
  -- the input wasn't read, and nothing is written
  unread : (stop : ReadStop) → IsUnread stop limit input → new ≡ old → AnswersInput limit answers sink input old new (Err (Check (Reading stop)))
  -- it was, there was no memory for the text, and nothing is written
  starved : IsReadWhole limit input → new ≡ old → AnswersInput limit answers sink input old new (Err (Check NoMemory))
  -- a text that answers what was read is written
  answered : (read text : List ℕ) → IsReadWhole limit input → (IsTrue input.honest → read ≡ input.before) → answers read text → HasPut sink text old new
      → AnswersInput limit answers sink input old new (Ok tt)
  -- or it is cut short, and a write failed
  cut : (read text : List ℕ) → IsReadWhole limit input → (IsTrue input.honest → read ≡ input.before) → answers read text → HasCut sink text old new
      → AnswersInput limit answers sink input old new (Err (Check Write))
