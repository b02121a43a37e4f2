-- What a run does that answers a whole input.
use Rattle.std.specs.Prelude.{◌≡◌, ◌++◌, ℕ, List, Option, Some, None, Result, Err}
use Rattle.io_traits.specs.declared.sink.Sink.{Ghosts}
use Rattle.log_session.specs.Edges.{Input}
use Rattle.log_runs.specs.Counts.{Counts, HasCause}
use Rattle.log_runs.specs.Ends.{Ends}
use Rattle.log_runs.specs.declared.stop.RunStop.{RunStop}
use Rattle.log_runs.specs.declared.stop.RunStop.TheVariants.{Usage}
use Rattle.audit.specs.Answers.{AnswersInput, answers_of}
use Rattle.audit.specs.Words.{limit_of}
use Rattle.audit.specs.declared.words.AuditCommand.{AuditCommand}

-- the counts of faults of a run that has no disk
abbrev pub edges : ℕ × ℕ → ℕ × ℕ → Counts
edges source sink = record { source = source; sink = sink; disk = (0, 0) }

-- A run, by the command that its words are, if any, and by its status.
pub data RanAudit {K : Type 0} (sink : Ghosts K) (counts : Counts) (input : Input) (old new : K) : Option AuditCommand → ℕ → Type 0 where
  -- the words are no row: nothing is read
  no_row : (status : ℕ) → input.after ≡ input.before → HasCause counts (Err Usage) status → Ends sink old new (Err Usage) status
      → RanAudit sink counts input old new None status
  -- they are the row of a command, which has written its text when the run ends
  did : (command : AuditCommand) (at : K) (ended : Result Unit RunStop) (status : ℕ) → AnswersInput (limit_of command) (answers_of command) sink input old at ended
      → HasCause counts ended status → Ends sink at new ended status → RanAudit sink counts input old new (Some command) status

-- a text of the command's that answers the input was written behind what stood
abbrev pub HasAnswered : AuditCommand → List ℕ → List ℕ → List ℕ → Type 0
HasAnswered command input before after = (text : List ℕ) × answers_of command input text × (after ≡ before ++ text)
