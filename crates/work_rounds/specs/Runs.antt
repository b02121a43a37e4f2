-- What a run of the work-study desk does.
use Rattle.std.specs.Prelude.{ℕ, ℤ, Bool, true, false, List, [], Option, Some, None, Result}
use Rattle.io_traits.specs.declared.sink.Sink.{Ghosts as SinkGhosts}
use Rattle.io_traits.specs.DiskState.{DiskState}
use Rattle.io_traits.specs.declared.disk.Disk.{Ghosts}
use Rattle.format_rows.specs.Meanings.{meanings}
use Rattle.format_rows.specs.TableRowFormat.{row_meaning}
use Rattle.format_rows.specs.declared.error.RowError.{RowError}
use Rattle.format_kinds.specs.Kinds.{key_slots}
use Rattle.work_rounds.specs.Fronts.{HeadedStands, RecoversHeaded}
use Rattle.work_rounds.specs.HeadedRounds.{RanRound}
use Rattle.log_machine.specs.Recovers as kept
use Rattle.log_machine.specs.Scheme.{Semantics, Scheme}
use Rattle.log_machine.specs.Texts.{Texts}
use Rattle.log_runs.specs.Counts.{Counts}
use Rattle.log_runs.specs.Ends.{IsShort}
use Rattle.log_runs.specs.Lists as lists
use Rattle.log_session.specs.Edges.{Input}
use Rattle.log_rules.specs.Lines.{table_texts}
use Rattle.log_rules.specs.Ruled.{semantics_of, scheme_of}
use Rattle.log_rules.specs.declared.response.RuleResponse.{RuleResponse}
use Rattle.work_rounds.specs.Plans.{round_plans, round_texts}
use Rattle.work_rounds.specs.Words.{WorkCommand, OfList, OfRound}
use Rattle.law_work.specs.declared.filing.WorkFiling.{WorkFiling}
use Rattle.law_work.specs.declared.facts.WorkOutcome.{WorkOutcome}
use Rattle.work_study.specs.Kinds.{work_kinds}
use Rattle.work_study.specs.Numbers.{code_of_work, numbers_of_work}
use Rattle.work_study.specs.Outcomes.{work_text}
use Rattle.work_study.specs.Ruling.{work_ruling}

-- ---- a work-study office as a list on a disk: how its filings are kept and judged, and what the rows of a text say
abbrev pub work_scheme : Scheme WorkFiling
work_scheme = scheme_of work_ruling

abbrev pub work_semantics : Semantics WorkFiling WorkFiling (RuleResponse WorkOutcome)
work_semantics = semantics_of work_ruling

-- what a row of `file` says, and the lines that answer it
abbrev pub work_texts : Texts WorkFiling (RuleResponse WorkOutcome) RowError
work_texts = table_texts code_of_work numbers_of_work work_text

-- what the rows of `file` say
abbrev pub work_rows : List ℕ → List (Result (ℕ × List ℤ) RowError)
work_rows text = meanings (row_meaning [] key_slots work_kinds) text

-- a file recovers a list of work-study filings, the newest first
abbrev pub RecoversWork : List ℕ → List WorkFiling → Type 0
RecoversWork file history = kept.Recovers work_scheme file history

-- what a call of the policy of a school may give on a need, an index and an intensity
abbrev pub SchoolGives : Type 1
SchoolGives = ℕ → ℕ → ℤ → ℕ → ℕ → Type 0

-- ---- by the command that the words say, if any
-- all that a run does, by how it ended
abbrev pub RanWork : {D K : Type 0} → SchoolGives → Ghosts D → SinkGhosts K → Counts → D → D → Input → K → K → Option WorkCommand → ℕ → Type 0
RanWork gives disk sink counts old new input out out' None status = lists.RanList disk sink work_scheme work_semantics work_texts work_rows counts old new input out out' None status
RanWork gives disk sink counts old new input out out' (Some (OfList it)) status = lists.RanList disk sink work_scheme work_semantics work_texts work_rows counts old new input out out' (Some it) status
RanWork gives disk sink counts old new input out out' (Some (OfRound r)) status = RanRound disk sink work_scheme work_semantics round_texts (round_plans (gives r.school) r) counts old new input out out' status

-- whether it reads the input: `file` and a round do
abbrev pub reads_input : Option WorkCommand → Bool
reads_input None = false
reads_input (Some (OfList it)) = lists.reads_input (Some it)
reads_input (Some (OfRound r)) = true

-- A file at a moment of it recovers the list before it, with what some rows in front of the input's add, or some awards in front of
-- a round's.
abbrev pub MayRecoverWork : SchoolGives → Option WorkCommand → Input → List WorkFiling → List ℕ → Type 0
MayRecoverWork gives None input past = lists.MayRecoverList work_scheme work_semantics work_texts work_rows None input past
MayRecoverWork gives (Some (OfList it)) input past = lists.MayRecoverList work_scheme work_semantics work_texts work_rows (Some it) input past
MayRecoverWork gives (Some (OfRound r)) input past = RecoversHeaded work_scheme work_semantics (round_plans (gives r.school) r) input past

-- the list before a command that works on one: the disk reads as it
abbrev pub StoodBefore : WorkCommand → List ℕ → List WorkFiling → Type 0
StoodBefore (OfList it) file past = lists.StoodBefore work_scheme it file past
StoodBefore (OfRound r) file past = RecoversWork file past

-- what each image recovers after a command that was done
abbrev pub StandsWork : SchoolGives → WorkCommand → Input → List WorkFiling → DiskState → Type 0
StandsWork gives (OfList it) input past told = lists.StandsList work_scheme work_semantics work_texts work_rows it input past told
StandsWork gives (OfRound r) input past told = HeadedStands work_scheme work_semantics (round_plans (gives r.school) r) input past told

-- a command can be done: its input can be read, and the file is one for it
abbrev pub CanBeDone : WorkCommand → Bool → ℕ → DiskState → Type 0
CanBeDone (OfList it) honest size disk = lists.CanBeDone work_scheme it honest size disk
CanBeDone (OfRound r) honest size disk = IsShort honest size × lists.IsListAt work_scheme disk
