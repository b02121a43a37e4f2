-- What a run of the program does, by its command.
use Rattle.std.specs.Prelude.{◌≡◌, ◌==◌, ℕ, Bool, true, false, List, [], codes, Result, Ok, Err}
use Rattle.io_traits.specs.declared.sink.Sink.{Ghosts as SinkGhosts}
use Rattle.io_traits.specs.DiskState.{IsHonest, DiskState}
use Rattle.io_traits.specs.declared.disk.Disk.{Ghosts}
use Rattle.log_journal.specs.Stands.{IsUnborn}
use Rattle.office_log.specs.Openable.{IsOffice}
use Rattle.office_log.specs.Scheme.{office_scheme}
use Rattle.office_log.specs.Submits.{filing_semantics, office_semantics}
use Rattle.run_generate.specs.Texts.{rows_of_text, year_texts}
use Rattle.run_generate.specs.Counted.{year_counted, year_ending}
use Rattle.run_generate.specs.Payments.{year_semantics}
use Rattle.log_session.specs.Counted.{CountedSession}
use Rattle.log_session.specs.Planned.{Planned}
use Rattle.log_session.specs.Checks.{Checks}
use Rattle.log_session.specs.Edges.{Input, Output, HasWritten, HasWrittenShort}
use Rattle.log_session.specs.Reports.{Reports}
use Rattle.log_session.specs.Sessions.{FoundSession, Opens, Session}
use Rattle.log_session.specs.declared.checking.CheckStop.{CheckStop}
use Rattle.log_session.specs.declared.checking.CheckStop.TheVariants as checking
use Rattle.log_session.specs.declared.checking.CheckTally.{CheckTally}
use Rattle.log_session.specs.declared.stop.FoundStop.{FoundStop}
use Rattle.log_session.specs.declared.stop.ReadStop.TheVariants as reading
use Rattle.log_session.specs.declared.stop.SessionStop.{SessionStop}
use Rattle.log_session.specs.declared.stop.SessionStop.TheVariants.{Reading}
use Rattle.format_filings.specs.Lines.{fine_line, tally_line}
use Rattle.run_words.specs.Stamped.{IsStampedRow}
use Rattle.run_words.specs.declared.command.BookNumber.{BookNumber}
use Rattle.run_words.specs.declared.command.Command.{Command}
use Rattle.run_words.specs.declared.command.Command.TheVariants.{Found, File, Book, Quote, Report, Fund, Generate, CheckRows, CheckBook}
use Rattle.run_words.specs.declared.command.FundRequest.{FundRequest}
use Rattle.run_words.specs.declared.command.GenerateRequest.{GenerateRequest}
use Rattle.run_words.specs.declared.command.QuoteRequest.{QuoteRequest}
use Rattle.run_words.specs.declared.command.ReportRequest.{ReportRequest}
use Rattle.run_rows.specs.Asks.{book_rows, book_texts, desk_rows, desk_texts, quote_rows, quote_texts}
use Rattle.run_office.specs.Texts.{no_verdicts, report_text}
use Rattle.run_office.specs.Rounds.{PolicyAnswers, fund_plans, round_texts}
use Rattle.aid_stamps.specs.declared.stamp.Stamp.{Stamp}
use Rattle.log_stamps.specs.Rows.{stamped_rows, stamped_texts}
use Rattle.log_stamps.specs.Stamped.{stamped_semantics}
use Rattle.log_runs.specs.Counts.{Counts, HasCause, written}
use Rattle.log_runs.specs.Ends.{Ends, EndsWith, IsShort}
use Rattle.log_runs.specs.Statuses.{ended_check, ended_file, ended_found, session_line, session_status}
use Rattle.log_runs.specs.declared.stop.RunStop.{RunStop}
use Rattle.log_runs.specs.declared.stop.RunStop.TheVariants as stops

-- the text of a run up to a state of it, and from there on
abbrev pub up_to : List ℕ → Output → Output
up_to text output = record output { after = text }

abbrev pub from : List ℕ → Output → Output
from text output = record output { before = text }

-- What follows the lines of rows that were looked at: `rows N errors M`, where all of them were.
pub data Tallies (output : Output) : Result CheckTally CheckStop → Result Unit RunStop → Type 0 where
  tallied : (tally : CheckTally) → HasWritten (tally_line tally.rows tally.errors) output → Tallies output (Ok tally) (Ok tt)
  unwritten : (tally : CheckTally) → HasWrittenShort [] (tally_line tally.rows tally.errors) output → Tallies output (Ok tally) (Err (stops.Check checking.Write))
  starved : (tally : CheckTally) → output.after ≡ output.before → Tallies output (Ok tally) (Err (stops.Check checking.NoMemory))
  stopped : (stop : CheckStop) → output.after ≡ output.before → Tallies output (Err stop) (Err (stops.Check stop))

-- What is said of the rows of the input: a line for each, and then how many there are.
pub data ChecksRows (input : Input) (output : Output) : Result Unit RunStop → Type 0 where
  looked_at : (text : List ℕ) (checked : Result CheckTally CheckStop) (ended : Result Unit RunStop) → Checks desk_texts desk_rows fine_line 16777216 input (up_to text output) checked
      → Tallies (from text output) checked ended → ChecksRows input output ended

-- What is said of the text of the input as a book: one line.
pub data ChecksBook (input : Input) (output : Output) : Result Unit RunStop → Type 0 where
  looked_at : (checked : Result CheckTally CheckStop) → Checks book_texts (book_rows 1) fine_line 16777216 input output checked → ChecksBook input output (ended_check checked)

-- What a command under a stamp does, up to how it ends: to the disk, of the input, and with what it writes. `gives` tells what a call
-- of the policy at a place may give.
pub data Does {D : Type 0} (gives : PolicyAnswers) (disk : Ghosts D) (old new : D) (input : Input) (output : Output) (stamp : Stamp) : Command → Result Unit RunStop → Type 0 where
  -- `found`: an office is founded, and `founded` is written
  founding : (ended : Result Unit FoundStop) → FoundSession disk office_scheme old new (codes "founded\n") output ended
      → Does gives disk old new input output stamp Found (ended_found ended)
  -- `file`: the rows of the input are filed, and a line is written for each
  filing : (ended : Result Unit SessionStop)
      → Session disk office_scheme office_semantics (stamped_texts desk_texts) (λ text. stamped_rows stamp (desk_rows text)) 16777216 old new input output ended
      → Does gives disk old new input output stamp File (ended_file ended)
  -- `book`: the text of the input is filed as one book
  booking : (book : BookNumber) (ended : Result Unit SessionStop)
      → Session disk office_scheme office_semantics (stamped_texts book_texts) (λ text. stamped_rows stamp (book_rows book.number text)) 16777216 old new input output ended
      → Does gives disk old new input output stamp (Book book) (ended_file ended)
  -- `quote`: the office is asked, and the quote is written
  quoting : (quote : QuoteRequest) (ended : Result Unit SessionStop)
      → Opens disk office_scheme office_semantics (stamped_texts quote_texts) old new output (stamped_rows stamp (quote_rows quote)) ended
      → Does gives disk old new input output stamp (Quote quote) (ended_file ended)
  -- `report`: the office is opened, and the report on it is written
  reporting : (report : ReportRequest) (ended : Result Unit SessionStop) → Reports disk office_scheme (report_text report) old new output ended
      → Does gives disk old new input output stamp (Report report) (ended_file ended)
  -- `fund`: the payments of a round on the office are filed, a line is written for each, and behind them what is left of the fund
  funding : (fund : FundRequest) (ended : Result Unit SessionStop)
      → Planned disk office_scheme office_semantics (stamped_texts round_texts) (fund_plans gives stamp fund) old new output ended
      → Does gives disk old new input output stamp (Fund fund) (ended_file ended)
  -- `generate`: the rows of a generated year are filed, whose book is the text of the input, and what they come to is written; where
  -- the text is no book, its line alone is
  generating : (generate : GenerateRequest) (ended : Result Unit SessionStop)
      → CountedSession disk office_scheme (stamped_semantics (year_semantics filing_semantics)) (stamped_texts year_texts) year_counted year_ending no_verdicts
      (λ text. stamped_rows stamp (rows_of_text generate.students generate.seed text)) 16777216 old new input output ended
      → Does gives disk old new input output stamp (Generate generate) (ended_file ended)
  -- `check rows` and `check book`: lines are written, and no call is made on the disk
  checking_rows : (ended : Result Unit RunStop) → new ≡ old → ChecksRows input output ended → Does gives disk old new input output stamp CheckRows ended
  checking_book : (ended : Result Unit RunStop) → new ≡ old → ChecksBook input output ended → Does gives disk old new input output stamp CheckBook ended

-- why a run stops that has no memory for its words
abbrev pub no_memory : RunStop
no_memory = stops.File (Reading reading.NoMemory)

-- A run with these words over a disk and a sink. `names` are those of the policies, in their order.
pub data Ran {D K : Type 0} (names : List (List ℕ)) (gives : PolicyAnswers) (disk : Ghosts D) (sink : SinkGhosts K) (counts : Counts) (words : List (List ℕ)) (old new : D) (input : Input) (out out' : K) : ℕ → Type 0 where
  -- the words are no row: nothing is read, and no call is made on the disk
  no_row : (status : ℕ) → ((stamp : Stamp) (command : Command) → IsStampedRow names words stamp command → ⊥) → new ≡ old → input.after ≡ input.before
      → HasCause counts (Err stops.Usage) status → Ends sink out out' (Err stops.Usage) status
      → Ran names gives disk sink counts words old new input out out' status
  -- there was no memory to read the words: nothing is read, and no call is made on the disk
  unread_words : (status : ℕ) → new ≡ old → input.after ≡ input.before
      → HasCause counts (Err no_memory) status → Ends sink out out' (Err no_memory) status
      → Ran names gives disk sink counts words old new input out out' status
  -- they are the row of a command behind a stamp, which has written its text when the run ends
  did : (stamp : Stamp) (command : Command) (at : K) (ended : Result Unit RunStop) (status : ℕ) → IsStampedRow names words stamp command
      → Does gives disk old new input (written sink out at) stamp command ended → sink.honest at ≡ sink.honest out
      → HasCause counts ended status → Ends sink at out' ended status
      → Ran names gives disk sink counts words old new input out out' status

-- A run of `file` under a stamp over a disk and a sink: a session over the rows of the input, and behind what it writes, where it stopped, the line of the stop.
pub record FileRan {D K : Type 0} (disk : Ghosts D) (sink : SinkGhosts K) (stamp : Stamp) (old new : D) (input : Input) (out out' : K) (status : ℕ) : Type 0 where
  pub at : K
  pub ended : Result Unit SessionStop
  pub session : Session disk office_scheme office_semantics (stamped_texts desk_texts) (λ text. stamped_rows stamp (desk_rows text)) 16777216 old new input (written sink out at) ended
  pub honest : sink.honest at ≡ sink.honest out
  pub done : ended ≡ Ok tt → (out' ≡ at) × (status ≡ 0)
  pub early : (stop : SessionStop) → ended ≡ Err stop → EndsWith sink (session_line stop) (session_status stop) at out' status

-- whether a command reads the input
abbrev pub reads_input : Command → Bool
reads_input Found = false
reads_input (Quote quote) = false
reads_input (Report report) = false
reads_input (Fund fund) = false
reads_input _ = true

-- a command can be done: its input can be read, and the file is one for it
abbrev pub CanBeDone : Command → Bool → ℕ → DiskState → Type 0
CanBeDone Found honest size disk = IsHonest disk × IsUnborn disk.reads
CanBeDone File honest size disk = IsShort honest size × IsOffice disk
CanBeDone (Book book) honest size disk = IsShort honest size × IsOffice disk
CanBeDone (Quote quote) honest size disk = IsOffice disk
CanBeDone (Report report) honest size disk = IsOffice disk
CanBeDone (Fund fund) honest size disk = IsOffice disk
CanBeDone (Generate generate) honest size disk = IsShort honest size × IsOffice disk
CanBeDone CheckRows honest size disk = IsShort honest size
CanBeDone CheckBook honest size disk = IsShort honest size
