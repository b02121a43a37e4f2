-- What a task comes to: that which its own call says.
use Rattle.std.specs.Prelude.{ℕ, List}
use Rattle.std.specs.Global.{Vec}
use Rattle.aid_stamps.specs.declared.stamp.Stamp.{Stamp}
use Rattle.audit.specs.Runs.{RanAudit}
use Rattle.audit.specs.Runs as audits
use Rattle.audit.specs.Words.{command_in as audit_command}
use Rattle.format_kinds.specs.Kinds.{key_slots}
use Rattle.io_traits.specs.declared.disk.Disk.{Ghosts}
use Rattle.io_traits.specs.declared.sink.Sink.{Ghosts as SinkGhosts}
use Rattle.io_traits.specs.declared.source.Source.{Ghosts as SourceGhosts}
use Rattle.law_loans.specs.Within.{IsWithinLoans}
use Rattle.law_loans.specs.declared.index.LoanIndex.{LoanIndex}
use Rattle.loans.specs.Kinds.{loan_kinds, loan_words}
use Rattle.loans.specs.Numbers.{code_of_loan, numbers_of_loan}
use Rattle.loans.specs.Outcomes.{loan_text}
use Rattle.loans.specs.Ruling.{loan_ruling}
use Rattle.loans.specs.declared.table.Loans.{Loans as LoanMarker}
use Rattle.log_rules.specs.Lines.{table_texts}
use Rattle.log_runs.specs.Counts.{Counts}
use Rattle.log_session.specs.Edges.{Input}
use Rattle.run_office.specs.Ran.{Ran}
use Rattle.run_office.specs.RanDesks.{RanDesks}
use Rattle.run_office.specs.Rounds.{PolicyAnswers}
use Rattle.run_office.specs.declared.desks.DeskInput.{DeskInput}
use Rattle.run_rules.specs.Desks.{RanRuledDesks}
use Rattle.run_rules.specs.Runs.{RanRuled, table_rows}
use Rattle.run_rules.specs.Words.{command_in as rule_command}
use Rattle.run_rules.specs.declared.desks.RuleDeskInput.{RuleDeskInput}
use Rattle.run_server.specs.RanWeb.{RanWeb}
use Rattle.desk_sheets.specs.Runs.{asked_by}
use Rattle.desk_sheets.specs.Words.{row_in}
use Rattle.log_rules.specs.Ruled.{scheme_of}
use Rattle.run_reports.specs.Runs.{RanReport}
use Rattle.run_reports.specs.Runs as reports
use Rattle.work_study.specs.Ruling.{work_ruling}
use Rattle.run_sheets.specs.Runs.{RanSheets}
use Rattle.run_builds.specs.Amendments.{Amending}
use Rattle.run_builds.specs.Comparisons.{Comparing}
use Rattle.run_builds.specs.Upgrades.{Upgrades}
use Rattle.run_builds.specs.declared.amendment.AmendRequest.{AmendRequest}
use Rattle.web_session.specs.Ports.{AcceptorState}
use Rattle.work_rounds.specs.Runs.{RanWork, SchoolGives}
use Rattle.work_rounds.specs.Words.{command_in as work_command}
use Rattle.run_program.specs.declared.task.Task.{Task}
use Rattle.run_program.specs.declared.task.Task.TheVariants as task

-- what is known of that on which tasks work: disks, disks that are only read, inputs of desks, ports, and the sink
pub record Outside (D B F P K : Type 0) : Type 1 where
  pub disk : Ghosts D
  pub to_read : Ghosts B
  pub desk : SourceGhosts F
  pub port : P → AcceptorState
  pub port_faults : P → ℕ
  pub sink : SinkGhosts K

-- the counts of faults of a run: of its input, of what it writes to, and of its disk
abbrev pub counts_of : {D B F P K : Type 0} → Outside D B F P K → ℕ × ℕ → K → K → D → D → Counts
counts_of of source out out' old new = record { source = source; sink = (of.sink.faults out, of.sink.faults out'); disk = (of.disk.faults old, of.disk.faults new) }

-- A task with these words, by its status. `names` and `gives` are the aid office's policies, `schools` and `grants` the work-study desk's.
pub data Performed {D B F P K Policy : Type 0} (names : List (List ℕ)) (gives : PolicyAnswers) (schools : List (ℕ × Policy)) (grants : SchoolGives) (of : Outside D B F P K) (source : ℕ × ℕ) (input : Input) (words : List (List ℕ)) (out out' : K)
    : Task D B F P → Task D B F P → ℕ → Type 0 where
  office : (old new : D) (status : ℕ) → Ran names gives of.disk of.sink (counts_of of source out out' old new) words old new input out out' status
      → Performed names gives schools grants of source input words out out' (task.Office old) (task.Office new) status
  -- (`left` are the desks' inputs as they are behind the run)
  office_desks : (old new : D) (desks desks' : Vec (DeskInput F)) (left : List (DeskInput F)) (status : ℕ) → RanDesks of.disk of.desk of.sink old new desks.items left out out' status
      → Performed names gives schools grants of source input words out out' (task.OfficeDesks old desks) (task.OfficeDesks new desks') status
  serve : (old new : D) (ports ports' : Vec P) (sessions : ℕ) (stamp : Stamp) (status : ℕ)
      → RanWeb of.disk of.sink of.port of.port_faults sessions stamp old new ports.items ports'.items out out' status
      → Performed names gives schools grants of source input words out out' (task.Serve old ports sessions stamp) (task.Serve new ports' sessions stamp) status
  upgrade : (from from' : B) (old new : D) (status : ℕ)
      → Upgrades of.to_read of.disk of.sink (record { source = (of.to_read.faults from, of.to_read.faults from'); target = (of.disk.faults old, of.disk.faults new); sink = (of.sink.faults out, of.sink.faults out') }) from old new out out' status
      → Performed names gives schools grants of source input words out out' (task.Upgrade from old) (task.Upgrade from' new) status
  amend : (from from' : B) (old new : D) (request : AmendRequest) (status : ℕ)
      → Amending of.to_read of.disk of.sink (record { input = source; source = (of.to_read.faults from, of.to_read.faults from'); target = (of.disk.faults old, of.disk.faults new); sink = (of.sink.faults out, of.sink.faults out') })
      request.stamp request.number input from old new out out' status
      → Performed names gives schools grants of source input words out out' (task.Amend from old request) (task.Amend from' new request) status
  loans : (old new : D) (status : ℕ)
      → RanRuled loan_ruling IsWithinLoans (table_texts code_of_loan numbers_of_loan loan_text) (table_rows loan_words key_slots loan_kinds) of.disk of.sink
      (counts_of of source out out' old new) (rule_command words) old new input out out' status
      → Performed names gives schools grants of source input words out out' (task.Loans old) (task.Loans new) status
  loan_desks : (old new : D) (desks desks' : Vec (RuleDeskInput F)) (left : List (RuleDeskInput F)) (status : ℕ)
      → RanRuledDesks LoanMarker LoanIndex loan_ruling code_of_loan numbers_of_loan loan_text (table_rows loan_words key_slots loan_kinds) of.disk of.desk of.sink old new desks.items left out out' status
      → Performed names gives schools grants of source input words out out' (task.LoanDesks old desks) (task.LoanDesks new desks') status
  work : (old new : D) (status : ℕ)
      → RanWork grants of.disk of.sink (counts_of of source out out' old new) old new input out out' (work_command schools words) status
      → Performed names gives schools grants of source input words out out' (task.Work old) (task.Work new) status
  sheet : (old new : B) (status : ℕ)
      → RanSheets of.to_read of.sink (reports.edges (of.sink.faults out, of.sink.faults out') (of.to_read.faults old, of.to_read.faults new)) words old new out out' status
      → Performed names gives schools grants of source input words out out' (task.Sheet old) (task.Sheet new) status
  loan_sheet : (old new : B) (status : ℕ)
      → RanReport of.to_read of.sink (scheme_of loan_ruling) (reports.edges (of.sink.faults out, of.sink.faults out') (of.to_read.faults old, of.to_read.faults new)) (asked_by (scheme_of loan_ruling) (row_in words)) old new out out' status
      → Performed names gives schools grants of source input words out out' (task.LoanSheet old) (task.LoanSheet new) status
  work_sheet : (old new : B) (status : ℕ)
      → RanReport of.to_read of.sink (scheme_of work_ruling) (reports.edges (of.sink.faults out, of.sink.faults out') (of.to_read.faults old, of.to_read.faults new)) (asked_by (scheme_of work_ruling) (row_in words)) old new out out' status
      → Performed names gives schools grants of source input words out out' (task.WorkSheet old) (task.WorkSheet new) status
  changes : (one one' other other' : B) (status : ℕ)
      → Comparing of.to_read of.to_read of.sink
      (record { old = (of.to_read.faults one, of.to_read.faults one'); new = (of.to_read.faults other, of.to_read.faults other'); sink = (of.sink.faults out, of.sink.faults out') }) one other out out' status
      → Performed names gives schools grants of source input words out out' (task.Changes one other) (task.Changes one' other') status
  audit : (status : ℕ) → RanAudit of.sink (audits.edges source (of.sink.faults out, of.sink.faults out')) input out out' (audit_command words) status
      → Performed names gives schools grants of source input words out out' task.Audit task.Audit status
