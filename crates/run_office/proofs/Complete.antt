-- Why a command that can be done ends early: an edge failed, or there was no memory.
use Rattle.std.proofs.Common.{◌≡◌, ◌⊎◌, inl, inr, ℕ, ◌≤◌, List, length, Result, Ok, Err, IsTrue, refl, arith}
use Rattle.std.specs.Prelude.{IfErr}
use Rattle.io_traits.specs.Faults.{Rose}
use Rattle.io_traits.specs.DiskState.{IsHonest}
use Rattle.io_traits.specs.declared.disk.Disk.{Ghosts}
use Rattle.log_journal.specs.Head.{IsBorn}
use Rattle.log_machine.specs.Faulty.{IsFaultyAt}
use Rattle.log_machine.specs.Scheme.{Semantics, Scheme}
use Rattle.office_log.specs.Scheme.{office_scheme}
use Rattle.office_log.specs.Submits.{filing_semantics, office_semantics}
use Rattle.format_filings.specs.Lines.{fine_line}
use Rattle.log_session.specs.Counted.{Counted, CountedSession}
use Rattle.log_session.specs.Counted as counting
use Rattle.log_session.specs.Planned.{Planned}
use Rattle.log_session.specs.Planned as planning
use Rattle.log_session.specs.Checks.{Checks, LooksAt, Looks}
use Rattle.log_session.specs.Checks as looking
use Rattle.log_session.specs.Edges.{Input, Output}
use Rattle.log_session.specs.Reports.{Reports}
use Rattle.log_session.specs.Reports as telling
use Rattle.log_machine.specs.Texts.{Texts}
use Rattle.log_session.specs.declared.checking.CheckStop.{CheckStop}
use Rattle.log_session.specs.declared.checking.CheckTally.{CheckTally}
use Rattle.log_session.specs.declared.stop.SessionStop.{SessionStop}
use Rattle.aid_stamps.specs.declared.stamp.Stamp.{Stamp}
use Rattle.log_stamps.specs.Rows.{stamped_rows, stamped_texts}
use Rattle.log_stamps.specs.Stamped.{stamped_semantics}
use Rattle.run_words.specs.declared.command.Command.{Command}
use Rattle.run_generate.specs.Texts.{rows_of_text, year_texts}
use Rattle.run_generate.specs.Counted.{year_counted, year_ending}
use Rattle.run_generate.specs.Payments.{year_semantics}
use Rattle.run_rows.specs.Asks.{book_rows, book_texts, desk_rows, desk_texts, quote_rows, quote_texts}
use Rattle.run_office.specs.Texts.{no_verdicts, report_text}
use Rattle.run_office.specs.Rounds.{PolicyAnswers, fund_plans, round_texts}
use Rattle.run_office.specs.Ran.{CanBeDone, ChecksBook, ChecksRows, Does, founding, filing, booking, quoting, reporting, funding, generating, checking_rows, checking_book, Tallies, tallied, unwritten, starved, stopped, from, up_to}
use Rattle.io_traits.specs.declared.sink.Sink.{Ghosts as SinkGhosts}
use Rattle.log_runs.specs.Counts.{Counts, HasCause}
use Rattle.log_runs.specs.Ends.{Ends}
use Rattle.run_office.specs.Ran as run
use Rattle.log_runs.specs.Statuses.{check_status, ended_check, ended_file, status_of}
use Rattle.log_runs.specs.declared.stop.RunStop.{RunStop}
use Rattle.log_runs.proofs.Excused.{IsExcused, filed_by, founded_by, opened_by, session_by, unopened_by, unread_by}
use Rattle.log_runs.proofs.Shown.{ends_done}

-- a session over a born file that isn't damaged
module _ {D Entry : Type 0} (disk : Ghosts D) (scheme : Scheme Entry) (old new : D) (honest : IsHonest (disk.tells old)) (born : IsBorn scheme.header (disk.tells old).reads) (whole : (place : ℕ) → IsFaultyAt scheme (disk.tells old).reads place → ⊥) where
  reported_by : (text : List Entry → List ℕ) (output : Output) (ended : Result Unit SessionStop) → Reports disk scheme text old new output ended → IfErr (ended_file ended) (λ stop. IsExcused (status_of stop))
  reported_by text output ended (telling.unopened error u same) = unopened_by disk scheme old new honest born whole error u
  reported_by text output ended (telling.told past is wrote) = tt
  reported_by text output ended (telling.unwritten past is cut) = inr (inl refl)
  reported_by text output ended (telling.starved past is same) = inr (inr (inr refl))

  module _ {Operation Response Error : Type 0} (semantics : Semantics Entry Operation Response) (texts : Texts Operation Response Error) (output : Output) where
    module _ {Tally : Type 0} (counts : Tally → Response → Tally) (ending : Tally → List ℕ) (start : Tally) where
      counted_by : (left : List texts.Meaning) (ended : Result Unit SessionStop) → Counted disk scheme semantics texts counts ending start old new output left ended
          → IfErr (ended_file ended) (λ stop. IsExcused (status_of stop))
      counted_by left ended (counting.unopened error u same) = unopened_by disk scheme old new honest born whole error u
      counted_by left ended (counting.ended past at final error is counts wrote) = tt
      counted_by left ended (counting.unwritten past at final error is counts cut) = inr (inl refl)
      counted_by left ended (counting.untold past at final error is counts same) = inr (inr (inr refl))
      counted_by left ended (counting.stopped past at final stop is counts same) = filed_by disk scheme old new honest born whole (Err stop)

      counted_session_by : (rows_of : List ℕ → List texts.Meaning) (limit : ℕ) (input : Input) (ended : Result Unit SessionStop)
          → CountedSession disk scheme semantics texts counts ending start rows_of limit old new input output ended
          → IsTrue input.honest → length input.before ≤ limit → IfErr (ended_file ended) (λ stop. IsExcused (status_of stop))
      counted_session_by rows_of limit input ended (counting.unread stop is same silent) source short = unread_by stop limit input is source short
      counted_session_by rows_of limit input ended (counting.read left inner is are counts) source short = counted_by left inner counts

    planned_by : (plans : List Entry → List Operation → List ℕ → Type 0) (ended : Result Unit SessionStop) → Planned disk scheme semantics texts plans old new output ended
        → IfErr (ended_file ended) (λ stop. IsExcused (status_of stop))
    planned_by plans ended (planning.unopened error u same) = unopened_by disk scheme old new honest born whole error u
    planned_by plans ended (planning.unplanned past is same) = inr (inr (inr refl))
    planned_by plans ended (planning.filed past at operations closing inner is planned closes) = filed_by disk scheme old new honest born whole inner

-- rows that are looked at
looked_by : {Operation Response Error : Type 0} (texts : Texts Operation Response Error) (fine : ℕ → List ℕ) (output : Output) (rows : List (Result Operation Error)) (ended : Result CheckTally CheckStop)
    → Looks texts fine output rows ended → IfErr ended (λ stop. IsExcused (check_status stop))
looked_by texts fine output rows ended (looking.all _ tally wrote counts errors) = tt
looked_by texts fine output rows ended (looking.unwritten front row wrote) = inr (inl refl)
looked_by texts fine output rows ended (looking.starved front wrote) = inr (inr (inr refl))

checked_by : {Operation Response Error : Type 0} (texts : Texts Operation Response Error) (rows_of : List ℕ → List texts.Meaning) (fine : ℕ → List ℕ) (limit : ℕ) (input : Input) (output : Output) (ended : Result CheckTally CheckStop)
    → Checks texts rows_of fine limit input output ended → IsTrue input.honest → length input.before ≤ limit → IfErr ended (λ stop. IsExcused (check_status stop))
checked_by texts rows_of fine limit input output ended (looking.unread stop is same) source short = unread_by stop limit input is source short
checked_by texts rows_of fine limit input output ended (looking.read left inner is are looks) source short = looked_by texts fine output looks.rows inner looks.looks

tallied_by : (output : Output) (checked : Result CheckTally CheckStop) (ended : Result Unit RunStop) → Tallies output checked ended
    → IfErr checked (λ stop. IsExcused (check_status stop)) → IfErr ended (λ stop. IsExcused (status_of stop))
tallied_by output checked ended (tallied tally wrote) by = tt
tallied_by output checked ended (unwritten tally cut) by = inr (inl refl)
tallied_by output checked ended (starved tally same) by = inr (inr (inr refl))
tallied_by output checked ended (stopped stop same) by = by

check_ended_by : (checked : Result CheckTally CheckStop) → IfErr checked (λ stop. IsExcused (check_status stop)) → IfErr (ended_check checked) (λ stop. IsExcused (status_of stop))
check_ended_by (Ok tally) by = tt
check_ended_by (Err stop) by = by

rows_by : (input : Input) (output : Output) (ended : Result Unit RunStop) → ChecksRows input output ended → IsTrue input.honest → length input.before ≤ 16777216 → IfErr ended (λ stop. IsExcused (status_of stop))
rows_by input output ended (run.looked_at text checked _ checks tallies) source short =
    tallied_by (from text output) checked ended tallies (checked_by desk_texts desk_rows fine_line 16777216 input (up_to text output) checked checks source short)

book_by : (input : Input) (output : Output) (ended : Result Unit RunStop) → ChecksBook input output ended → IsTrue input.honest → length input.before ≤ 16777216 → IfErr ended (λ stop. IsExcused (status_of stop))
book_by input output ended (run.looked_at checked checks) source short = check_ended_by checked (checked_by book_texts (book_rows 1) fine_line 16777216 input output checked checks source short)

-- a command that can be done
done_by : {D : Type 0} (gives : PolicyAnswers) (disk : Ghosts D) (old new : D) (input : Input) (output : Output) (stamp : Stamp) (command : Command) (ended : Result Unit RunStop)
    → Does gives disk old new input output stamp command ended
    → CanBeDone command input.honest (length input.before) (disk.tells old) → IfErr ended (λ stop. IsExcused (status_of stop))
done_by gives disk old new input output stamp command ended (founding inner session) can = founded_by disk office_scheme old new _ output inner session can.0 can.1
done_by gives disk old new input output stamp command ended (filing inner session) can =
    session_by disk office_scheme old new can.1.0 can.1.1 can.1.2 office_semantics (stamped_texts desk_texts) output (λ text. stamped_rows stamp (desk_rows text)) 16777216 input inner session can.0.0 can.0.1
done_by gives disk old new input output stamp command ended (booking book inner session) can =
    session_by disk office_scheme old new can.1.0 can.1.1 can.1.2 office_semantics (stamped_texts book_texts) output (λ text. stamped_rows stamp (book_rows book.number text)) 16777216 input inner session can.0.0 can.0.1
done_by gives disk old new input output stamp command ended (quoting quote inner opens) can =
    opened_by disk office_scheme old new can.0 can.1 can.2 office_semantics (stamped_texts quote_texts) output (stamped_rows stamp (quote_rows quote)) inner opens
done_by gives disk old new input output stamp command ended (reporting report inner reports) can =
    reported_by disk office_scheme old new can.0 can.1 can.2 (report_text report) output inner reports
done_by gives disk old new input output stamp command ended (funding fund inner planned) can =
    planned_by disk office_scheme old new can.0 can.1 can.2 office_semantics (stamped_texts round_texts) output (fund_plans gives stamp fund) inner planned
done_by gives disk old new input output stamp command ended (generating generate inner session) can =
    counted_session_by disk office_scheme old new can.1.0 can.1.1 can.1.2 (stamped_semantics (year_semantics filing_semantics)) (stamped_texts year_texts) output year_counted year_ending no_verdicts
    (λ text. stamped_rows stamp (rows_of_text generate.students generate.seed text)) 16777216 input inner session can.0.0 can.0.1
done_by gives disk old new input output stamp command ended (checking_rows _ same checks) can = rows_by input output ended checks can.0 can.1
done_by gives disk old new input output stamp command ended (checking_book _ same checks) can = book_by input output ended checks can.0 can.1

-- where no edge failed, a command that can be done is done, or there was no memory
pub complete : {D K : Type 0} (gives : PolicyAnswers) (disk : Ghosts D) (sink : SinkGhosts K) (counts : Counts) (old new : D) (input : Input) (before : Output) (at out : K) (stamp : Stamp) (command : Command) (ended : Result Unit RunStop) (status : ℕ)
    → Does gives disk old new input before stamp command ended → HasCause counts ended status → Ends sink at out ended status → CanBeDone command input.honest (length input.before) (disk.tells old)
    → (Rose counts.source.0 counts.source.1 → ⊥) → (Rose counts.sink.0 counts.sink.1 → ⊥) → (Rose counts.disk.0 counts.disk.1 → ⊥) → (status ≡ 0) ⊎ (status ≡ 9)
complete gives disk sink counts old new input before at out stamp command ended status does cause ends can =
    ends_done sink counts at out ended status cause ends (done_by gives disk old new input before stamp command ended does can)
