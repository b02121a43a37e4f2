-- What the status of a run shows.
use Rattle.std.proofs.Common.{◌≡◌, ℕ, List, Result, Ok, Err, ap, arith, length, refl, subst}
use Rattle.io_traits.specs.declared.sink.Sink.{Ghosts as SinkGhosts}
use Rattle.io_traits.specs.declared.disk.Disk.{Ghosts}
use Rattle.log_session.specs.Edges.{Input}
use Rattle.run_office.specs.Rounds.{PolicyAnswers}
use Rattle.run_office.specs.Ran.{Does, FileRan, Ran, booking, checking_book, checking_rows, did, filing, founding, funding, generating, no_memory, no_row, quoting, reporting, unread_words}
use Rattle.aid_stamps.specs.declared.stamp.Stamp.{Stamp}
use Rattle.run_words.specs.declared.command.Command.{Command}
use Rattle.run_words.specs.declared.command.Command.TheVariants as commands
use Rattle.log_runs.specs.Counts.{Counts, Shows, written}
use Rattle.log_runs.specs.Ends.{Ends, EndsWith, stopped, well}
use Rattle.log_runs.specs.Statuses.{ended_file, fault_line, session_line, session_status, status_of}
use Rattle.log_session.specs.Sessions as sessions
use Rattle.log_session.specs.declared.stop.ReadStop.TheVariants as reading
use Rattle.log_session.specs.declared.stop.SessionStop.{SessionStop}
use Rattle.log_session.specs.declared.stop.SessionStop.TheVariants.{Reading}
use Rattle.log_runs.specs.declared.stop.RunStop.{RunStop}
use Rattle.log_runs.specs.declared.stop.RunStop.TheVariants.{File, Usage}
use Rattle.log_runs.proofs.Shown.{ends_show}

-- of a whole run
pub run_shows : {D K : Type 0} (names : List (List ℕ)) (gives : PolicyAnswers) (disk : Ghosts D) (sink : SinkGhosts K) (counts : Counts) (words : List (List ℕ)) (old new : D) (input : Input) (out out' : K) (status : ℕ)
    → Ran names gives disk sink counts words old new input out out' status → Shows counts status
run_shows names gives disk sink counts words old new input out out' status (no_row _ none same unread cause ends) = ends_show sink out out' counts (Err Usage) status cause ends
run_shows names gives disk sink counts words old new input out out' status (unread_words _ same unread cause ends) = ends_show sink out out' counts (Err no_memory) status cause ends
run_shows names gives disk sink counts words old new input out out' status (did stamp command at ended _ is does same cause ends) = ends_show sink at out' counts ended status cause ends

ends_well : {K : Type 0} (sink : SinkGhosts K) (old new : K) (status : ℕ) → Ends sink old new (Ok tt) status → (new ≡ old) × (status ≡ 0)
ends_well sink old new _ (well same) = (same, refl)

pub ends_stopped : {K : Type 0} (sink : SinkGhosts K) (old new : K) (stop : RunStop) (status : ℕ) → Ends sink old new (Err stop) status → EndsWith sink (fault_line stop) (status_of stop) old new status
ends_stopped sink old new stop status (stopped _ _ is) = is

-- what `file` did is a run of it
pub file_ran : {D K : Type 0} {gives : PolicyAnswers} (disk : Ghosts D) (sink : SinkGhosts K) (old new : D) (input : Input) (out at out' : K) (stamp : Stamp) (command : Command) (ended : Result Unit RunStop) (status : ℕ) → command ≡ commands.File
    → Does gives disk old new input (written sink out at) stamp command ended → sink.honest at ≡ sink.honest out → Ends sink at out' ended status → FileRan disk sink stamp old new input out out' status
file_ran disk sink old new input out at out' stamp command ended status is (filing inner session) honest ends = record {
  at = at;
  ended = inner;
  session = session;
  honest = honest;
  done = λ ok. ends_well sink at out' status (subst (λ (e : Result Unit SessionStop). Ends sink at out' (ended_file e) status) ok ends);
  early = λ stop err. ends_stopped sink at out' (File stop) status (subst (λ (e : Result Unit SessionStop). Ends sink at out' (ended_file e) status) err ends);
}
file_ran disk sink old new input out at out' stamp command ended status is (founding inner session) honest ends = absurd (let bad : ⊥ = cc in bad)
file_ran disk sink old new input out at out' stamp command ended status is (booking book inner session) honest ends = absurd (let bad : ⊥ = cc in bad)
file_ran disk sink old new input out at out' stamp command ended status is (quoting quote inner opens) honest ends = absurd (let bad : ⊥ = cc in bad)
file_ran disk sink old new input out at out' stamp command ended status is (reporting report inner reports) honest ends = absurd (let bad : ⊥ = cc in bad)
file_ran disk sink old new input out at out' stamp command ended status is (funding fund inner planned) honest ends = absurd (let bad : ⊥ = cc in bad)
file_ran disk sink old new input out at out' stamp command ended status is (generating generate inner session) honest ends = absurd (let bad : ⊥ = cc in bad)
file_ran disk sink old new input out at out' stamp command ended status is (checking_rows _ same checks) honest ends = absurd (let bad : ⊥ = cc in bad)
file_ran disk sink old new input out at out' stamp command ended status is (checking_book _ same checks) honest ends = absurd (let bad : ⊥ = cc in bad)

-- a run of it that has no memory for its words is a session whose input wasn't read
pub unread_ran : {D K : Type 0} (disk : Ghosts D) (sink : SinkGhosts K) (stamp : Stamp) (here : D) (input : Input) (out out' : K) (status : ℕ) → input.after ≡ input.before
    → Ends sink out out' (Err no_memory) status → FileRan disk sink stamp here here input out out' status
unread_ran disk sink stamp here input out out' status same ends = record {
  at = out;
  ended = Err (Reading reading.NoMemory);
  session = sessions.unread reading.NoMemory (λ honest. let size = ap length same in omega (arith, size)) refl refl;
  honest = refl;
  done = λ ok. absurd (let bad : ⊥ = cc in bad);
  early = λ stop err. let is : Reading reading.NoMemory ≡ stop = cc in
      subst (λ (s : SessionStop). EndsWith sink (session_line s) (session_status s) out out' status) is (ends_stopped sink out out' no_memory status ends);
}
