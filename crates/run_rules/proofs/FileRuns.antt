-- What a run of `file` does.
use Rattle.std.proofs.Common.{◌≡◌, ℕ, List, Option, Some, Result, Ok, Err, refl, subst}
use Rattle.io_traits.specs.declared.sink.Sink.{Ghosts as SinkGhosts}
use Rattle.io_traits.specs.declared.disk.Disk.{Ghosts}
use Rattle.log_machine.specs.Scheme.{Semantics, Scheme}
use Rattle.log_machine.specs.Texts.{Texts}
use Rattle.log_runs.specs.Counts.{Counts, written}
use Rattle.log_runs.specs.Ends.{Ends, EndsWith, stopped, well}
use Rattle.log_runs.specs.Lists.{DoesList, RanList, did, filing, founding, no_row}
use Rattle.log_runs.specs.Statuses.{ended_file, session_line, session_status}
use Rattle.log_runs.specs.declared.list.ListCommand.{ListCommand}
use Rattle.log_runs.specs.declared.list.ListCommand.TheVariants.{File}
use Rattle.log_runs.specs.declared.stop.RunStop.{RunStop}
use Rattle.log_runs.specs.declared.stop.RunStop.TheVariants as stops
use Rattle.log_session.specs.Edges.{Input}
use Rattle.log_session.specs.declared.stop.SessionStop.{SessionStop}
use Rattle.run_rules.specs.Runs.{FileRan}

ends_well : {K : Type 0} (sink : SinkGhosts K) (old new : K) (status : ℕ) → Ends sink old new (Ok tt) status → (new ≡ old) × (status ≡ 0)
ends_well sink old new _ (well same) = (same, refl)

ends_stopped : {K : Type 0} (sink : SinkGhosts K) (old new : K) (stop : SessionStop) (status : ℕ) → Ends sink old new (Err (stops.File stop)) status → EndsWith sink (session_line stop) (session_status stop) old new status
ends_stopped sink old new stop status (stopped _ _ is) = is

module _ {D K Entry Operation Response Error : Type 0} (disk : Ghosts D) (sink : SinkGhosts K) (scheme : Scheme Entry) (semantics : Semantics Entry Operation Response) (texts : Texts Operation Response Error) (rows_of : List ℕ → List texts.Meaning)
    (old new : D) (input : Input) where
  abbrev Ran : K → K → ℕ → Type 0
  Ran out out' status = FileRan disk sink scheme semantics texts rows_of old new input out out' status

  does_file : (out at out' : K) (command : ListCommand) (ended : Result Unit RunStop) (status : ℕ) → Some command ≡ Some File
      → DoesList disk scheme semantics texts rows_of old new input (written sink out at) command ended → sink.honest at ≡ sink.honest out → Ends sink at out' ended status → Ran out out' status
  does_file out at out' command ended status is (founding inner session) honest ends = absurd (let bad : ⊥ = cc in bad)
  does_file out at out' command ended status is (filing inner session) honest ends = record {
    at = at;
    ended = inner;
    session = session;
    honest = honest;
    done = λ ok. ends_well sink at out' status (subst (λ (e : Result Unit SessionStop). Ends sink at out' (ended_file e) status) ok ends);
    early = λ stop err. ends_stopped sink at out' stop status (subst (λ (e : Result Unit SessionStop). Ends sink at out' (ended_file e) status) err ends);
  }

  -- a run of a command that is `file`
  pub file_ran : (counts : Counts) (out out' : K) (command : Option ListCommand) (status : ℕ) → command ≡ Some File
      → RanList disk sink scheme semantics texts rows_of counts old new input out out' command status → Ran out out' status
  file_ran counts out out' command status is (no_row _ same unread cause ends) = absurd (let bad : ⊥ = cc in bad)
  file_ran counts out out' command status is (did it at ended _ does honest cause ends) = does_file out at out' it ended status is does honest ends
