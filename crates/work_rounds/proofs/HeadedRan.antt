-- What a run of a round comes to, by what it did and how it ended.
use Rattle.std.proofs.Common.{◌≡◌, ℕ, ◌≤◌, List, Result, Ok, Err, refl, sym, subst}
use Rattle.std.specs.Prelude.{IfErr}
use Rattle.io_traits.specs.declared.sink.Sink.{Ghosts as SinkGhosts}
use Rattle.io_traits.specs.declared.disk.Disk.{Ghosts}
use Rattle.log_machine.specs.Scheme.{Scheme, Semantics}
use Rattle.log_machine.specs.Texts.{Texts}
use Rattle.log_session.specs.Edges.{Input}
use Rattle.log_session.specs.declared.stop.SessionStop.{SessionStop}
use Rattle.log_runs.specs.Counts.{HasCause, written}
use Rattle.log_runs.specs.Ends.{Ends, Moved}
use Rattle.log_runs.specs.Statuses.{ended_file, is_disk_fault, is_read_fault, is_write_fault, status_of}
use Rattle.log_runs.specs.declared.stop.RunStop.{RunStop}
use Rattle.log_runs.proofs.EndLaws.{sink_moved}
use Rattle.log_runs.proofs.Excused.{IsExcused}
use Rattle.work_rounds.specs.Headed.{HeadedSession}
use Rattle.work_rounds.specs.HeadedRounds.{RanRound}

-- a run whose session ended well did so
pub done_as : (ended : Result Unit SessionStop) → ended_file ended ≡ Ok tt → ended ≡ Ok tt
done_as (Ok done) is = refl
done_as (Err stop) is = absurd (let bad : ⊥ = cc in bad)

-- the stop of a run is that of its session
pub excused_as : {how : Result Unit RunStop} (ended : Result Unit SessionStop) → how ≡ ended_file ended → IfErr (ended_file ended) (λ stop. IsExcused (status_of stop)) → IfErr how (λ stop. IsExcused (status_of stop))
excused_as ended is excused = subst (λ (e : Result Unit RunStop). IfErr e (λ stop. IsExcused (status_of stop))) (sym is) excused

module _ {K : Type 0} (sink : SinkGhosts K) {out at out' : K} {source disk : ℕ × ℕ} {how : Result Unit RunStop} {status : ℕ} where
  -- which counts rose, over the round and the last line
  pub caused : Moved (is_read_fault how) source → Moved (is_write_fault how) (sink.faults out, sink.faults at) → Moved (is_disk_fault how) disk → sink.faults out ≤ sink.faults at → Ends sink at out' how status
      → HasCause (record { source = source; sink = (sink.faults out, sink.faults out'); disk = disk }) how status
  caused read wrote failed later ends = record { source = read; disk = failed; sink = sink_moved sink at out' how status (sink.faults out) later wrote ends }

module _ {D K Entry Operation Response Error : Type 0} (disk : Ghosts D) (sink : SinkGhosts K) (scheme : Scheme Entry) (semantics : Semantics Entry Operation Response) (texts : Texts Operation Response Error) (plans : List ℕ → List Entry → List ℕ → List Operation → List ℕ → Type 0)
    {old new : D} {input : Input} {out at out' : K} {source fault : ℕ × ℕ} {how : Result Unit RunStop} {status : ℕ} where
  -- the whole of a run
  pub ran_as : Moved (is_read_fault how) source → Moved (is_write_fault how) (sink.faults out, sink.faults at) → Moved (is_disk_fault how) fault → sink.faults out ≤ sink.faults at → sink.honest at ≡ sink.honest out
      → (ended : Result Unit SessionStop) → how ≡ ended_file ended → HeadedSession disk scheme semantics texts plans 16777216 old new input (written sink out at) ended → Ends sink at out' how status
      → RanRound disk sink scheme semantics texts plans (record { source = source; sink = (sink.faults out, sink.faults out'); disk = fault }) old new input out out' status
  ran_as read wrote failed later honest ended is session ends = record {
    at = at;
    ended = ended;
    session = session;
    honest = honest;
    cause = subst (λ (e : Result Unit RunStop). HasCause (record { source = source; sink = (sink.faults out, sink.faults out'); disk = fault }) e status) is (caused sink read wrote failed later ends);
    ends = subst (λ (e : Result Unit RunStop). Ends sink at out' e status) is ends;
  }
