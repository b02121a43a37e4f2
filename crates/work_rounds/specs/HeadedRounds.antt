-- What a run of a round does.
use Rattle.std.specs.Prelude.{◌≡◌, ℕ, List, Result}
use Rattle.io_traits.specs.declared.sink.Sink.{Ghosts as SinkGhosts}
use Rattle.io_traits.specs.declared.disk.Disk.{Ghosts}
use Rattle.log_machine.specs.Scheme.{Scheme, Semantics}
use Rattle.log_machine.specs.Texts.{Texts}
use Rattle.log_session.specs.Edges.{Input}
use Rattle.log_session.specs.declared.stop.SessionStop.{SessionStop}
use Rattle.log_runs.specs.Counts.{Counts, HasCause, written}
use Rattle.log_runs.specs.Ends.{Ends}
use Rattle.log_runs.specs.Statuses.{ended_file}
use Rattle.work_rounds.specs.Headed.{HeadedSession}

-- A run of a round over a disk and a sink: the round has written its text, and behind it, where it stopped, the line of the stop.
pub record RanRound {D K Entry Operation Response Error : Type 0} (disk : Ghosts D) (sink : SinkGhosts K) (scheme : Scheme Entry) (semantics : Semantics Entry Operation Response) (texts : Texts Operation Response Error) (plans : List ℕ → List Entry → List ℕ → List Operation → List ℕ → Type 0) (counts : Counts) (old new : D) (input : Input) (out out' : K) (status : ℕ) : Type 0 where
  pub at : K
  pub ended : Result Unit SessionStop
  pub session : HeadedSession disk scheme semantics texts plans 16777216 old new input (written sink out at) ended
  pub honest : sink.honest at ≡ sink.honest out
  pub cause : HasCause counts (ended_file ended) status
  pub ends : Ends sink at out' (ended_file ended) status
