-- Why a round that can be done ends early: an edge failed, or there was no memory.
use Rattle.std.proofs.Common.{inl, inr, refl, ◌≤◌, ℕ, List, length, Result, IsTrue}
use Rattle.std.specs.Prelude.{IfErr}
use Rattle.io_traits.specs.declared.disk.Disk.{Ghosts}
use Rattle.log_machine.specs.Scheme.{Semantics, Scheme}
use Rattle.log_machine.specs.Texts.{Texts}
use Rattle.log_session.specs.Edges.{Input, Output}
use Rattle.log_session.specs.declared.stop.SessionStop.{SessionStop}
use Rattle.log_runs.specs.Lists.{IsListAt}
use Rattle.log_runs.specs.Statuses.{ended_file, status_of}
use Rattle.log_runs.proofs.Excused.{IsExcused, filed_by, unopened_by, unread_by}
use Rattle.work_rounds.specs.Headed.{Headed, HeadedSession, unopened, unplanned, unheaded, filed, unread, read}

module _ {D Entry Operation Response Error : Type 0} (disk : Ghosts D) (scheme : Scheme Entry) (semantics : Semantics Entry Operation Response) (texts : Texts Operation Response Error) (old new : D) (output : Output) (can : IsListAt scheme (disk.tells old)) where
  headed_by : (plans : List Entry → List ℕ → List Operation → List ℕ → Type 0) (ended : Result Unit SessionStop) → Headed disk scheme semantics texts plans old new output ended
      → IfErr (ended_file ended) (λ stop. IsExcused (status_of stop))
  headed_by plans ended (unopened error not same) = unopened_by disk scheme old new can.0 can.1 can.2 error not
  headed_by plans ended (unplanned past is same) = inr (inr (inr refl))
  headed_by plans ended (unheaded past heading operations closing is planned cut) = inr (inl refl)
  headed_by plans ended (filed past at heading operations closing text inner is planned wrote closes) = filed_by disk scheme old new can.0 can.1 can.2 inner

  pub headed_excused : (plans : List ℕ → List Entry → List ℕ → List Operation → List ℕ → Type 0) (limit : ℕ) (input : Input) (ended : Result Unit SessionStop)
      → HeadedSession disk scheme semantics texts plans limit old new input output ended → IsTrue input.honest → length input.before ≤ limit → IfErr (ended_file ended) (λ stop. IsExcused (status_of stop))
  headed_excused plans limit input ended (unread stop why same silent) source short = unread_by stop limit input why source short
  headed_excused plans limit input ended (read text inner is are headed) source short = headed_by (plans text) inner headed
