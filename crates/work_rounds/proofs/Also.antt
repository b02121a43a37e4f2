-- A round that was planned by one relation was planned by any that follows from it.
use Rattle.std.proofs.Common.{inl, inr, ℕ, List, Result}
use Rattle.io_traits.specs.declared.sink.Sink.{Ghosts as SinkGhosts}
use Rattle.io_traits.specs.DiskState.{EachMoment, DiskState}
use Rattle.io_traits.specs.declared.disk.Disk.{Ghosts}
use Rattle.io_traits.proofs.Moments.{weaken}
use Rattle.log_machine.specs.Scheme.{Scheme, Semantics}
use Rattle.log_machine.specs.Texts.{Texts}
use Rattle.log_session.specs.Edges.{Input, Output}
use Rattle.log_session.specs.declared.stop.SessionStop.{SessionStop}
use Rattle.log_runs.specs.Counts.{Counts}
use Rattle.work_rounds.specs.Fronts.{HeadedStands, RecoversHeaded}
use Rattle.work_rounds.specs.Headed.{Headed, HeadedSession, unopened, unplanned, unheaded, filed, unread, read}
use Rattle.work_rounds.specs.HeadedRounds.{RanRound}

module _ {Entry Operation Response : Type 0} (scheme : Scheme Entry) (semantics : Semantics Entry Operation Response) (plans other : List ℕ → List Entry → List ℕ → List Operation → List ℕ → Type 0)
    (also : (text : List ℕ) (past : List Entry) (heading : List ℕ) (operations : List Operation) (closing : List ℕ) → plans text past heading operations closing → other text past heading operations closing) where
  module _ {D Error : Type 0} (disk : Ghosts D) (texts : Texts Operation Response Error) where
    headed_also : (text : List ℕ) (old new : D) (output : Output) (ended : Result Unit SessionStop) → Headed disk scheme semantics texts (plans text) old new output ended → Headed disk scheme semantics texts (other text) old new output ended
    headed_also text old new output ended (unopened error not same) = unopened error not same
    headed_also text old new output ended (unplanned past is same) = unplanned past is same
    headed_also text old new output ended (unheaded past heading operations closing is planned cut) = unheaded past heading operations closing is (also text past heading operations closing planned) cut
    headed_also text old new output ended (filed past at heading operations closing lines inner is planned wrote closes) =
        filed past at heading operations closing lines inner is (also text past heading operations closing planned) wrote closes

    session_also : (limit : ℕ) (old new : D) (input : Input) (output : Output) (ended : Result Unit SessionStop) → HeadedSession disk scheme semantics texts plans limit old new input output ended
        → HeadedSession disk scheme semantics texts other limit old new input output ended
    session_also limit old new input output ended (unread stop why same silent) = unread stop why same silent
    session_also limit old new input output ended (read text inner is are headed) = read text inner is are (headed_also text old new output inner headed)

    -- what a run does
    pub ran_also : {K : Type 0} (sink : SinkGhosts K) (counts : Counts) (old new : D) (input : Input) (out out' : K) (status : ℕ) → RanRound disk sink scheme semantics texts plans counts old new input out out' status
        → RanRound disk sink scheme semantics texts other counts old new input out out' status
    ran_also sink counts old new input out out' status ran = record {
      at = ran.at;
      ended = ran.ended;
      session = session_also 16777216 old new input _ ran.ended ran.session;
      honest = ran.honest;
      cause = ran.cause;
      ends = ran.ends;
    }

  -- what a file recovers at a moment of it, and behind it
  pub moments_also : (input : Input) (past : List Entry) (old new : DiskState) → EachMoment old new (RecoversHeaded scheme semantics plans input past) → EachMoment old new (RecoversHeaded scheme semantics other input past)
  moments_also input past old new each = weaken old new (RecoversHeaded scheme semantics plans input past) (RecoversHeaded scheme semantics other input past) one each
    where
      one : (c : List ℕ) → RecoversHeaded scheme semantics plans input past c → RecoversHeaded scheme semantics other input past c
      one c (inl r) = inl r
      one c (inr (text, heading, operations, closing, are, planned, r)) = inr (text, heading, operations, closing, are, also text past heading operations closing planned, r)

  pub stands_also : (input : Input) (past : List Entry) (told : DiskState) → HeadedStands scheme semantics plans input past told → HeadedStands scheme semantics other input past told
  stands_also input past told (text, heading, operations, closing, are, planned, each) = (text, heading, operations, closing, are, also text past heading operations closing planned, each)
